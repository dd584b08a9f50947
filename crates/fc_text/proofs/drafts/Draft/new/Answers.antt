use Rattle.std.proofs.Common.{◌∷◌, [], ◌<◌, false}
use Rattle.std.proofs.Common.{None, refl, subst}
use Rattle.fc_text.proofs.EmptyDraft.{empty_draft}
use Rattle.fc_text.proofs.drafts.Draft.new.Goals as goal

-- src/drafts.rt:29:5
pub returns-clause-none : goal.returns-clause-none
returns-clause-none c =
    empty_draft (record { columns = c.default.result; column_count = 0; cells = None ∷ None ∷ None ∷ None ∷ []; has_cells = false; homes = 0 ∷ 0 ∷ 0 ∷ 0 ∷ []; has_homes = false; tally = c.new.result }) c.default.ensures.long
    (λ k d lt. c.default.ensures.at k d (subst (λ n. k < n) c.default.ensures.long lt)) refl refl refl refl refl c.new.ensures
