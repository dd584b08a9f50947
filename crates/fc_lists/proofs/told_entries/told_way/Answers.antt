use Rattle.std.proofs.Common.{◌≡◌, ℕ, ◌∷◌, ◌∙◌, List, ap, sym, subst}
use Rattle.std.specs.Prelude.{IfNone}
use Rattle.fc_replay.specs.Token.{move_tokens}
use Rattle.fc_lists.specs.inner.Told.{RefusesWay}
use Rattle.fc_lists.proofs.ToldLemmas.{refuses_last, refuses_name}
use Rattle.fc_lists.proofs.told_entries.told_way.Goals as goal

pub returns-in_err-from-clause-refused : goal.returns-in_err-from-clause-refused
returns-in_err-from-clause-refused c =
    let start : move_tokens c.args.text.now ≡ move_tokens c.new-words.result.rest.now = ap move_tokens (sym c.new-words.ensures.rest) in
    subst (λ r. IfNone r (RefusesWay (move_tokens c.args.text.now))) (sym c.from_residual-in_err-from.ensures)
    (refuses_name (move_tokens c.args.text.now) (move_tokens c.next-2.new.self.rest.now) c.in_ok-_kind._kind.now c.in_ok-name.name.now
    (start ∙ c.in_ok-_kind.ensures.steps ∙ ap (λ (l : List (List ℕ)). c.in_ok-_kind._kind.now ∷ l) c.in_ok-name.ensures.steps) c.in_err-from.ensures.refused)

pub returns-in_err-to-clause-refused : goal.returns-in_err-to-clause-refused
returns-in_err-to-clause-refused c =
    let start : move_tokens c.args.text.now ≡ move_tokens c.new-words.result.rest.now = ap move_tokens (sym c.new-words.ensures.rest) in
    subst (λ r. IfNone r (RefusesWay (move_tokens c.args.text.now))) (sym c.from_residual-in_err-to.ensures)
    (refuses_last (move_tokens c.args.text.now) c.in_ok-last.ensures.last.0 (move_tokens c.next-2.new.self.rest.now) c.in_ok-_kind._kind.now c.in_ok-name.name.now
    c.in_ok-last.last.now (start ∙ c.in_ok-_kind.ensures.steps ∙ ap (λ (l : List (List ℕ)). c.in_ok-_kind._kind.now ∷ l) c.in_ok-name.ensures.steps)
    c.in_ok-last.ensures.last.1 c.in_err-to.ensures.refused)
