use Rattle.std.proofs.Common.{◌≡◌, ◌+◌, [], ◌∷◌, refl, sym, ◌∙◌, subst, ◌↔◌, inl, ⊎_elim, rules}
use Rattle.std.specs.List.{slice_split}
use Rattle.std.proofs.lemmas.List.{take_rest}
use Rattle.fc_text.specs.Line.{is_line_end}
use Rattle.fc_typed.proofs.AnyLemmas.{AnyOf, any_here, any_next}
use Rattle.fc_typed.proofs.MissingLemmas.{PartTellsHome, lines_tell}
use Rattle.fc_typed.proofs.TidyLemmas.{first_line, one_line}
use Rattle.fc_typed.proofs.missing.is_told_home.Goals as goal

pub returns-then-line_tells_home : goal.returns-then-line_tells_home
returns-then-line_tells_home c = (
  λ t. (lines_tell c.args.card c.args.text.now).0
      (any_here (PartTellsHome c.args.card) _ _ _ _ (first_line c.loop-len.rest.now _ c.in-Some.len (sym c.line_len.ensures ∙ c.in-Some.is) refl)
      (c.line_tells_home.ensures.0 c.if-line_tells_home.true) c.loop-len.invariant.told),
  λ any. refl,
)

pub loop-len-preserved : goal.loop-len-preserved
loop-len-preserved c = record {
  told =
      any_next (PartTellsHome c.args.card) _ _ _ _
      (first_line c.loop-len.rest.now _ c.in-Some.len (sym c.line_len.ensures ∙ c.in-Some.is) (take_rest c.loop-len.rest.now (c.in-Some.len + 1)))
      (λ tells. cc (c.line_tells_home.ensures.1 tells, c.if-line_tells_home.false)) c.loop-len.invariant.told;
  within = search rules;
}

pub returns : goal.returns
returns c =
    let one : slice_split is_line_end c.loop-len.rest.now ≡ c.loop-len.rest.now ∷ [] =
    one_line c.loop-len.rest.now (sym c.line_len.ensures ∙ c.in_default.is) in
    let so : AnyOf (PartTellsHome c.args.card) (c.loop-len.rest.now ∷ []) ↔ AnyOf (PartTellsHome c.args.card) (slice_split is_line_end c.args.text.now) =
    subst (λ ls. AnyOf (PartTellsHome c.args.card) ls ↔ AnyOf (PartTellsHome c.args.card) (slice_split is_line_end c.args.text.now)) one c.loop-len.invariant.told in (
      λ t. (lines_tell c.args.card c.args.text.now).0 (so.0 (inl (c.line_tells_home-2.ensures.0 t))),
      λ home. ⊎_elim (λ here. c.line_tells_home-2.ensures.1 here) (λ there. absurd there) (so.1 ((lines_tell c.args.card c.args.text.now).1 home)),
    )
