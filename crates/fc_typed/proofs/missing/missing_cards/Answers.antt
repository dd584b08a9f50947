use Rattle.std.proofs.Common.{◌≡◌, ◌+◌, ◌++◌, ◌∷◌, [], length, sym, ◌∙◌, ap, subst, arith}
use Rattle.std.proofs.lemmas.List.{length-append}
use Rattle.fc_typed.specs.Guess.{AreMissingBelow, IsMissing}
use Rattle.fc_typed.proofs.MissingLemmas.{missing_pass, missing_push}
use Rattle.fc_typed.proofs.missing.missing_cards.Goals as goal
use Rattle.fc_typed.proofs.missing.missing_cards.Goals.{then-is_missing, else-is_missing}

pub loop-index-preserved : goal.loop-index-preserved
loop-index-preserved c =
    let text = c.args.text.now in
    let n = c.loop-index.index in
    let old = c.loop-index.cards.items in
    let here = rw c.unwrap-card.ensures at c.from_index.ensures.value in
    elim c.if-is_missing.branch [
      | then-is_missing w ↦
          let pushed : c.if-is_missing.cards.items ≡ old ++ n ∷ [] =
          ap (λ v. v.items) w.cards-is ∙ w.push.ensures.items ∙ ap (λ x. old ++ x ∷ []) here in
          record {
            few = omega (arith, ap length pushed, length-append old (n ∷ []), c.loop-index.invariant.few);
            told = subst (AreMissingBelow text (n + 1)) (sym pushed)
                (missing_push text n old c.loop-index.invariant.told (subst (IsMissing text) here (c.is_missing.ensures.0 w.if-is_missing.true)));
          }
      | else-is_missing w ↦
          let same : c.if-is_missing.cards.items ≡ old = ap (λ v. v.items) w.cards-is in
          record {
            few = omega (arith, ap length same, c.loop-index.invariant.few);
            told = subst (AreMissingBelow text (n + 1)) (sym same)
                (missing_pass text n old c.loop-index.invariant.told (λ is. cc (w.if-is_missing.false, c.is_missing.ensures.1 (subst (IsMissing text) (sym here) is))));
          }
    ]
