use Rattle.std.proofs.Common.{sym, ◌∙◌, arith}
use Rattle.std.proofs.lemmas.Bool.{false≢true}
use Rattle.std.proofs.lemmas.List.{drop_all}
use Rattle.fc_best.proofs.TailLemmas.{moves_from, way_next}
use Rattle.fc_review.proofs.HandLemmas.{counted_all, counted_goer, counted_other}
use Rattle.fc_review.proofs.hands.goers.Goals.{then-goes_by_itself, else-goes_by_itself}
use Rattle.fc_review.proofs.hands.goers.Goals as goal

pub loop-m-preserved : goal.loop-m-preserved
loop-m-preserved g c = record {
  way = way_next _ _ _ _ _ _ _ _ c.loop-m.invariant.way (moves_from _ _ _ c.loop-m-test.true) c.apply.ensures.step;
  within = elim c.if-goes_by_itself.branch [
    | then-goes_by_itself w ↦ omega (arith, w.count-is, c.loop-m.invariant.within)
    | else-goes_by_itself w ↦ omega (arith, w.count-is, c.loop-m.invariant.within)
  ];
  counted = elim c.if-goes_by_itself.branch [
    | then-goes_by_itself w ↦ rw w.count-is (counted_goer _ _ _ _ _ _ _ _ _ _ (moves_from _ _ _ c.loop-m-test.true) c.apply.ensures.step
        (c.goes_by_itself.ensures.value.0 w.if-goes_by_itself.true) c.loop-m.invariant.counted)
    | else-goes_by_itself w ↦ rw w.count-is (counted_other _ _ _ _ _ _ _ _ _ _ (moves_from _ _ _ c.loop-m-test.true) c.apply.ensures.step
        (λ goes. false≢true (sym w.if-goes_by_itself.false ∙ c.goes_by_itself.ensures.value.1 goes)) c.loop-m.invariant.counted)
  ];
}

pub returns : goal.returns
returns g c = record { count = counted_all _ _ _ _ _ _ _ (drop_all _ _ c.loop-m-test.false) c.loop-m.invariant.counted }
