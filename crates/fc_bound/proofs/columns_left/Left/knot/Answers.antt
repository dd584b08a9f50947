use Rattle.std.proofs.Common.{◌<◌, ◌*◌, ◌%◌, ◌^◌, cond, bit_or, sym, ◌∙◌, ap, subst, ⊎_elim, arith}
use Rattle.std.proofs.lemmas.Bool.{cases_eq}
use Rattle.fc_bound.specs.Knots.{ends_among}
use Rattle.fc_bound.specs.inner.Rows.{AreApart}
use Rattle.fc_bound.proofs.BitLemmas.{is_one, no_bits}
use Rattle.fc_bound.proofs.TakeLemmas.{left_card}
use Rattle.fc_bound.proofs.LeftLemmas.{left_apart}
use Rattle.fc_bound.proofs.PairLemmas.{IsAlone, alone_but, first_pair, second_pair, no_pair, pair_marks, ring_marks, two_bits}
use Rattle.fc_bound.proofs.ShedLemmas.{still, kept}
use Rattle.fc_bound.proofs.columns_left.Left.knot.Goals as goal

pub loop-rest-init : goal.loop-rest-init
loop-rest-init c = record {
  some = λ w set. is_one (ends_among c.args.self.now w)
      (sym (c.self.invariant.ends w ∙ ap (λ v. cond (ends_among v w) 1 0) c.self.view_is) ∙ set);
  alone = λ w ends unset. absurd (unset (c.self.invariant.ends w ∙ ap (λ v. cond (ends_among v w) 1 0) c.self.view_is ∙ ap (λ t. cond t 1 0) ends));
}

pub overflow_shl-result-in-Some : goal.overflow_shl-result-in-Some
overflow_shl-result-in-Some c =
    let two = c.loop-rest.invariant.some c.in-Some.v
    (still c.loop-rest.rest c.remove-rest.result c.least-u.result c.in-Some.v c.remove-rest.ensures.value c.in-Some.ensures.set) in
    omega (arith, left_card c.self.inside.position.now c.self.inside.all c.in-Some.v c.self.invariant.whole (ap (λ v. ends_among v c.in-Some.v) c.self.view_is ∙ two))

pub returns-in-Some : goal.returns-in-Some
returns-in-Some c =
    let s = c.args.self.now in
    let u = c.least-u.result in
    let v = c.in-Some.v in
    let rest = c.remove-rest.result in
    let over = c.loop-rest.invariant in
    let one = over.some u c.least-u.ensures.set in
    let two = over.some v (still c.loop-rest.rest rest u v c.remove-rest.ensures.value c.in-Some.ensures.set) in
    let low : u < 52 = left_card c.self.inside.position.now c.self.inside.all u c.self.invariant.whole (ap (λ w. ends_among w u) c.self.view_is ∙ one) in
    let high : v < 52 = left_card c.self.inside.position.now c.self.inside.all v c.self.invariant.whole (ap (λ w. ends_among w v) c.self.view_is ∙ two) in
    let apart : AreApart s = subst AreApart c.self.view_is (left_apart c.self.inside.position.now c.self.inside.all c.self.invariant.whole) in
    let first = first_pair s u v low one two c.in-Some.ensures.knotted (λ w less ends. over.alone w ends (λ set.
    absurd (omega (arith, set, c.least-u.ensures.least w less)))) in
    let second = second_pair s u v high one two c.in-Some.ensures.knotted (λ w less ends.
    alone_but s u rest w apart c.requires.tight
    (λ x ends unset ne. over.alone x ends (λ set. unset (kept c.loop-rest.rest rest u x c.remove-rest.ensures.value ne set)))
    one ends (c.in-Some.ensures.least w less)) first in
    record {
      value = pair_marks s (bit_or (1 * 2 ^ u % 2 ^ 64) (1 * 2 ^ v % 2 ^ 64)) u v low one two
          (two_bits u v (omega (arith, low)) (omega (arith, high))) first second;
    }

pub loop-rest-preserved : goal.loop-rest-preserved
loop-rest-preserved c =
    let s = c.args.self.now in
    let u = c.least-u.result in
    let rest = c.remove-rest.result in
    let over = c.loop-rest.invariant in
    let one = over.some u c.least-u.ensures.set in
    let apart : AreApart s = subst AreApart c.self.view_is (left_apart c.self.inside.position.now c.self.inside.all c.self.invariant.whole) in
    record {
      some = λ w set. over.some w (still c.loop-rest.rest rest u w c.remove-rest.ensures.value set);
      alone = λ w ends unset. ⊎_elim
          (λ e. subst (IsAlone s) (sym e) (λ v there. alone_but s u rest v apart c.requires.tight
          (λ x ends unset ne. over.alone x ends (λ set. unset (kept c.loop-rest.rest rest u x c.remove-rest.ensures.value ne set)))
          one there (c.in_default.ensures.none v)))
          (λ ne. over.alone w ends (λ set. unset (kept c.loop-rest.rest rest u w c.remove-rest.ensures.value ne set)))
          (cases_eq w u);
    }

pub returns : goal.returns
returns c =
    let s = c.args.self.now in
    record {
      value = ring_marks s c.ring.result c.ring.ensures.value
          (no_pair s (λ w ends. c.loop-rest.invariant.alone w ends (λ set. no_bits c.loop-rest.rest w c.loop-rest-test.false set)));
    }
