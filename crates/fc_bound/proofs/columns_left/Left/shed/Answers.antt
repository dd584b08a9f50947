use Rattle.std.proofs.Common.{◌≡◌, ℕ, Bool, true, false, cond, List, length, refl, sym, ◌∙◌, ap, arith}
use Rattle.std.specs.Prelude.{◌&&◌}
use Rattle.std.proofs.lemmas.List.{length-map}
use Rattle.fc_position.specs.Board.{last_of, front_of}
use Rattle.fc_bound.specs.Knots.{waits_above}
use Rattle.fc_bound.proofs.HeldLemmas.{bit_most}
use Rattle.fc_bound.proofs.LeftLemmas.{ends_at, at_ends}
use Rattle.fc_bound.proofs.ShedLemmas.{is_gone, Goes, stays, still, one_gone, one_met, first_gone, first_met, last_gone, last_met, met_most}
use Rattle.fc_bound.proofs.columns_left.Left.shed.Goals as goal
use mir.Val.{bool_byte}

-- a test as a number
byte : (t : Bool) → bool_byte t ≡ cond t 1 0
byte true = refl
byte false = refl

pub loop-rest-init : goal.loop-rest-init
loop-rest-init c = record { some = λ u set. set; gone = first_gone c.args.self.now c.args.bits; met = sym (first_met c.args.self.now c.args.bits) }

pub waits_above-requires : goal.waits_above-requires
waits_above-requires c =
    let s = c.args.self.now in
    let u = c.least-u.result in
    let e = ends_at s u (c.requires.lasts u (c.loop-rest.invariant.some u c.least-u.ensures.set)) in
    let same = stays s c.loop-rest.self c.args.bits c.loop-rest.rest e.place u c.loop-rest.invariant.gone e.inside c.least-u.ensures.set e.last in
    record { last = at_ends c.loop-rest.self e.place u (ap last_of same ∙ e.last) }

pub overflow_add-met : goal.overflow_add-met
overflow_add-met c =
    let s = c.args.self.now in
    let long : length c.loop-rest.self ≡ length s = ap (λ (v : List (List ℕ)). length v) c.loop-rest.invariant.gone
    ∙ length-map s (λ x. cond (is_gone c.args.bits c.loop-rest.rest x) (front_of x) x) in
    omega (
      arith,
      c.loop-rest.invariant.met,
      met_most s (λ x. is_gone c.args.bits c.loop-rest.rest x && waits_above x),
      long,
      c.waits_above.ensures.eight,
      byte c.waits_above.result,
      bit_most c.waits_above.result,
    )

pub take-requires : goal.take-requires
take-requires c =
    let s = c.args.self.now in
    let u = c.least-u.result in
    let e = ends_at s u (c.requires.lasts u (c.loop-rest.invariant.some u c.least-u.ensures.set)) in
    let same = stays s c.loop-rest.self c.args.bits c.loop-rest.rest e.place u c.loop-rest.invariant.gone e.inside c.least-u.ensures.set e.last in
    record { last = at_ends c.loop-rest.self e.place u (ap last_of same ∙ e.last) }

pub loop-rest-preserved : goal.loop-rest-preserved
loop-rest-preserved c =
    let s = c.args.self.now in
    let u = c.least-u.result in
    let kept = c.loop-rest.invariant in
    let among = kept.some u c.least-u.ensures.set in
    let e = ends_at s u (c.requires.lasts u among) in
    let same = stays s c.loop-rest.self c.args.bits c.loop-rest.rest e.place u kept.gone e.inside c.least-u.ensures.set e.last in
    let goes : Goes s c.loop-rest.self c.args.bits c.loop-rest.rest c.remove-rest.result u =
    record { is = kept.gone; set = c.least-u.ensures.set; among = among; removed = c.remove-rest.ensures.value; apart = c.take.ensures.apart } in
    let one = byte c.waits_above.result
    ∙ ap (λ t. cond t 1 0) (c.waits_above.ensures.value e.place (ap last_of same ∙ e.last) ∙ ap waits_above same) in
    record {
      some = λ w set. kept.some w (still c.loop-rest.rest c.remove-rest.result u w c.remove-rest.ensures.value set);
      gone = c.take.ensures.value e.place (ap last_of same ∙ e.last)
          ∙ one_gone s c.loop-rest.self c.args.bits c.loop-rest.rest c.remove-rest.result u e.place goes e.inside e.last;
      met = omega (
        arith,
        kept.met,
        one,
        one_met s c.loop-rest.self c.args.bits c.loop-rest.rest c.remove-rest.result u e.place goes e.inside e.last,
      );
    }

pub returns : goal.returns
returns c = record {
  value = c.loop-rest.invariant.gone ∙ last_gone c.args.self.now c.args.bits c.loop-rest.rest c.loop-rest-test.false;
  met = c.loop-rest.invariant.met ∙ last_met c.args.self.now c.args.bits c.loop-rest.rest c.loop-rest-test.false;
}
