use Rattle.std.proofs.Common.{cond, sym, ◌∙◌, ap}
use Rattle.fc_bound.specs.Knots.{ends_among}
use Rattle.fc_bound.proofs.RingCode.{Next, left_start, next_out, next_stays, left_end}
use Rattle.fc_bound.proofs.TakeLemmas.{left_card}
use Rattle.fc_bound.proofs.columns_left.Left.ring.Goals as goal

pub loop-rest-init : goal.loop-rest-init
loop-rest-init c = record {
  over = left_start c.args.self.now c.self.inside.lasts (λ w. c.self.invariant.ends w ∙ ap (λ v. cond (ends_among v w) 1 0) c.self.view_is);
}

pub loop-rest-preserved-then-is_ring : goal.loop-rest-preserved-then-is_ring
loop-rest-preserved-then-is_ring c =
    let u = c.least-u.result in
    let over = c.loop-rest.invariant.over in
    let ends = (over.after u c.least-u.ensures.set).0 in
    let next : Next c.args.self.now c.loop-rest.rest c.remove-rest.result c.loop-rest.ring c.remove-others.result u = record {
      over = over;
      set = c.least-u.ensures.set;
      least = c.least-u.ensures.least;
      below = left_card c.self.inside.position.now c.self.inside.all u c.self.invariant.whole (ap (λ v. ends_among v u) c.self.view_is ∙ ends);
      removed = c.remove-rest.ensures.value;
      without = c.remove-others.ensures.value;
    } in
    record {
      over = next_out c.args.self.now c.loop-rest.rest c.remove-rest.result c.loop-rest.ring c.remove-others.result u next
          (sym c.is_ring.ensures.value ∙ c.if-is_ring.true);
    }

pub loop-rest-preserved : goal.loop-rest-preserved
loop-rest-preserved c =
    let u = c.least-u.result in
    let over = c.loop-rest.invariant.over in
    let ends = (over.after u c.least-u.ensures.set).0 in
    let next : Next c.args.self.now c.loop-rest.rest c.remove-rest.result c.loop-rest.ring c.remove-others.result u = record {
      over = over;
      set = c.least-u.ensures.set;
      least = c.least-u.ensures.least;
      below = left_card c.self.inside.position.now c.self.inside.all u c.self.invariant.whole (ap (λ v. ends_among v u) c.self.view_is ∙ ends);
      removed = c.remove-rest.ensures.value;
      without = c.remove-others.ensures.value;
    } in
    record {
      over = next_stays c.args.self.now c.loop-rest.rest c.remove-rest.result c.loop-rest.ring c.remove-others.result u next
          (sym c.is_ring.ensures.value ∙ c.if-is_ring.false);
    }

pub returns : goal.returns
returns c = record { value = left_end c.args.self.now c.loop-rest.rest c.loop-rest.ring c.loop-rest.invariant.over c.loop-rest-test.false }
