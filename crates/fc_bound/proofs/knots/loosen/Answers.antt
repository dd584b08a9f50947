use Rattle.std.proofs.Common.{◌≡◌, ap, arith}
use Rattle.fc_bound.specs.Clearing.{cards_in, without}
use Rattle.fc_bound.specs.Knots.{has_last, knot_count}
use Rattle.fc_bound.specs.inner.Rows.{waiting_in}
use Rattle.fc_bound.proofs.ClearingSearch.{take_fewer}
use Rattle.fc_bound.proofs.KnotTaken.{loose_first}
use Rattle.fc_bound.proofs.LeftLemmas.{ends_at}
use Rattle.fc_bound.proofs.LowLemmas.{waiting_without}
use Rattle.fc_bound.proofs.knots.loosen.Goals as goal

pub loop-u-smaller : goal.loop-u-smaller
loop-u-smaller c =
    let s = c.loop-u.left in
    let ensures = c.in-Some.ensures in
    let e = ends_at s c.in-Some.u ensures.last in
    let after : c.take_of-lows.new.self ≡ without s e.place = c.take_of-lows.ensures.value e.place e.last in
    omega (arith, take_fewer s e.place (ap has_last e.last), ap cards_in after)

pub loop-u-preserved : goal.loop-u-preserved
loop-u-preserved c =
    let s = c.loop-u.left in
    let ensures = c.in-Some.ensures in
    let e = ends_at s c.in-Some.u ensures.last in
    let after : c.take_of-lows.new.self ≡ without s e.place = c.take_of-lows.ensures.value e.place e.last in
    let taken = loose_first s e.place (ensures.loose e.place e.last) in
    record {
      low = c.take_of-lows.ensures.lows;
      count = omega (
        arith,
        c.loop-u.invariant.count,
        taken,
        waiting_without s e.place e.inside,
        ap knot_count after,
        ap waiting_in after,
      );
      fewer = omega (arith, c.loop-u.invariant.fewer, take_fewer s e.place (ap has_last e.last), ap cards_in after);
    }
