use Rattle.std.proofs.Common.{◌≤◌, ◌-◌, length, rules, arith}
use Rattle.fc_io.proofs.MoveLemmas.{Gives-both, take_filled, sound_at_ok}
use Rattle.fc_io.proofs.transfers.read_up_to.Goals as goal

pub loop-filled-preserved : goal.loop-filled-preserved
loop-filled-preserved g c =
    let loop = c.loop-filled.invariant in
    let filled = c.loop-filled.filled in
    let room = c.loop-filled.room in
    let count = c.in_ok-count.count in
    let fits : count ≤ length c.read.new.room = omega (arith, c.in_ok-count.ensures.within) in
    record {
      sound = sound_at_ok _ c.in_ok-count.ensures.fault.1;
      within = search rules;
      given =
          rw (take_filled filled count (length room - filled) room c.read.new.room loop.within fits)
          (Gives-both _ _ _ _ _ loop.given c.in_ok-count.ensures.moved);
    }
