use Rattle.std.proofs.Common.{◌≡◌, ℕ, ◌+◌, ◌-◌, ◌*◌, ◌^◌, ◌<◌, ◌≤◌, get_or}
use Rattle.fc_codes.specs.Words.{digit}
use Rattle.fc_codes.specs.inner.Seats.{AreSeatsUntil}
use Rattle.fc_codes.proofs.start_layouts.Layout.move_word.Given as goal

-- the cards before the next one have moved, and the rest of the word tells the states of the others
abbrev pub invariant-loop-rest : goal.invariant-loop-rest
invariant-loop-rest l = record {
  from : 21 * l.index ≤ l.next;
  most : l.next ≤ 21 * l.index + 21;
  small : l.rest < 2 ^ (3 * (21 * l.index + 21 - l.next));
  states : (i : ℕ) → l.next + i < 21 * l.index + 21 → digit l.rest i ≡ get_or l.code (l.next + i) 0;
  moved : AreSeatsUntil l.self l.code l.next l.seats;
}

abbrev pub decreases-loop-rest : goal.decreases-loop-rest
decreases-loop-rest l = l.rest
