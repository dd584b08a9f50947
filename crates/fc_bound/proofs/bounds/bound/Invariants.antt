use Rattle.std.proofs.Common.{◌≡◌, ◌+◌, take}
use Rattle.std.specs.Prelude.{count_by}
use Rattle.fc_cards.specs.Card.{all_cards}
use Rattle.fc_bound.specs.Bound.{is_away}
use Rattle.fc_bound.proofs.HeldLemmas.{held_in}
use Rattle.fc_bound.proofs.bounds.bound.Given as goal

abbrev pub invariant-loop-i : goal.invariant-loop-i
invariant-loop-i l = record {
  counts : l.total ≡ count_by (is_away l.position) all_cards + held_in (take l.i l.position.columns);
}
