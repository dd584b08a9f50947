use Rattle.std.proofs.Common.{◌≡◌, ◌+◌, ◌-◌, ◌*◌, map}
use Rattle.std.specs.List.{range_with_len}
use Rattle.fc_tests.proofs.games.AnySuitGame.hosts_of.Given as goal

-- the cards of the suits so far
abbrev pub invariant-loop-suit : goal.invariant-loop-suit
invariant-loop-suit l = l.cards.items ≡ map (λ k. (l.rank - 1) * 4 + k) (range_with_len 0 l.suit)
