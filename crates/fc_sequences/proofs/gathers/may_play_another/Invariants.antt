use Rattle.std.proofs.Common.{◌≢◌, ℕ, ◌<◌, ◌≤◌}
use Rattle.fc_position.specs.Board.{Board}
use Rattle.fc_sequences.specs.Pair.{PlaysCards}
use Rattle.fc_sequences.proofs.gathers.may_play_another.Given as goal

-- no other number of cards so far may be played
abbrev pub invariant-loop-other : goal.invariant-loop-other
invariant-loop-other g l =
    (n : ℕ) (c : Board) → 1 ≤ n → n < l.other → n ≢ l.count → PlaysCards (g.G.Game.game l.game) l.position l.from l.to n c → ⊥
