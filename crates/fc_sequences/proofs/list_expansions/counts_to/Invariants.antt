use Rattle.std.proofs.Common.{◌≡◌, ℕ, ◌≤◌, List, [], ◌∷◌, Some, length, reverse}
use Rattle.std.specs.Prelude.{slice_get}
use Rattle.fc_position.specs.Board.{Board}
use Rattle.fc_moves.specs.GameRules.{GameRules}
use Rattle.fc_sequences.specs.declared.pairs.Pair.{Pair}
use Rattle.fc_sequences.specs.inner.Layers.{AreLinked}
use Rattle.fc_sequences.proofs.PathLemmas.{IsBack}
use Rattle.fc_sequences.proofs.list_expansions.counts_to.Given as goal

-- from the board of this place the entries behind it lead on by the numbers so far
abbrev pub invariant-loop-left : goal.invariant-loop-left
invariant-loop-left l = (l.left ≤ length l.layers) × ((g : GameRules) (b : Board) (ps : List Pair) (boards : List Board) (c : Board)
    → AreLinked g (b ∷ []) ps l.layers boards → slice_get boards l.place ≡ Some c → IsBack g b ps l.layers c l.left l.here (reverse l.counts.items))

abbrev pub decreases-loop-left : goal.decreases-loop-left
decreases-loop-left l = l.left
