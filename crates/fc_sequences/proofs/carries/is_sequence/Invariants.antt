use Rattle.std.proofs.Common.{ℕ, ◌+◌, ◌<◌}
use Rattle.std.specs.Prelude.{slice_index}
use Rattle.fc_moves.specs.GameRules.{Stands}
use Rattle.fc_sequences.proofs.carries.is_sequence.Given as goal

abbrev pub invariant-loop-i : goal.invariant-loop-i
invariant-loop-i g l = (a : ℕ) → a + 1 < l.i → Stands (g.G.Game.game l.game) (slice_index l.cards (a + 1)) (slice_index l.cards a)
