use Rattle.std.proofs.Common.{ℕ, ◌<◌, get_or}
use Rattle.fc_moves.specs.GameRules.{Opens}
use Rattle.fc_sequences.proofs.carries.all_open.Given as goal

abbrev pub invariant-loop-card : goal.invariant-loop-card
invariant-loop-card g l = (k : ℕ) → k < l.card-index → Opens (g.G.Game.game l.game) (get_or l.cards k 0)
