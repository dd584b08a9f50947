use Rattle.std.proofs.Common.{ℕ, ◌<◌, get_or}
use Rattle.fc_position.specs.Board.{IsHome}
use Rattle.fc_home.proofs.rules.is_forced.Given as goal

-- each of the cards so far is home
abbrev pub invariant-loop-host : goal.invariant-loop-host
invariant-loop-host g l = (k d : ℕ) → k < l.host-index → IsHome l.position.homes (get_or l.host-items k d)
