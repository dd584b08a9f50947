use Rattle.std.proofs.Common.{take}
use Rattle.fc_moves.specs.Run.{Run}
use Rattle.fc_checker.proofs.certificate_checks.replay.Given as goal

abbrev pub invariant-loop-i : goal.invariant-loop-i
invariant-loop-i g l = Run (g.G.Game.game l.game) l.fn.position (take l.i l.certificate.moves) l.board
