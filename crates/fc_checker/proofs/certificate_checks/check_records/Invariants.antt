use Rattle.fc_checker.specs.Check.{RecordsHold}
use Rattle.fc_checker.proofs.certificate_checks.check_records.Given as goal

abbrev pub invariant-loop-i : goal.invariant-loop-i
invariant-loop-i g l = RecordsHold (g.G.Game.game l.game) l.certificate l.i
