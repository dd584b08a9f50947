-- What checking a certificate promises, over any sources and any sink, within the crate.
use Rattle.fc_checker.specs.declared.faults.CheckFault.{CheckFault}
use Rattle.fc_board_runs.specs.declared.faults.ProgramFault.{ProgramFault}
use Rattle.fc_board_runs.specs.declared.faults.ProgramFault.TheVariants.{Cert, Memory}
use Rattle.fc_checker.specs.declared.faults.CheckFault.TheVariants.{Memory as refused}

-- why bytes weren't accepted, as a fault of the program
abbrev pub check_fault : CheckFault → ProgramFault
check_fault refused = Memory
check_fault fault = Cert fault
