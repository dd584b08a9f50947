-- How the faults of the program end it, within the crate.
use Rattle.fc_replay.specs.declared.faults.ReplayFault.{ReplayFault}
use Rattle.fc_replay.specs.declared.faults.ReplayFault.TheVariants.{BadMove, NotAllowed, Write as unwritten}
use Rattle.fc_board_runs.specs.declared.faults.ProgramFault.{ProgramFault}
use Rattle.fc_board_runs.specs.declared.faults.ProgramFault.TheVariants.{Moves, Write}
use Rattle.fc_board_runs.specs.declared.faults.Output.TheVariants.{Answer as of_answer}

-- why moves weren't replayed to their end, as a fault of the program
abbrev pub replay_fault : ReplayFault → ProgramFault
replay_fault (BadMove step) = Moves (BadMove step)
replay_fault (NotAllowed step) = Moves (NotAllowed step)
replay_fault unwritten = Write of_answer
