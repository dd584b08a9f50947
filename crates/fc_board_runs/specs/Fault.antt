-- How the faults of the program end it.
use Rattle.std.specs.Prelude.{ℕ, List, codes}
use Rattle.fc_io.specs.declared.transfers.ReadFault.{ReadFault}
use Rattle.fc_io.specs.declared.transfers.ReadFault.TheVariants.{Failed, TooLong as too_many, Memory as refused}
use Rattle.fc_lists.specs.declared.faults.PlayFault.{PlayFault}
use Rattle.fc_lists.specs.declared.faults.PlayFault.TheVariants as unplayed
use Rattle.fc_replay.specs.declared.faults.ReplayFault.TheVariants.{BadMove, NotAllowed}
use Rattle.fc_board_runs.specs.declared.faults.Input.{Input}
use Rattle.fc_board_runs.specs.declared.faults.Output.{Output}
use Rattle.fc_board_runs.specs.declared.faults.ProgramFault.{ProgramFault}
use Rattle.fc_board_runs.specs.declared.faults.ProgramFault.TheVariants.{Number, Range, Budget, Board, TooLong, Moves, TooManyWays, ListEnds, Cert, Read, Write, Memory}
use Rattle.fc_board_runs.specs.declared.faults.Input.TheVariants.{Board as of_board, Moves as of_moves, Cert as of_certificate}
use Rattle.fc_board_runs.specs.declared.faults.Output.TheVariants.{Answer as of_answer, Cert as certificate_out}

-- 3 for what was asked, 4 for want of memory, 5 for a device
abbrev pub fault_status : ProgramFault → ℕ
fault_status (Number n) = 3
fault_status Range = 3
fault_status Budget = 3
fault_status (Board fault) = 3
fault_status (TooLong input) = 3
fault_status (Moves fault) = 3
fault_status (TooManyWays step) = 3
fault_status (ListEnds count) = 3
fault_status (Cert fault) = 3
fault_status (Read input) = 5
fault_status (Write output) = 5
fault_status Memory = 4

-- why an input wasn't read to its end, as a fault of the program
abbrev pub read_fault : Input → ReadFault → ProgramFault
read_fault input Failed = Read input
read_fault input too_many = TooLong input
read_fault input refused = Memory

-- why the entries of a list aren't played, as a fault of the program
abbrev pub play_fault : PlayFault → ProgramFault
play_fault (unplayed.NoEntry step) = Moves (BadMove step)
play_fault (unplayed.NotAllowed step) = Moves (NotAllowed step)
play_fault (unplayed.TooManyWays step) = TooManyWays step
play_fault (unplayed.ListEnds count) = ListEnds count
play_fault unplayed.TooLong = TooLong of_moves
play_fault unplayed.Memory = Memory

-- how an input and an output are named
abbrev pub input_text : Input → List ℕ
input_text of_board = codes "board"
input_text of_moves = codes "moves"
input_text of_certificate = codes "certificate"

abbrev pub output_text : Output → List ℕ
output_text of_answer = codes "answer"
output_text certificate_out = codes "certificate"
