-- What answering a question about a list of moves promises, over any source and any sink.
use Rattle.std.specs.Prelude.{◌≡◌, ◌⊎◌, ◌↔◌, ℕ, ◌+◌, List, length, IsTrue}
use Rattle.fc_io.specs.Moves.{Stays, TakesBytes, TakesFront, TellsAtLeast}
use Rattle.fc_position.specs.Board.{Board}
use Rattle.fc_position.specs.Position.{IsWon}
use Rattle.fc_moves.specs.declared.steps.Move.{Move}
use Rattle.fc_moves.specs.GameRules.{GameRules}
use Rattle.fc_moves.specs.Run.{Run}
use Rattle.fc_text.specs.Printed.{board_text}
use Rattle.fc_lists.specs.ListText.{moves_line}
use Rattle.fc_replay.specs.declared.faults.ReplayFault.TheVariants.{BadMove, NotAllowed}
use Rattle.fc_replay.specs.declared.replays.Ended.{Ended}
use Rattle.fc_replay.specs.Token.{move_tokens}
use Rattle.fc_lists.specs.declared.faults.PlayFault.{PlayFault}
use Rattle.fc_lists.specs.declared.faults.PlayFault.TheVariants as unplayed
use Rattle.fc_lists.specs.declared.list_plays.TheConstants.{LONGEST_MOVES}
use Rattle.fc_lists.specs.declared.list_plays.ListWants.{ListWants}
use Rattle.fc_lists.specs.declared.list_plays.ListWants.TheVariants.{Line, BoardAfter}
use Rattle.fc_lists.specs.declared.list_plays.ListQuestion.{ListQuestion}
use Rattle.fc_lists.specs.Plays.{ComeTo, HasEntries, IsListUnanswered, wanted_tokens}
use Rattle.fc_board_runs.specs.declared.faults.Input.TheVariants.{Moves as of_moves}
use Rattle.fc_board_runs.specs.declared.faults.Output.TheVariants.{Answer as of_answer}
use Rattle.fc_board_runs.specs.declared.faults.ProgramFault.{ProgramFault}
use Rattle.fc_board_runs.specs.declared.faults.ProgramFault.TheVariants.{TooLong, Moves, TooManyWays, ListEnds, Read, Write, Memory}
use Rattle.fc_board_runs.specs.Devices.{Device, GivesWhole}

-- what is asked, in a game with so many cells: the line of the moves, or the text of the board to which they lead
abbrev pub wanted_text : ListWants → ℕ → List Move → Board → List ℕ
wanted_text Line cells moves last = moves_line moves
wanted_text (BoardAfter n) cells moves last = board_text cells last

-- a text was given whose entries that are asked of come to these one-card moves, which lead to this board
pub record IsPlayedTo (q : ListQuestion) (g : GameRules) (start : Board) (moves : Device) (steps : List Move) (last : Board) : Type 0 where
  pub text : List ℕ
  pub read : GivesWhole moves text
  pub there : HasEntries q.wants (move_tokens text)
  pub come : ComeTo q.has_sequences g start (wanted_tokens q.wants (move_tokens text)) steps
  pub run : Run g start steps last

-- a question was answered: the sink took what is asked, and it is told how many moves were made, and whether the board is won
pub record IsListAnswered (q : ListQuestion) (g : GameRules) (start : Board) (moves sink : Device) (ended : Ended) : Type 0 where
  pub steps : List Move
  pub last : Board
  pub played : IsPlayedTo q g start moves steps last
  pub written : TakesBytes sink.old sink.new (wanted_text q.wants g.cells steps last)
  pub sound : IsTrue sink.failed → ⊥
  pub count : ended.moves ≡ length steps
  pub won : IsTrue ended.is_won ↔ IsWon last

-- the answer couldn't be written, of which a front may be
pub record IsCutOff (q : ListQuestion) (g : GameRules) (start : Board) (moves sink : Device) : Type 0 where
  pub steps : List Move
  pub last : Board
  pub played : IsPlayedTo q g start moves steps last
  pub front : TakesFront sink.old sink.new (wanted_text q.wants g.cells steps last)
  pub failed : IsTrue sink.failed

-- a text was given for which there is no answer, and nothing was written
pub record IsLeftOpen (q : ListQuestion) (g : GameRules) (start : Board) (moves sink : Device) (fault : PlayFault) : Type 0 where
  pub text : List ℕ
  pub read : GivesWhole moves text
  pub why : IsListUnanswered q g start (move_tokens text) fault
  pub unwritten : Stays sink.old sink.new

-- why a question wasn't answered, each fault only where those before it have no cause
abbrev pub IsNotAnswered : ListQuestion → GameRules → Board → Device → Device → ProgramFault → Type 0
IsNotAnswered q g start moves sink (Read of_moves) = Stays sink.old sink.new × IsTrue moves.failed
IsNotAnswered q g start moves sink (TooLong of_moves) =
    (Stays sink.old sink.new × TellsAtLeast moves.old (LONGEST_MOVES + 1) × (IsTrue moves.failed → ⊥)) ⊎ IsLeftOpen q g start moves sink unplayed.TooLong
IsNotAnswered q g start moves sink Memory = Stays sink.old sink.new × (IsTrue moves.failed → ⊥)
IsNotAnswered q g start moves sink (Write of_answer) = IsCutOff q g start moves sink
IsNotAnswered q g start moves sink (Moves (BadMove step)) = IsLeftOpen q g start moves sink (unplayed.NoEntry step)
IsNotAnswered q g start moves sink (Moves (NotAllowed step)) = IsLeftOpen q g start moves sink (unplayed.NotAllowed step)
IsNotAnswered q g start moves sink (TooManyWays step) = IsLeftOpen q g start moves sink (unplayed.TooManyWays step)
IsNotAnswered q g start moves sink (ListEnds count) = IsLeftOpen q g start moves sink (unplayed.ListEnds count)
IsNotAnswered q g start moves sink other = ⊥
