-- Why a question about a list has no answer.
use Rattle.std.proofs.Common.{inr, ℕ, List}
use Rattle.fc_io.specs.Moves.{Stays}
use Rattle.fc_position.specs.Board.{Board}
use Rattle.fc_moves.specs.GameRules.{GameRules}
use Rattle.fc_replay.specs.Token.{move_tokens}
use Rattle.fc_lists.specs.declared.faults.PlayFault.{PlayFault}
use Rattle.fc_lists.specs.declared.faults.PlayFault.TheVariants.{NoEntry, NotAllowed, TooManyWays, ListEnds, TooLong, Memory}
use Rattle.fc_lists.specs.declared.list_plays.ListQuestion.{ListQuestion}
use Rattle.fc_lists.specs.Plays.{IsListUnanswered}
use Rattle.fc_board_runs.specs.Devices.{Device, GivesWhole}
use Rattle.fc_board_runs.specs.Fault.{play_fault}
use Rattle.fc_board_runs.specs.Lists.{IsLeftOpen, IsNotAnswered}

-- a text was given for which there is no answer, and nothing was written
module _ (q : ListQuestion) (g : GameRules) (start : Board) (moves sink : Device) (text : List ℕ) (read : GivesWhole moves text) (unwritten : Stays sink.old sink.new) where
  open_left : (fault : PlayFault) → IsListUnanswered q g start (move_tokens text) fault → IsLeftOpen q g start moves sink fault
  open_left fault why = record { text = text; read = read; why = why; unwritten = unwritten }

  -- and so the question wasn't answered
  pub open_for : (fault : PlayFault) → IsListUnanswered q g start (move_tokens text) fault → IsNotAnswered q g start moves sink (play_fault fault)
  open_for (NoEntry step) why = open_left (NoEntry step) why
  open_for (NotAllowed step) why = open_left (NotAllowed step) why
  open_for (TooManyWays step) why = open_left (TooManyWays step) why
  open_for (ListEnds count) why = open_left (ListEnds count) why
  open_for TooLong why = inr (open_left TooLong why)
  open_for Memory why = (unwritten, read.sound)
