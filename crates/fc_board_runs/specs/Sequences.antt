-- What replaying a list in standard notation promises, whose entries may move sequences, over any source and any sink.
use Rattle.std.specs.Prelude.{◌≡◌, ◌⊎◌, ℕ, ◌+◌, List, [], Result, Ok, Err, IsTrue}
use Rattle.fc_io.specs.declared.devices.Failed.{Failed}
use Rattle.fc_io.specs.Moves.{Stays, TellsAtLeast}
use Rattle.fc_position.specs.Board.{Board}
use Rattle.fc_moves.specs.declared.steps.Move.{Move}
use Rattle.fc_moves.specs.GameRules.{GameRules}
use Rattle.fc_replay.specs.declared.faults.ReplayFault.TheVariants.{BadMove, NotAllowed}
use Rattle.fc_replay.specs.declared.pages.Page.{Page}
use Rattle.fc_replay.specs.declared.replays.Ended.{Ended}
use Rattle.fc_replay.specs.Played.{PlaysAs, sink_change}
use Rattle.fc_replay.specs.Token.{move_tokens}
use Rattle.fc_lists.specs.declared.faults.PlayFault.{PlayFault}
use Rattle.fc_lists.specs.declared.faults.PlayFault.TheVariants as unplayed
use Rattle.fc_lists.specs.declared.list_plays.TheConstants.{LONGEST_MOVES}
use Rattle.fc_lists.specs.Plays.{IsExpanded, IsUnplayed}
use Rattle.fc_board_runs.specs.declared.faults.Input.TheVariants.{Moves as of_moves}
use Rattle.fc_board_runs.specs.declared.faults.Output.TheVariants.{Answer as of_answer}
use Rattle.fc_board_runs.specs.declared.faults.ProgramFault.{ProgramFault}
use Rattle.fc_board_runs.specs.declared.faults.ProgramFault.TheVariants.{TooLong, Moves, TooManyWays, Read, Write, Memory}
use Rattle.fc_board_runs.specs.Devices.{Device, GivesWhole}

-- a text of entries was given, they were expanded from a position, and making the moves ended so, the sink taking the pages
pub record IsPlayOf (page : Page) (g : GameRules) (start : Board) (moves sink : Device) (result : Result Ended Failed) : Type 0 where
  pub text : List ℕ
  pub read : GivesWhole moves text
  pub steps : List Move
  pub expanded : IsExpanded g start (move_tokens text) steps
  pub played : PlaysAs page g start steps (sink_change sink.old sink.new) result

-- a list was played to its end; a sink that has failed was given no page
pub record IsPlayed (page : Page) (g : GameRules) (start : Board) (moves sink : Device) (ended : Ended) : Type 0 where
  pub play : IsPlayOf page g start moves sink (Ok ended)
  pub sound : IsTrue sink.failed → play.steps ≡ []

-- a text of entries was given that aren't played from a position, and nothing was written
pub record IsListLeft (g : GameRules) (start : Board) (moves sink : Device) (fault : PlayFault) : Type 0 where
  pub text : List ℕ
  pub read : GivesWhole moves text
  pub why : IsUnplayed g start (move_tokens text) fault
  pub unwritten : Stays sink.old sink.new

-- why a list wasn't played to its end, each fault only where those before it have no cause
abbrev pub IsListFaultAs : Page → GameRules → Board → Device → Device → ProgramFault → Type 0
IsListFaultAs page g start moves sink (Read of_moves) = Stays sink.old sink.new × IsTrue moves.failed
IsListFaultAs page g start moves sink (TooLong of_moves) =
    (Stays sink.old sink.new × TellsAtLeast moves.old (LONGEST_MOVES + 1) × (IsTrue moves.failed → ⊥)) ⊎ IsListLeft g start moves sink unplayed.TooLong
IsListFaultAs page g start moves sink Memory = Stays sink.old sink.new × (IsTrue moves.failed → ⊥)
IsListFaultAs page g start moves sink (Write of_answer) = ((failed : Failed) × IsPlayOf page g start moves sink (Err failed)) × IsTrue sink.failed
IsListFaultAs page g start moves sink (Moves (BadMove step)) = IsListLeft g start moves sink (unplayed.NoEntry step)
IsListFaultAs page g start moves sink (Moves (NotAllowed step)) = IsListLeft g start moves sink (unplayed.NotAllowed step)
IsListFaultAs page g start moves sink (TooManyWays step) = IsListLeft g start moves sink (unplayed.TooManyWays step)
IsListFaultAs page g start moves sink other = ⊥
