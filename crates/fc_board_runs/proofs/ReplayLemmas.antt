-- A replay that ran to its end over a sink that had failed was given no move; and one that writes pages of printed boards.
use Rattle.std.proofs.Common.{◌≡◌, ℕ, List, [], ◌∷◌, refl}
use Rattle.std.specs.Prelude.{Result, Ok, Err}
use Rattle.fc_position.specs.Board.{Board}
use Rattle.fc_moves.specs.declared.steps.Move.{Move}
use Rattle.fc_moves.specs.GameRules.{GameRules}
use Rattle.fc_replay.specs.declared.faults.ReplayFault.{ReplayFault}
use Rattle.fc_replay.specs.declared.faults.ReplayFault.TheVariants.{BadMove, NotAllowed, Write as unwritten}
use Rattle.fc_replay.specs.declared.pages.Page.TheVariants.{Board as printed}
use Rattle.fc_replay.specs.declared.replays.Ended.{Ended}
use Rattle.fc_replay.specs.Played.{SpellMoves, Passes, Plays, BeginsWithStep, replay_count}
use Rattle.fc_replay.proofs.PageLemmas.{replays_printed}
use Rattle.fc_board_runs.specs.declared.faults.Input.TheVariants.{Board as of_board, Moves as of_moves, Cert as of_certificate}
use Rattle.fc_board_runs.specs.declared.faults.Output.TheVariants.{Answer as of_answer, Cert as certificate_out}
use Rattle.fc_board_runs.specs.declared.faults.ProgramFault.{ProgramFault}
use Rattle.fc_board_runs.specs.declared.faults.ProgramFault.TheVariants.{Number, Range, Budget, Board as bad_board, TooLong, Moves, TooManyWays, ListEnds, Cert, Read, Write, Memory}
use Rattle.fc_board_runs.specs.Devices.{Device, GivesBoard}
use Rattle.fc_board_runs.specs.Runs.{IsReplayAs, IsReplayed, IsReplayedAs, IsReplayFault, IsReplayFaultAs, IsReplayOf}

begins : (g : GameRules) (b : Board) (token : List ℕ) (tokens : List (List ℕ)) (ms : List Move) (boards : List Board)
    → SpellMoves (token ∷ tokens) ms → Passes g b ms boards → BeginsWithStep g b (token ∷ tokens)
begins g b token tokens [] boards spelled passed = absurd spelled
begins g b token tokens (m ∷ ms) [] spelled passed = absurd passed
begins g b token tokens (m ∷ ms) (c ∷ boards) (spelled, rest) (step, more) = (m, spelled, (c, step))

-- tokens that play and don't begin with a step are none
pub none_played : (g : GameRules) (b : Board) (tokens : List (List ℕ)) (boards : List Board) → Plays g b tokens boards
    → (BeginsWithStep g b tokens → ⊥) → tokens ≡ []
none_played g b [] boards plays never = refl
none_played g b (token ∷ tokens) boards plays never = absurd (never (begins g b token tokens plays.moves boards plays.spelled plays.passed))

-- a replay from a board that was given
module _ (g : GameRules) (board moves sink : Device) (start : Board) (given : GivesBoard g.cells board start) where
  -- where it writes pages of printed boards it writes printed boards
  abbrev replay_printed : (result : Result Ended ReplayFault) → IsReplayAs printed g start moves sink result
      → IsReplayOf g board moves sink (replay_count result)
  replay_printed result replay = record {
    start = start;
    given = given;
    text = replay.text;
    read = replay.read;
    replayed = replays_printed g start _ sink.old sink.new result replay.replayed;
  }

  pub replayed_printed : (ended : Ended) → IsReplayedAs printed g start moves sink ended → IsReplayed g board moves sink 0
  replayed_printed ended replayed = record {
    count = ended.moves;
    replay = replay_printed (Ok ended) replayed.replay;
    sound = replayed.sound;
    told = refl;
  }

  pub fault_printed : (fault : ProgramFault) → IsReplayFaultAs printed g start moves sink fault → IsReplayFault g board moves sink fault
  fault_printed (Read of_board) is = absurd is
  fault_printed (Read of_moves) is = (((start, given), is.0), is.1)
  fault_printed (Read of_certificate) is = is
  fault_printed (bad_board fault) is = absurd is
  fault_printed (TooLong of_board) is = is
  fault_printed (TooLong of_moves) is = (((start, given), is.0), is.1, is.2)
  fault_printed (TooLong of_certificate) is = is
  fault_printed Memory is = (((start, given), is.0), is.1, is.2)
  fault_printed (Moves (BadMove step)) is = replay_printed (Err (BadMove step)) is
  fault_printed (Moves (NotAllowed step)) is = replay_printed (Err (NotAllowed step)) is
  fault_printed (Moves unwritten) is = is
  fault_printed (TooManyWays step) is = is
  fault_printed (ListEnds count) is = is
  fault_printed (Write of_answer) is = (replay_printed (Err unwritten) is.0, is.1)
  fault_printed (Write certificate_out) is = is
  fault_printed (Number n) is = is
  fault_printed Range is = is
  fault_printed Budget is = is
  fault_printed (Cert fault) is = is
