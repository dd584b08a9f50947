-- What the runs of the program that deal and replay promise, over any source and any sink.
use Rattle.std.specs.Prelude.{◌≡◌, ℕ, ◌+◌, List, [], Result, Ok, Err, IsTrue}
use Rattle.fc_io.specs.Moves.{TakesBytes, TakesFront, Stays, TellsAtLeast}
use Rattle.fc_position.specs.Board.{Board}
use Rattle.fc_moves.specs.GameRules.{GameRules}
use Rattle.fc_deal.specs.Deal.{IsDealNumber, dealt_board}
use Rattle.fc_deal.specs.DealText.{deal_text}
use Rattle.fc_replay.specs.declared.faults.ReplayFault.{ReplayFault}
use Rattle.fc_replay.specs.declared.faults.ReplayFault.TheVariants.{BadMove, NotAllowed, Write as unwritten}
use Rattle.fc_replay.specs.declared.pages.Page.{Page}
use Rattle.fc_replay.specs.declared.replays.Ended.{Ended}
use Rattle.fc_replay.specs.Played.{Replays, ReplaysAs, sink_change}
use Rattle.fc_replay.specs.Token.{move_tokens}
use Rattle.fc_lists.specs.declared.list_plays.TheConstants.{LONGEST_MOVES}
use Rattle.fc_board_runs.specs.declared.faults.Input.TheVariants.{Board as of_board, Moves as of_moves}
use Rattle.fc_board_runs.specs.declared.faults.Output.TheVariants.{Answer as of_answer}
use Rattle.fc_board_runs.specs.declared.faults.ProgramFault.{ProgramFault}
use Rattle.fc_board_runs.specs.declared.faults.ProgramFault.TheVariants.{Number, Board as bad_board, TooLong, Moves, Read, Write, Memory}
use Rattle.fc_board_runs.specs.Devices.{Device, GivesBoard, GivesFault, GivesWhole}

-- a deal was printed: the number is one of a deal, and the sink took its text
pub record IsDealt (n : ℕ) (sink : Device) (status : ℕ) : Type 0 where
  pub number : IsDealNumber n
  pub written : TakesBytes sink.old sink.new (deal_text (dealt_board n))
  pub sound : IsTrue sink.failed → ⊥
  pub told : status ≡ 0

-- why no deal was printed, or not all of one: the number isn't one of a deal, and nothing was written; or the sink failed
abbrev pub IsDealFault : ℕ → Device → ProgramFault → Type 0
IsDealFault n sink (Number told) = (told ≡ n) × (IsDealNumber n → ⊥) × Stays sink.old sink.new
IsDealFault n sink (Write of_answer) = IsDealNumber n × TakesFront sink.old sink.new (deal_text (dealt_board n)) × IsTrue sink.failed
IsDealFault n sink other = ⊥

-- a board and moves were given, and replaying the moves on the board ended so, the sink taking the boards
pub record IsReplayOf (g : GameRules) (board moves sink : Device) (result : Result ℕ ReplayFault) : Type 0 where
  pub start : Board
  pub given : GivesBoard g.cells board start
  pub text : List ℕ
  pub read : GivesWhole moves text
  pub replayed : Replays g start (move_tokens text) sink.old sink.new result

-- a replay ran to its end: every token is an allowed move, and the sink took the board after each; one that has failed was
-- given none
pub record IsReplayed (g : GameRules) (board moves sink : Device) (status : ℕ) : Type 0 where
  pub count : ℕ
  pub replay : IsReplayOf g board moves sink (Ok count)
  pub sound : IsTrue sink.failed → move_tokens replay.text ≡ []
  pub told : status ≡ 0

-- a board was given, and nothing was written
abbrev pub IsBoardAlone : GameRules → Device → Device → Type 0
IsBoardAlone g board sink = ((b : Board) × GivesBoard g.cells board b) × Stays sink.old sink.new

-- a text of moves was given, and replaying it from a position ended so, the sink taking the pages
pub record IsReplayAs (page : Page) (g : GameRules) (start : Board) (moves sink : Device) (result : Result Ended ReplayFault) : Type 0 where
  pub text : List ℕ
  pub read : GivesWhole moves text
  pub replayed : ReplaysAs page g start (move_tokens text) (sink_change sink.old sink.new) result

-- a replay that writes pages ran to its end: every token is an allowed move, and the sink took the page after each; one that
-- has failed was given none
pub record IsReplayedAs (page : Page) (g : GameRules) (start : Board) (moves sink : Device) (ended : Ended) : Type 0 where
  pub replay : IsReplayAs page g start moves sink (Ok ended)
  pub sound : IsTrue sink.failed → move_tokens replay.text ≡ []

-- why moves weren't replayed to their end, each fault only where those before it have no cause: `Unread` holds where the moves
-- weren't read, and what holds where the replay itself ended with a fault is told of that fault
abbrev pub IsMovesFault : Type 0 → (ReplayFault → Type 0) → Device → Device → ProgramFault → Type 0
IsMovesFault Unread Of moves sink (Read of_moves) = Unread × IsTrue moves.failed
IsMovesFault Unread Of moves sink (TooLong of_moves) = Unread × TellsAtLeast moves.old (LONGEST_MOVES + 1) × (IsTrue moves.failed → ⊥)
IsMovesFault Unread Of moves sink Memory = Unread × TellsAtLeast moves.old 1 × (IsTrue moves.failed → ⊥)
IsMovesFault Unread Of moves sink (Moves (BadMove step)) = Of (BadMove step)
IsMovesFault Unread Of moves sink (Moves (NotAllowed step)) = Of (NotAllowed step)
IsMovesFault Unread Of moves sink (Write of_answer) = Of unwritten × IsTrue sink.failed
IsMovesFault Unread Of moves sink other = ⊥

-- why a replay from a board that is read didn't run to its end; before the moves are replayed nothing is written
abbrev pub IsReplayFault : GameRules → Device → Device → Device → ProgramFault → Type 0
IsReplayFault g board moves sink (Read of_board) = IsTrue board.failed × Stays moves.old moves.new × Stays sink.old sink.new
IsReplayFault g board moves sink (bad_board fault) = GivesFault g.cells board fault × Stays moves.old moves.new × Stays sink.old sink.new
IsReplayFault g board moves sink fault = IsMovesFault (IsBoardAlone g board sink) (λ e. IsReplayOf g board moves sink (Err e)) moves sink fault

-- why a replay from a position didn't run to its end; before the moves are replayed nothing is written
abbrev pub IsReplayFaultAs : Page → GameRules → Board → Device → Device → ProgramFault → Type 0
IsReplayFaultAs page g start moves sink fault = IsMovesFault (Stays sink.old sink.new) (λ e. IsReplayAs page g start moves sink (Err e)) moves sink fault
