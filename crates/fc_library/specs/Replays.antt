-- What replaying promises, of a list in memory.
use Rattle.std.specs.Prelude.{◌≡◌, ℕ, ◌<◌, ◌≤◌, cond, List, [], length, None, Some, Ok, Err}
use Rattle.fc_position.specs.Board.{Board}
use Rattle.fc_replay.specs.Played.{ReplaysAs, sink_change}
use Rattle.fc_replay.specs.Token.{move_tokens}
use Rattle.fc_replay.specs.declared.pages.Page.TheVariants as page
use Rattle.fc_replay.specs.declared.replays.Ended.{Ended}
use Rattle.fc_lists.specs.declared.list_plays.TheConstants.{LONGEST_MOVES}
use Rattle.fc_library.specs.Boards.{IsTextFault, SpellsOnceTidy}
use Rattle.fc_library.specs.Games.{IsNamed, game_named}
use Rattle.fc_library.specs.declared.game_names.GameName.{GameName}
use Rattle.fc_library.specs.declared.told_answers.Told.{Told}
use Rattle.fc_library.specs.declared.call_refusals.CallRefusal.{CallRefusal}
use Rattle.fc_library.specs.declared.call_refusals.CallRefusal.TheVariants as refused

-- a board of a game was given, and no more bytes than a list may have
pub record CanBeReplayed (name : GameName) (text list : List ℕ) (start : Board) : Type 0 where
  pub named : IsNamed name
  pub spelled : SpellsOnceTidy name.cells text start
  pub short : length list ≤ LONGEST_MOVES

-- every token is an allowed move, the text is that of the boards after each, and the status tells whether the last is won
pub record IsReplayTold (name : GameName) (text list : List ℕ) (told : Told) : Type 0 where
  pub start : Board
  pub given : CanBeReplayed name text list start
  pub ended : Ended
  pub replayed : ReplaysAs page.Board (game_named name) start (move_tokens list) (sink_change (Some []) (Some told.text.items)) (Ok ended)
  pub numbers : told.outcome ≡ None
  pub status : told.status ≡ cond ended.is_won 0 3
  pub place : told.place ≡ 0

-- why a list wasn't played to its end, each fault only where those before it have no cause: what stood written when it
-- stopped is told of the fault
abbrev pub IsReplayRefused : GameName → List ℕ → List ℕ → CallRefusal → Type 0
IsReplayRefused name text list refused.Game = IsNamed name → ⊥
IsReplayRefused name text list (refused.Board fault) = IsNamed name × IsTextFault name.cells text fault
IsReplayRefused name text list refused.TooLong =
    IsNamed name × ((start : Board) × SpellsOnceTidy name.cells text start) × (LONGEST_MOVES < length list)
IsReplayRefused name text list (refused.Moves fault) = (start : Board) × CanBeReplayed name text list start
    × ((written : List ℕ) × ReplaysAs page.Board (game_named name) start (move_tokens list) (sink_change (Some []) (Some written)) (Err fault))
IsReplayRefused name text list other = ⊥
