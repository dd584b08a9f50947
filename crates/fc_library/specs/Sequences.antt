-- What replaying promises, of a list in memory whose entries may move several cards.
use Rattle.std.specs.Prelude.{◌≡◌, ◌⊎◌, ℕ, ◌<◌, cond, List, [], length, None, Some, Ok}
use Rattle.fc_position.specs.Board.{Board}
use Rattle.fc_moves.specs.declared.steps.Move.{Move}
use Rattle.fc_replay.specs.Played.{PlaysAs, sink_change}
use Rattle.fc_replay.specs.Token.{move_tokens}
use Rattle.fc_replay.specs.declared.pages.Page.TheVariants as page
use Rattle.fc_replay.specs.declared.replays.Ended.{Ended}
use Rattle.fc_replay.specs.declared.faults.ReplayFault.TheVariants.{BadMove, NotAllowed}
use Rattle.fc_lists.specs.Plays.{IsExpanded, IsUnplayed}
use Rattle.fc_lists.specs.declared.faults.PlayFault.{PlayFault}
use Rattle.fc_lists.specs.declared.faults.PlayFault.TheVariants as unplayed
use Rattle.fc_lists.specs.declared.list_plays.TheConstants.{LONGEST_MOVES}
use Rattle.fc_library.specs.Boards.{IsTextFault, SpellsOnceTidy}
use Rattle.fc_library.specs.Games.{IsNamed, game_named}
use Rattle.fc_library.specs.Replays.{CanBeReplayed}
use Rattle.fc_library.specs.declared.game_names.GameName.{GameName}
use Rattle.fc_library.specs.declared.told_answers.Told.{Told}
use Rattle.fc_library.specs.declared.call_refusals.CallRefusal.{CallRefusal}
use Rattle.fc_library.specs.declared.call_refusals.CallRefusal.TheVariants as refused

-- the tokens spell entries that these one-card moves play, the text is that of the boards after each, and the status tells whether
-- the last is won
pub record IsSequencesTold (name : GameName) (text list : List ℕ) (told : Told) : Type 0 where
  pub start : Board
  pub given : CanBeReplayed name text list start
  pub steps : List Move
  pub expanded : IsExpanded (game_named name) start (move_tokens list) steps
  pub ended : Ended
  pub played : PlaysAs page.Board (game_named name) start steps (sink_change (Some []) (Some told.text.items)) (Ok ended)
  pub numbers : told.outcome ≡ None
  pub status : told.status ≡ cond ended.is_won 0 3
  pub place : told.place ≡ 0

-- a board of a game was given and a list that isn't too long, whose entries aren't played for this
abbrev pub IsUnplayedList : GameName → List ℕ → List ℕ → PlayFault → Type 0
IsUnplayedList name text list fault = (start : Board) × CanBeReplayed name text list start × IsUnplayed (game_named name) start (move_tokens list) fault

-- why a list wasn't played to its end, each fault only where those before it have no cause
abbrev pub IsSequencesRefused : GameName → List ℕ → List ℕ → CallRefusal → Type 0
IsSequencesRefused name text list refused.Game = IsNamed name → ⊥
IsSequencesRefused name text list (refused.Board fault) = IsNamed name × IsTextFault name.cells text fault
IsSequencesRefused name text list refused.TooLong =
    (IsNamed name × ((start : Board) × SpellsOnceTidy name.cells text start) × (LONGEST_MOVES < length list))
    ⊎ IsUnplayedList name text list unplayed.TooLong
IsSequencesRefused name text list (refused.Moves (BadMove step)) = IsUnplayedList name text list (unplayed.NoEntry step)
IsSequencesRefused name text list (refused.Moves (NotAllowed step)) = IsUnplayedList name text list (unplayed.NotAllowed step)
IsSequencesRefused name text list (refused.TooManyWays step) = IsUnplayedList name text list (unplayed.TooManyWays step)
IsSequencesRefused name text list refused.Memory = (start : Board) × CanBeReplayed name text list start
IsSequencesRefused name text list other = ⊥
