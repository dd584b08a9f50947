-- What is found of lists of moves, told in memory.
use Rattle.std.specs.Prelude.{◌≡◌, ℕ, ◌+◌, ◌<◌, ◌≤◌, min, List, length, Option, Some, None, IfSome}
use Rattle.fc_position.specs.Board.{Board}
use Rattle.fc_moves.specs.declared.steps.Move.{Move}
use Rattle.fc_moves.specs.GameRules.{GameRules}
use Rattle.fc_answers.specs.declared.answers.Outcome.{Outcome}
use Rattle.fc_answers.specs.declared.answers.Outcome.TheVariants as outcome
use Rattle.fc_answers.specs.declared.answers.Verdict.{Verdict}
use Rattle.fc_answers.specs.declared.answers.Verdict.TheVariants.{Shortest, Won, CannotWin, GaveUp}
use Rattle.fc_lists.specs.declared.list_plays.TheConstants.{LONGEST_MOVES}
use Rattle.fc_methods.specs.Method.{QuestionData}
use Rattle.fc_replay.specs.Played.{SpellMoves}
use Rattle.fc_replay.specs.Token.{move_tokens}
use Rattle.fc_replay.specs.declared.faults.ReplayFault.TheVariants.{NotAllowed}
use Rattle.fc_review.specs.Finding.{IsFinding, TellsFinding, finding_status}
use Rattle.fc_review.specs.Review.{Loses}
use Rattle.fc_review.specs.Texts.{losing_of}
use Rattle.fc_lists.specs.Weaving.{IsRefusedMove, IsWoven}
use Rattle.fc_review.specs.declared.known_boards.KnownBoard.{KnownBoard}
use Rattle.fc_review.specs.declared.findings.Finding.{Finding}
use Rattle.fc_review.specs.declared.findings.Finding.TheVariants.{Rated, Traced}
use Rattle.fc_library.specs.Bests.{CanBeAsked, IsBestRefused, asked_best}
use Rattle.fc_library.specs.Games.{game_named}
use Rattle.fc_library.specs.Lists.{IsMisspelled}
use Rattle.fc_library.specs.declared.game_names.GameName.{GameName}
use Rattle.fc_library.specs.declared.told_answers.Told.{Told}
use Rattle.fc_library.specs.declared.call_refusals.CallRefusal.{CallRefusal}
use Rattle.fc_library.specs.declared.call_refusals.CallRefusal.TheVariants as refused

-- the moves are those that the tokens spell, with the moves home that these leave out
abbrev pub IsWovenFrom : GameRules → Board → List (List ℕ) → List Move → Type 0
IsWovenFrom g b tokens moves = (given : List Move) × SpellMoves tokens given × IsWoven g b given moves

-- why tokens aren't played: one spells no move, a move that they spell isn't allowed, or memory was wanted
abbrev pub IsUnwoven : GameRules → Board → List (List ℕ) → CallRefusal → Type 0
IsUnwoven g b tokens (refused.Moves (NotAllowed step)) = (given : List Move) × SpellMoves tokens given × IsRefusedMove g b given step
IsUnwoven g b tokens other = IsMisspelled tokens other

-- a number of four bytes: the greatest one for any that is greater
abbrev pub capped_number : ℕ → ℕ
capped_number number = min number 4294967295

-- a verdict without its moves
abbrev pub capped_outcome : Verdict → Outcome
capped_outcome (Shortest moves) = outcome.Shortest (capped_number (length moves))
capped_outcome (Won moves floor) = outcome.Won (capped_number (length moves)) floor
capped_outcome CannotWin = outcome.CannotWin
capped_outcome (GaveUp budget) = outcome.GaveUp budget

-- the number of the move behind so many
abbrev pub place_behind : Option ℕ → ℕ
place_behind None = 0
place_behind (Some before) = capped_number (before + 1)

-- how many moves stand before the one that loses, if it is known which
abbrev pub losing_before : Finding → Option ℕ
losing_before (Rated rating by_hand) = None
losing_before (Traced review) = losing_of review.won review.lost

-- the number of the move that loses, 0 where none is known to
abbrev pub losing_place : Finding → ℕ
losing_place finding = place_behind (losing_before finding)

-- what is told of a list itself, or of the best one where the searches gave up
abbrev pub own_outcome : Option Verdict → Verdict → Outcome
own_outcome (Some own) best = capped_outcome own
own_outcome None best = capped_outcome best

-- what is told from the last board from which a list is told
abbrev pub won_outcome : Option KnownBoard → Option Outcome
won_outcome (Some won) = Some (capped_outcome won.verdict)
won_outcome None = None

-- what is told of a list that wins, or else from the last board on its way from which a list is told
abbrev pub review_outcome : Finding → Option Outcome
review_outcome (Rated rating by_hand) = Some (own_outcome rating.own rating.best)
review_outcome (Traced review) = won_outcome review.won

-- something is found of the moves, and was told: its line, the move that loses, from the board before which some list wins, and none
-- from the board after it, its numbers, and its status
pub record IsFoundTold (q : QuestionData) (b : Board) (moves : List Move) (told : Told) : Type 0 where
  pub finding : Finding
  pub found : IsFinding q b moves None finding
  pub tells : TellsFinding q.game b moves finding told.text.items
  pub losing : told.place ≡ losing_place finding
  pub loses : IfSome (losing_before finding) (Loses q.game b moves)
  pub numbers : told.outcome ≡ review_outcome finding
  pub status : told.status ≡ finding_status moves finding

-- a board of a game was given with a budget, and no more bytes than a list may have
pub record CanBeReviewed (name : GameName) (text list : List ℕ) (budget : ℕ) (start : Board) : Type 0 where
  pub asked : CanBeAsked name text budget start
  pub short : length list ≤ LONGEST_MOVES

-- a list was reviewed, with the moves home that it leaves out
abbrev pub IsReviewTold : GameName → List ℕ → List ℕ → ℕ → Told → Type 0
IsReviewTold name text list budget told = (start : Board) × CanBeReviewed name text list budget start
    × ((moves : List Move) × IsWovenFrom (game_named name) start (move_tokens list) moves × IsFoundTold (asked_best name budget) start moves told)

-- why it wasn't, each fault only where those before it have no cause
abbrev pub IsReviewRefused : GameName → List ℕ → List ℕ → ℕ → CallRefusal → Type 0
IsReviewRefused name text list budget refused.TooLong = (start : Board) × CanBeAsked name text budget start × (LONGEST_MOVES < length list)
IsReviewRefused name text list budget (refused.Moves fault) = (start : Board) × CanBeReviewed name text list budget start
    × IsUnwoven (game_named name) start (move_tokens list) (refused.Moves fault)
IsReviewRefused name text list budget refused.Memory = (start : Board) × CanBeReviewed name text list budget start
IsReviewRefused name text list budget other = IsBestRefused name text budget other
