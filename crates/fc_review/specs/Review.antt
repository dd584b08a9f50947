-- What is known of the boards along a list of moves: from which of them a list wins, and from which none does.
use Rattle.std.specs.Prelude.{◌≡◌, ◌⊎◌, ℕ, ◌+◌, ◌<◌, ◌≤◌, List, [], ◌∷◌, length, take, All, Contains, Option, Some, None, IfSome, IsSomeAnd, MatchOption}
use Rattle.fc_position.specs.Board.{Board}
use Rattle.fc_moves.specs.declared.steps.Move.{Move}
use Rattle.fc_moves.specs.GameRules.{GameRules}
use Rattle.fc_moves.specs.Run.{CannotWin as NoneWins, Run, Wins}
use Rattle.fc_answers.specs.declared.answers.Verdict.{Verdict}
use Rattle.fc_answers.specs.declared.answers.Verdict.TheVariants.{Shortest, Won, CannotWin, GaveUp}
use Rattle.fc_methods.specs.Method.{QuestionData}
use Rattle.fc_best.specs.Best.{IsBestVerdict}
use Rattle.fc_review.specs.declared.known_boards.KnownBoard.{KnownBoard}
use Rattle.fc_review.specs.declared.reviews.Review.{Review}

-- the board is the one after so many moves of the list
pub record IsBoardAfter (g : GameRules) (b : Board) (moves : List Move) (count : ℕ) (c : Board) : Type 0 where
  pub within : count ≤ length moves
  pub run : Run g b (take count moves) c

-- what is known of a board along the list is its best verdict
pub record IsKnownAlong (q : QuestionData) (b : Board) (moves : List Move) (known : KnownBoard) : Type 0 where
  pub board : Board
  pub after : IsBoardAfter q.game b moves known.after board
  pub best : IsBestVerdict q board known.verdict

-- the verdict tells a list that wins
abbrev pub TellsList : Verdict → Type 0
TellsList (Shortest moves) = Unit {0}
TellsList (Won moves floor) = Unit {0}
TellsList CannotWin = ⊥
TellsList (GaveUp told) = ⊥

-- a list that is told wins from the board after so many moves
abbrev pub IsWonAfter : QuestionData → Board → List Move → KnownBoard → Type 0
IsWonAfter q b moves known = IsKnownAlong q b moves known × TellsList known.verdict

-- no list wins from the board after so many moves
abbrev pub IsLostAfter : GameRules → Board → List Move → ℕ → Type 0
IsLostAfter g b moves count = (c : Board) × IsBoardAfter g b moves count c × NoneWins g c

-- the searches from the board after so many moves gave up
abbrev pub IsOpenAfter : QuestionData → Board → List Move → ℕ → Type 0
IsOpenAfter q b moves count = (c : Board) × IsBoardAfter q.game b moves count c × ((told : ℕ) × IsBestVerdict q c (GaveUp told))

-- how many moves lead to the board behind the last one from which a list is told, or to the first board where none is
abbrev pub first_behind : Option KnownBoard → ℕ
first_behind None = 0
first_behind (Some won) = won.after + 1

module _ {J : Type 0} where
  -- one who knows boards says these, one after the other, and each time becomes what saying that makes of it
  abbrev pub SaysAll : (J → KnownBoard → J → Type 0) → J → List KnownBoard → J → Type 0
  SaysAll says old [] new = new ≡ old
  SaysAll says old (known ∷ later) new = (mid : J) × says old known mid × SaysAll says mid later new

-- the board after so many moves was asked
abbrev pub IsAsked : List KnownBoard → ℕ → Type 0
IsAsked asked count = (known : KnownBoard) × Contains asked known × (known.after ≡ count)

-- of the boards that were asked, it is the last one from which a list is told; without one, none tells a list
abbrev pub IsLastWon : List KnownBoard → Option KnownBoard → Type 0
IsLastWon asked won = IfSome won (λ last. Contains asked last × TellsList last.verdict)
    × All (λ known. TellsList known.verdict → known.after < first_behind won) asked

-- and so many moves lead to the first one from which none wins; without that, none is lost
abbrev pub IsFirstLost : List KnownBoard → Option ℕ → Type 0
IsFirstLost asked lost = IfSome lost (λ count. (known : KnownBoard) × Contains asked known × (known.after ≡ count) × (known.verdict ≡ CannotWin))
    × All (λ known. known.verdict ≡ CannotWin → IsSomeAnd lost (λ count. count ≤ known.after)) asked

-- along a list of so many moves, of the boards that were asked, the review has the last won one and the first lost one, which is
-- behind it; those that were asked between them gave up, and among these are the one right behind the won one and the one right
-- before the lost one, or the last board of all
pub record IsTraceOf (asked : List KnownBoard) (count : ℕ) (review : Review) : Type 0 where
  pub won : IsLastWon asked review.won
  pub lost : IsFirstLost asked review.lost
  pub behind : (first_behind review.won ≡ count + 1) ⊎ IsAsked asked (first_behind review.won)
  pub before : MatchOption review.lost (IsAsked asked count)
      (λ lost. (first_behind review.won ≤ lost) × ((lost ≡ 0) ⊎ ((last : ℕ) × (lost ≡ last + 1) × IsAsked asked last)))

-- best verdicts of boards along the list were asked for, and the review is what is known by these
pub record IsReview (q : QuestionData) (b : Board) (moves : List Move) (review : Review) : Type 0 where
  pub asked : List KnownBoard
  pub known : All (IsKnownAlong q b moves) asked
  pub trace : IsTraceOf asked (length moves) review

-- the move behind so many loses: some list wins from the board before it, and none from the board after it
pub record Loses (g : GameRules) (b : Board) (moves : List Move) (count : ℕ) : Type 0 where
  pub before : Board
  pub there : IsBoardAfter g b moves count before
  pub won : (list : List Move) × Wins g before list
  pub lost : IsLostAfter g b moves (count + 1)

-- it isn't known which move loses: a list wins behind the last move; or none from the start; or the searches gave up behind some moves
abbrev pub IsUnsettled : QuestionData → Board → List Move → Type 0
IsUnsettled q b moves = ((known : KnownBoard) × IsWonAfter q b moves known × (known.after ≡ length moves))
    ⊎ (IsLostAfter q.game b moves 0 ⊎ ((count : ℕ) × IsOpenAfter q b moves count))
