-- What the floor of a best answer says of another list that wins, and that its table backs that.
use Rattle.std.proofs.Common.{inl, inr, ◌≡◌, ℕ, ◌≤◌, Option, Some, None, List, length, refl, sym, subst, ap, arith}
use Rattle.std.specs.Prelude.{All, MatchOption}
use Rattle.std.proofs.lemmas.Option.{none-some}
use Rattle.fc_position.specs.Board.{Board}
use Rattle.fc_moves.specs.declared.steps.Move.{Move}
use Rattle.fc_moves.specs.GameRules.{GameRules}
use Rattle.fc_moves.specs.MoveText.{HasText}
use Rattle.fc_moves.specs.Run.{Wins}
use Rattle.fc_answers.specs.Answer.{HasGivenUp, IsBacked, IsBackedBelow, IsBackedBy}
use Rattle.fc_answers.specs.Table.{Listing}
use Rattle.fc_answers.specs.Verdict.{CanBeWritten, HasFewMoves}
use Rattle.fc_answers.specs.declared.answers.Answer.{Answer}
use Rattle.fc_answers.specs.declared.answers.TheConstants.{MOST_MOVES}
use Rattle.fc_answers.specs.declared.answers.Verdict.{Verdict}
use Rattle.fc_answers.specs.declared.answers.Verdict.TheVariants.{Shortest, Won, CannotWin, GaveUp}
use Rattle.fc_methods.specs.Method.{QuestionData}
use Rattle.fc_search.specs.Problem.{problem_of}
use Rattle.fc_best.specs.Best.{IsBest, IsBestAnswer, IsBestVerdict, IsFloor}
use Rattle.fc_best.specs.Watch.{floor_told}
use Rattle.fc_best.specs.Answering.{IsCertifiable, TellsWins}
use Rattle.fc_review.specs.Rating.{IsGivingUp, IsOwnVerdict, SaysAbove}

-- what is the same in an option is the same
some_or : Option ℕ → ℕ
some_or None = 0
some_or (Some n) = n

some_once : (m n : ℕ) → Some m ≡ Some n → m ≡ n
unfolding some_or
some_once m n same = ap (λ o. some_or o) same

-- the floor that a best verdict tells is one
floor_is : (q : QuestionData) (b : Board) (best : Verdict) (floor : ℕ) → IsBest q.game b q.method.strategy.budget best → floor_told best ≡ Some floor
    → IsFloor q.game b floor
floor_is q b (Shortest list) floor right same = subst (IsFloor q.game b) (some_once (length list) floor same) right.least
floor_is q b (Won list told) floor right same = subst (IsFloor q.game b) (some_once told floor same) right.1
floor_is q b CannotWin floor right same = absurd (none-some floor same)
floor_is q b (GaveUp up) floor right same = absurd (none-some floor same)

-- where it tells none, though a list wins, it gave up
pub gives_up : (q : QuestionData) (b : Board) (moves : List Move) (best : Verdict) → IsBestVerdict q b best → Wins q.game b moves → floor_told best ≡ None
    → IsGivingUp best
gives_up q b moves (Shortest list) is wins none = absurd (none-some _ (sym none))
gives_up q b moves (Won list told) is wins none = absurd (none-some _ (sym none))
gives_up q b moves CannotWin is wins none = absurd (is.right moves wins)
gives_up q b moves (GaveUp up) is wins none = (up, refl)

-- what the floor says of the list is right
says_right : (q : QuestionData) (b : Board) (moves : List Move) (floor : ℕ) (own : Verdict) → Wins q.game b moves → IsFloor q.game b floor
    → SaysAbove moves floor own → IsBest q.game b q.method.strategy.budget own
says_right q b moves floor own wins least (inl (short, same)) =
    subst (IsBest q.game b q.method.strategy.budget) (sym same)
    record {
      wins = wins;
      least = λ others more. let far = least others more in omega (arith, short, far);
    }
says_right q b moves floor own wins least (inr (long, same)) = subst (IsBest q.game b q.method.strategy.budget) (sym same) (wins, least, long)

pub own_right : (q : QuestionData) (b : Board) (moves : List Move) (best own : Verdict) (floor : ℕ) → IsBestVerdict q b best → Wins q.game b moves
    → floor_told best ≡ Some floor → SaysAbove moves floor own → IsOwnVerdict q b moves best own
own_right q b moves best own floor is wins told says = ((floor, told, says), says_right q b moves floor own wins (floor_is q b best floor is.right told) says)

-- what is told of a list, or that the searches gave up
pub own_told : (q : QuestionData) (b : Board) (moves : List Move) (best : Verdict) (own : Option Verdict) → IsBestVerdict q b best → Wins q.game b moves
    → MatchOption own (floor_told best ≡ None) (λ verdict. (floor : ℕ) × (floor_told best ≡ Some floor) × SaysAbove moves floor verdict)
    → MatchOption own (IsGivingUp best) (IsOwnVerdict q b moves best)
own_told q b moves best None is wins none = gives_up q b moves best is wins none
own_told q b moves best (Some own) is wins (floor, told, says) = own_right q b moves best own floor is wins told says

-- a table that backs a best verdict shows its floor
backs_floor : (g : GameRules) (b : Board) (best : Verdict) (floor : ℕ) (table : Listing) → floor_told best ≡ Some floor → IsBackedBy g b best table
    → IsBackedBelow g b floor table
backs_floor g b (Shortest list) floor table same backed = subst (λ n. IsBackedBelow g b n table) (some_once (length list) floor same) backed
backs_floor g b (Won list told) floor table same backed = subst (λ n. IsBackedBelow g b n table) (some_once told floor same) backed
backs_floor g b CannotWin floor table same backed = absurd (none-some floor same)
backs_floor g b (GaveUp up) floor table same backed = absurd backed

-- so it backs what the floor says of the list
backs_own : (g : GameRules) (b : Board) (moves : List Move) (floor : ℕ) (own : Verdict) (table : Listing) → Wins g b moves → IsFloor g b floor
    → SaysAbove moves floor own → IsBackedBelow g b floor table → IsBackedBy g b own table
backs_own g b moves floor own table wins least (inl (short, same)) backed =
    let far = least moves wins in
    let exact : floor ≡ length moves = omega (arith, short, far) in
    subst (λ v. IsBackedBy g b v table) (sym same) (subst (λ n. IsBackedBelow g b n table) exact backed)
backs_own g b moves floor own table wins least (inr (long, same)) backed = subst (λ v. IsBackedBy g b v table) (sym same) backed

-- a verdict with a floor didn't give up
floor_no_up : (best : Verdict) (floor : ℕ) → floor_told best ≡ Some floor → HasGivenUp best → ⊥
floor_no_up (Shortest list) floor same up = up
floor_no_up (Won list told) floor same up = up
floor_no_up CannotWin floor same up = up
floor_no_up (GaveUp told) floor same up = none-some floor same

own_backed : (g : GameRules) (b : Board) (moves : List Move) (best own : Verdict) (floor : ℕ) (table : Option Listing) → Wins g b moves
    → IsFloor g b floor → floor_told best ≡ Some floor → SaysAbove moves floor own → MatchOption table (HasGivenUp best) (IsBackedBy g b best)
    → MatchOption table (HasGivenUp own) (IsBackedBy g b own)
own_backed g b moves best own floor None wins least told says backed = absurd (floor_no_up best floor told backed)
own_backed g b moves best own floor (Some table) wins least told says backed =
    backs_own g b moves floor own table wins least says (backs_floor g b best floor table told backed)

-- what is told of the list can be certified
own_wins : (g : GameRules) (b : Board) (moves : List Move) (floor : ℕ) (own : Verdict) → Wins g b moves → SaysAbove moves floor own → TellsWins g b own
own_wins g b moves floor own wins (inl (short, same)) = subst (TellsWins g b) (sym same) wins
own_wins g b moves floor own wins (inr (long, same)) = subst (TellsWins g b) (sym same) wins

pub own_written : (moves : List Move) (floor : ℕ) (own : Verdict) → All HasText moves → length moves ≤ MOST_MOVES → SaysAbove moves floor own
    → CanBeWritten own
own_written moves floor own texts few (inl (short, same)) = subst CanBeWritten (sym same) (texts, omega (arith, few))
own_written moves floor own texts few (inr (long, same)) = subst CanBeWritten (sym same) (texts, omega (arith, few))

own_few : (moves : List Move) (floor : ℕ) (own : Verdict) → length moves ≤ MOST_MOVES → SaysAbove moves floor own → HasFewMoves own
own_few moves floor own few (inl (short, same)) = subst HasFewMoves (sym same) few
own_few moves floor own few (inr (long, same)) = subst HasFewMoves (sym same) few

pub own_certifiable : (q : QuestionData) (b : Board) (moves : List Move) (answer : Answer) (own : Verdict) (floor : ℕ) → IsBestAnswer q b answer
    → IsBacked q.game b answer → Wins q.game b moves → All HasText moves → length moves ≤ MOST_MOVES → floor_told answer.verdict ≡ Some floor
    → SaysAbove moves floor own → IsCertifiable (problem_of q b) (record { verdict = own; table = answer.table })
own_certifiable q b moves answer own floor best backed wins texts few told says =
    let least = floor_is q b answer.verdict floor best.told.right told in
    record {
      wins = own_wins q.game b moves floor own wins says;
      written = own_written moves floor own texts few says;
      few = own_few moves floor own few says;
      backed = own_backed q.game b moves answer.verdict own floor answer.table wins least told says backed;
      searched = best.tabled;
    }
