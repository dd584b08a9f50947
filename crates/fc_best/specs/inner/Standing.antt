-- What the searches so far have found and shown, taken together.
use Rattle.std.specs.Prelude.{max, ◌≡◌, ◌⊎◌, ℕ, ◌+◌, ◌≤◌, List, [], All, Option, Some, None, false, IfSome, IsSome, IsTrue, MatchOption, length}
use Rattle.fc_position.specs.Board.{Board}
use Rattle.fc_moves.specs.declared.steps.Move.{Move}
use Rattle.fc_moves.specs.Run.{ReachesMore}
use Rattle.fc_bound.specs.declared.kinds.BoundKind.{BoundKind}
use Rattle.fc_bound.specs.declared.kinds.BoundKind.TheVariants.{Plain}
use Rattle.fc_answers.specs.Table.{Listing}
use Rattle.fc_best_first.specs.Limits.{Ratio}
use Rattle.fc_best_first.specs.declared.strategies.Expansion.TheVariants.{Full}
use Rattle.fc_best.specs.declared.attempts.Attempt.{Attempt}
use Rattle.fc_best.specs.declared.attempts.Shown.{Shown}
use Rattle.fc_search.specs.declared.listeners.Progress.{Progress}
use Rattle.fc_best.specs.declared.standings.Standing.{Standing}
use Rattle.fc_best.specs.Best.{HaveGivenUp, IsFloorOf, IsListOf, IsLostBy, IsOfQuestion, IsOnTheWay, stored_by}
use Rattle.fc_best.specs.inner.Attempt.{HasNoTable, IsAttempt, IsEnd, IsGoodList, ShowsNone}
use Rattle.fc_methods.specs.Method.{QuestionData}
use Rattle.fc_methods.specs.declared.methods.Sought.TheVariants.{ByMethod}
use Rattle.fc_search.specs.Search.{State}

-- each of the searches gave up, and the greatest budget of theirs is told; or there were none, and nothing is shown
abbrev pub AllGaveUp : QuestionData → Board → List State → Option Shown → Option ℕ → Type 0
AllGaveUp q b searches shown None = (searches ≡ []) × (shown ≡ None)
AllGaveUp q b searches shown (Some told) = HaveGivenUp searches told × (told ≤ q.method.strategy.budget) × ReachesMore q.game b told

-- what was shown rests on one of the searches: by the question's bound, where it is a floor
abbrev pub IsShownBy : QuestionData → List State → Option ℕ → Type 0
IsShownBy q searches floor = MatchOption floor (IsLostBy searches) (IsFloorOf q searches)

-- the number of moves from which on lists aren't wanted any more: as many as the list has, if there is one
abbrev pub limit_of : Option (List Move) → Option ℕ
limit_of None = None
limit_of (Some moves) = Some (length moves)

-- the number is the floor that is shown, 0 where nothing is; any where none wins
abbrev pub IsLeastOf : Option Shown → ℕ → Type 0
IsLeastOf None n = n ≡ 0
IsLeastOf (Some end) n = IfSome end.floor (λ floor. n ≡ floor)

-- how far the searches are is told so: the question's budget, the floor that is shown, and how many moves the list has, if they
-- found one
pub record IsToldWith (q : QuestionData) (list : Option (List Move)) (shown : Option Shown) (far : Progress) : Type 0 where
  pub budget : far.budget ≡ q.method.strategy.budget
  pub least : IsLeastOf shown far.at_least
  pub shortest : far.shortest ≡ limit_of list

-- what these searches of the question from the board have found and shown is so, and others for shorter tails of their lists, and
-- this is left of the budget; the list and what is shown rest on them; where they found no list, each gave up, or one showed that
-- none wins; what is shown has a table where that is wanted, and only there; and how far they are is told so
pub record IsStanding (q : QuestionData) (b : Board) (searches tails : List State) (standing : Standing) : Type 0 where
  pub asked : All (IsOfQuestion q b) searches
  pub middle : All (IsOnTheWay q b) tails
  pub spent : stored_by searches + stored_by tails + standing.left ≡ q.method.strategy.budget
  pub list : IfSome standing.list (λ moves. IsGoodList q.game b moves × IsListOf q.game b searches tails moves)
  pub shown : IfSome standing.shown (λ end. IsEnd q b end × IsShownBy q searches end.floor)
  pub none : standing.list ≡ None → ShowsNone standing.shown ⊎ AllGaveUp q b searches standing.shown standing.given_up
  pub tabled : IsTrue standing.has_table → IfSome standing.shown (λ end. IsSome end.table)
  pub bare : standing.has_table ≡ false → HasNoTable standing.shown
  pub told : IsToldWith q standing.list standing.shown standing.far

-- it is so of some searches
abbrev pub Stands : QuestionData → Board → Standing → Type 0
Stands q b standing = (searches : List State) × (tails : List State) × IsStanding q b searches tails standing

-- a list is one of two, and no longer than the old one, which it is where it has as many moves; it is missing only where both are
pub record IsShorter (new old list : Option (List Move)) : Type 0 where
  pub one : (list ≡ new) ⊎ (list ≡ old)
  pub kept : IfSome old (λ moves. (shorter : List Move) × (list ≡ Some shorter) × (length shorter ≤ length moves))
  pub same : limit_of list ≡ limit_of old → list ≡ old
  pub none : list ≡ None → (new ≡ None) × (old ≡ None)

-- the question of one search with another weight, and with a share of its budget
abbrev pub with_share : QuestionData → Ratio → ℕ → QuestionData
with_share q weight share = record {
  game = q.game;
  sought = ByMethod;
  method = record {
    rule = q.method.rule;
    bound = q.method.bound;
    strategy = record { weight = weight; expansion = q.method.strategy.expansion; budget = share };
  };
}

-- one more search of the question from the board, by this weight and share of the budget and this kind of bound, for a list shorter than
-- the standing's, found and showed this
abbrev pub IsNextAttempt : QuestionData → Ratio × ℕ → BoundKind → Board → Standing → Attempt → Type 0
IsNextAttempt q part kind b standing attempt = IsAttempt (with_share q part.0 part.1) kind b (limit_of standing.list) attempt

-- the question of one search by the plain bound and full expansion, with a weight and a share of its budget
abbrev pub look_with : QuestionData → Ratio → ℕ → QuestionData
look_with q weight share = record {
  game = q.game;
  sought = ByMethod;
  method = record {
    rule = q.method.rule;
    bound = Plain;
    strategy = record { weight = weight; expansion = Full; budget = share };
  };
}

-- a table under this kind of bound
abbrev pub under : BoundKind → Option Listing → Option Listing
under kind None = None
under kind (Some table) = Some (record { rule = table.rule; bound = kind; rows = table.rows })

-- that none wins, where no floor is told, with its table under this kind of bound
abbrev pub loss_with : BoundKind → Option ℕ → Option Listing → Option Shown
loss_with kind None table = Some (record { floor = None; table = under kind table })
loss_with kind (Some floor) table = None

-- that none wins, with its table under this kind of bound; what else was shown isn't kept
abbrev pub loss_by : BoundKind → Option Shown → Option Shown
loss_by kind None = None
loss_by kind (Some end) = loss_with kind end.floor end.table

-- the new one, or the old one where there is no new one
abbrev pub newest : {X : Type 0} → Option X → Option X → Option X
newest (Some x) old = Some x
newest None old = old

-- the greater of two numbers, each of which may be missing
abbrev pub greater : Option ℕ → Option ℕ → Option ℕ
greater None other = other
greater (Some one) None = Some one
greater (Some one) (Some other) = Some (max one other)
