-- Searches for a best answer that tell how far they are, and each better list, and who hears it.
use Rattle.std.specs.Prelude.{◌≡◌, ℕ, ◌≤◌, List, [], ◌∷◌, ◌++◌, length, All, AllPairs, Option, None, Some, IfSome}
use Rattle.fc_position.specs.Board.{Board}
use Rattle.fc_moves.specs.declared.steps.Move.{Move}
use Rattle.fc_moves.specs.Run.{Wins}
use Rattle.fc_answers.specs.declared.answers.Verdict.{Verdict}
use Rattle.fc_answers.specs.declared.answers.Verdict.TheVariants.{Shortest, Won, CannotWin, GaveUp}
use Rattle.fc_best.specs.Best.{IsFloor, IsFloorOf, IsOfQuestion, stored_by}
use Rattle.fc_search.specs.Search.{State}
use Rattle.fc_search.specs.declared.listeners.Progress.{Progress}
use Rattle.fc_methods.specs.Method.{QuestionData}
use Rattle.fc_search.specs.Watch.{Better, Far, Report, HearsAll}

-- what is told of searches of the question from the board is so: its budget; no list that wins has fewer moves than the floor; and
-- a list that wins has as many moves as the best one so far, if there is one
pub record IsTold (q : QuestionData) (b : Board) (far : Progress) : Type 0 where
  pub budgeted : far.budget ≡ q.method.strategy.budget
  pub least : IsFloor q.game b far.at_least
  pub listed : IfSome far.shortest (λ n. (moves : List Move) × Wins q.game b moves × (length moves ≡ n))

-- what is heard is so: how far the searches are is told so; a list wins, and no list that wins has fewer moves than its floor
abbrev pub IsSo : QuestionData → Board → Report → Type 0
IsSo q b (Far far) = IsTold q b far
IsSo q b (Better moves floor) = Wins q.game b moves × IsFloor q.game b floor

-- how many moves the best list so far has, if there is one
abbrev pub moves_heard : Report → Option ℕ
moves_heard (Far far) = far.shortest
moves_heard (Better moves floor) = Some (length moves)

-- and the floor
abbrev pub floor_heard : Report → ℕ
floor_heard (Far far) = far.at_least
floor_heard (Better moves floor) = floor

-- what is heard is no worse than what was heard before it: where that told a list there still is one, and it is no longer; and the
-- floor is no lower
pub record IsNoWorse (before next : Report) : Type 0 where
  pub listed : IfSome (moves_heard before) (λ n. (m : ℕ) × (moves_heard next ≡ Some m) × (m ≤ n))
  pub least : floor_heard before ≤ floor_heard next

-- the list that was heard last, with its floor: the one before, where none was
abbrev pub last_list : Option (List Move × ℕ) → List Report → Option (List Move × ℕ)
last_list before [] = before
last_list before (Far far ∷ later) = last_list before later
last_list before (Better moves floor ∷ later) = last_list (Some (moves, floor)) later

-- how many moves the list that a verdict tells has, if it tells one
abbrev pub moves_told : Verdict → Option ℕ
moves_told (Shortest moves) = Some (length moves)
moves_told (Won moves floor) = Some (length moves)
moves_told CannotWin = None
moves_told (GaveUp told) = None

-- the floor that a verdict tells, if it tells one: that of a shortest list is its length
abbrev pub floor_told : Verdict → Option ℕ
floor_told (Shortest moves) = Some (length moves)
floor_told (Won moves floor) = Some floor
floor_told CannotWin = None
floor_told (GaveUp told) = None

-- the list that a verdict tells, with its floor, if it tells one
abbrev pub list_told : Verdict → Option (List Move × ℕ)
list_told (Shortest moves) = Some (moves, length moves)
list_told (Won moves floor) = Some (moves, floor)
list_told CannotWin = None
list_told (GaveUp told) = None

-- one of some searches of the question from the board, which store no more classes than the budget, shows the floor
pub record IsSearchedFloor (q : QuestionData) (b : Board) (floor : ℕ) : Type 0 where
  pub searches : List State
  pub asked : All (IsOfQuestion q b) searches
  pub spent : stored_by searches ≤ q.method.strategy.budget
  pub shown : IsFloorOf q searches floor

-- so it is where the verdict gives up
abbrev pub IfGivesUp : Verdict → Type 0 → Type 0
IfGivesUp (GaveUp told) so = so
IfGivesUp verdict so = Unit {0}

-- what is told is of the verdict: how many moves its list has, if it tells one; its floor, if it tells one, and where it gives up the
-- floor that the searches have shown
pub record IsToldOf (q : QuestionData) (b : Board) (verdict : Verdict) (far : Progress) : Type 0 where
  pub listed : far.shortest ≡ moves_told verdict
  pub least : IfSome (floor_told verdict) (λ floor. far.at_least ≡ floor)
  pub shown : IfGivesUp verdict (IsSearchedFloor q b far.at_least)

module _ {L : Type 0} (hears : L → Report → L → Type 0) where
  -- a listener hears these, which are so of searches of the question from the board, and each is no worse than those before it
  abbrev pub HearsThese : QuestionData → Board → List Report → L → L → Type 0
  HearsThese q b heard old new = HearsAll hears old heard new × All (IsSo q b) heard × AllPairs IsNoWorse heard

  -- it hears some
  abbrev pub HearsTold : QuestionData → Board → L → L → Type 0
  HearsTold q b old new = (heard : List Report) × HearsThese q b heard old new

  -- and hears last of the verdict; the last list that it hears is the verdict's, with its floor, and it hears none where that has none
  abbrev pub HearsToEnd : QuestionData → Board → Verdict → L → L → Type 0
  HearsToEnd q b verdict old new = (heard : List Report) × (far : Progress) × HearsThese q b (heard ++ Far far ∷ []) old new
      × IsToldOf q b verdict far × (last_list None heard ≡ list_told verdict)
