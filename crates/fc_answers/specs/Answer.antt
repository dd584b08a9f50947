-- What backs an answer.
use Rattle.std.specs.Prelude.{◌≡◌, ℕ, ◌+◌, ◌<◌, ◌≤◌, List, length, Contains, IfSome, MatchOption}
use Rattle.fc_position.specs.Board.{Board}
use Rattle.fc_moves.specs.GameRules.{GameRules}
use Rattle.fc_bound.specs.declared.kinds.BoundKind.{BoundKind}
use Rattle.fc_bound.specs.Kinds.{guide_of, low_of}
use Rattle.fc_tables.specs.Table.{IsClosed, IsClosedBelow, as_boards}
use Rattle.fc_canonical.specs.Spelled.{board_of_bytes}
use Rattle.fc_answers.specs.declared.answers.Answer.{Answer}
use Rattle.fc_answers.specs.declared.answers.Verdict.{Verdict}
use Rattle.fc_answers.specs.declared.answers.Verdict.TheVariants.{Shortest, Won, CannotWin, GaveUp}
use Rattle.fc_answers.specs.Table.{Listing, IsTable}

-- the table shows that no list of fewer than n moves wins from the board: it is one of the game, closed below n under its
-- own rule by a bound of its own kind, and each cost and guide is below n
pub record IsBackedBelow (g : GameRules) (b : Board) (n : ℕ) (table : Listing) : Type 0 where
  pub listed : IsTable g table
  pub closed : IsClosedBelow (low_of table.bound) g table.rule b n (as_boards table.rows)
  pub below : (e : List ℕ × ℕ) → Contains table.rows e → e.1 + guide_of table.bound (board_of_bytes e.0) < n

-- the table shows that no list wins from the board: it is one of the game, closed under its own rule, and lists each class
-- at no cost
pub record IsBackedWhole (g : GameRules) (b : Board) (table : Listing) : Type 0 where
  pub listed : IsTable g table
  pub closed : IsClosed g table.rule b (as_boards table.rows)
  pub free : (e : List ℕ × ℕ) → Contains table.rows e → e.1 ≡ 0

-- the table backs the verdict: it shows that no list is shorter, or that none is below the floor, or that there is none; what
-- was given up has no such table
abbrev pub IsBackedBy : GameRules → Board → Verdict → Listing → Type 0
IsBackedBy g b (Shortest moves) table = IsBackedBelow g b (length moves) table
IsBackedBy g b (Won moves floor) table = IsBackedBelow g b floor table
IsBackedBy g b CannotWin table = IsBackedWhole g b table
IsBackedBy g b (GaveUp told) table = ⊥

-- the verdict is that a search gave up
abbrev pub HasGivenUp : Verdict → Type 0
HasGivenUp (Shortest moves) = ⊥
HasGivenUp (Won moves floor) = ⊥
HasGivenUp CannotWin = ⊥
HasGivenUp (GaveUp told) = Unit {0}

-- the answer is backed: its table backs its verdict, or it has none and gave up
abbrev pub IsBacked : GameRules → Board → Answer → Type 0
IsBacked g b answer = MatchOption answer.table (HasGivenUp answer.verdict) (IsBackedBy g b answer.verdict)

-- what an answer lists was searched by this home rule and this kind of bound, within so many classes
abbrev pub IsSearchedBy : ℕ → BoundKind → ℕ → Answer → Type 0
IsSearchedBy rule kind budget answer = IfSome answer.table (λ table. (table.rule ≡ rule) × (table.bound ≡ kind) × (length table.rows ≤ budget))

-- the verdict is that of a backed answer, by this home rule and this kind of bound, within so many classes
pub record CanBeBacked (g : GameRules) (rule : ℕ) (kind : BoundKind) (budget : ℕ) (b : Board) (verdict : Verdict) : Type 0 where
  pub answer : Answer
  pub told : answer.verdict ≡ verdict
  pub backed : IsBacked g b answer
  pub searched : IsSearchedBy rule kind budget answer
