-- What a tally of a table's rows counts.
use Rattle.std.specs.Prelude.{◌≡◌, ℕ, ◌+◌, ◌-◌, ◌^◌, min, List, Option, Some, None, slice_index, slice_set}
use Rattle.fc_answers.specs.declared.answers.Outcome.{Outcome}
use Rattle.fc_answers.specs.declared.answers.Outcome.TheVariants.{Shortest, Won, CannotWin, GaveUp}

-- where an answer, or want of memory, stands among those that are counted
abbrev pub answer_place : Option Outcome → ℕ
answer_place (Some (Shortest count)) = 0
answer_place (Some (Won count floor)) = 1
answer_place (Some CannotWin) = 2
answer_place (Some (GaveUp budget)) = 3
answer_place None = 4

-- one more, up to the greatest number of eight bytes
abbrev pub one_more : ℕ → ℕ
one_more n = min (n + 1) (2 ^ 64 - 1)

-- how many boards are done, and how many answers there are of each kind
pub record Counts : Type 0 where
  pub done : ℕ
  pub answers : List ℕ

-- a board was counted whose answer stands there: one more is done, and there is one more of its kind
pub record IsCounted (place : ℕ) (old new : Counts) : Type 0 where
  pub done : new.done ≡ one_more old.done
  pub answers : new.answers ≡ slice_set old.answers place (one_more (slice_index old.answers place))
