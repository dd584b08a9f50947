-- Classes of boards: boards that differ in the order of their columns and of their cells alone.
use Rattle.std.specs.Prelude.{◌≡◌}
use Rattle.std.specs.List.Sorted.{IsPermutation}
use Rattle.fc_position.specs.Board.{Board}

-- the columns of the one board are a rearrangement of the other's, the cells likewise, and the counts are equal
pub record SameClass (b c : Board) : Type 0 where
  pub columns : IsPermutation b.columns c.columns
  pub cells : IsPermutation b.cells c.cells
  pub homes : b.homes ≡ c.homes
