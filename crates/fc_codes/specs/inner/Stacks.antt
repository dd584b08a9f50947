-- What is laid of a column all at once, within the crate.
use Rattle.std.specs.Prelude.{◌≡◌, ℕ, ◌-◌, ◌++◌, length, List, Some, slice_set}
use Rattle.fc_position.specs.Board.{Board}
use Rattle.fc_codes.specs.Spelled.{chain_from, lying_on}
use Rattle.fc_codes.specs.inner.Seats.{IsBare}

-- of a class with this code, as seen from a start
module _ (s : Board) (code : List ℕ) where
  -- a column was begun with the card: it is whole with the cards that lie one after the other on its last one, on which lies no card
  -- that hasn't moved
  pub record HasBegun (card i : ℕ) (old : List (List ℕ)) (last : ℕ) (new : List (List ℕ)) : Type 0 where
    pub front : List ℕ
    pub laid : new ≡ slice_set old i front
    pub whole : chain_from (lying_on s code) 52 (Some card)
        ≡ front ++ chain_from (lying_on s code) (52 - length front) (lying_on s code last)
    pub bare : IsBare s code last
