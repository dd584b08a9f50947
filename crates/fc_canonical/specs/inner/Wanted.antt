-- Listing the moves of the cards that are wanted, within the crate.
use Rattle.std.specs.Prelude.{◌≡◌, ◌<◌, ◌↔◌, ℕ, Bool, false, IsTrue, Some, List, Contains, filter}
use Rattle.fc_cards.specs.declared.places.Place.{Place}
use Rattle.fc_position.specs.Board.{Board, column, last_of}
use Rattle.fc_moves.specs.declared.steps.Move.{Move}
use Rattle.fc_moves.specs.GameRules.{GameRules, Stands}
use Rattle.fc_canonical.specs.Distinct.{takes_wanted}
use Rattle.fc_canonical.specs.inner.Distinct.{IsListed, ListsDistinctBelow}

-- the card may be put on the last card of a column
abbrev pub HasHost : GameRules → Board → ℕ → Type 0
HasHost g b u = (j : ℕ) × (l : ℕ) × (j < 8) × (last_of (column b j) ≡ Some l) × Stands g u l

-- a move of the place's card is to be listed
abbrev pub HasListed : GameRules → Board → Place → Type 0
HasListed g b from = (to : Place) × IsListed g b (record { from = from; to = to })

-- of the moves to be listed with numbers below n, the list has those that take a wanted card; and whether there are others
pub record ListsWantedBelow (g : GameRules) (b : Board) (cards n : ℕ) (moves : List Move) (others : Bool) : Type 0 where
  pub all : List Move
  pub lists : ListsDistinctBelow g b n all
  pub picked : moves ≡ filter (takes_wanted b cards) all
  pub left_out : IsTrue others ↔ ((m : Move) × Contains all m × (takes_wanted b cards m ≡ false))
