-- Moves in two characters: where the card comes from, and where it goes.
use Rattle.std.specs.Prelude.{ℕ, ◌+◌, ◌<◌, List, [], ◌∷◌}
use Rattle.fc_cards.specs.declared.places.Place.{Place}
use Rattle.fc_cards.specs.declared.places.Place.TheVariants.{Column, Cell, Home}
use Rattle.fc_moves.specs.declared.steps.Move.{Move}

-- columns are `1` to `8`, cells `a` to `d`, and home is `h`
abbrev pub place_letter : Place → ℕ
place_letter (Column i) = 49 + i
place_letter (Cell i) = 97 + i
place_letter Home = 104

-- the source, then the destination
abbrev pub move_text : Move → List ℕ
move_text m = place_letter m.from ∷ place_letter m.to ∷ []

-- the place is there: one of eight columns, one of four cells, or home
abbrev pub IsThere : Place → Type 0
IsThere (Column i) = i < 8
IsThere (Cell i) = i < 4
IsThere Home = Unit {0}

-- the place is a column or a cell that is there
abbrev pub IsSource : Place → Type 0
IsSource (Column i) = i < 8
IsSource (Cell i) = i < 4
IsSource Home = ⊥

-- moves that have a text: from a column or a cell, to any place that is there
pub record HasText (m : Move) : Type 0 where
  pub from : IsSource m.from
  pub to : IsThere m.to
