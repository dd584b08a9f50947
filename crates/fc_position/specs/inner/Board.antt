-- Boards: cards in columns, in cells and at home, whether or not each card has one place, within the crate.
use Rattle.std.specs.Prelude.{◌<◌, length}
use Rattle.fc_cards.specs.declared.places.Place.{Place}
use Rattle.fc_cards.specs.declared.places.Place.TheVariants.{Column, Cell, Home}
use Rattle.fc_position.specs.Board.{Board, column}

-- the place has room for a card: a column that is there, with less than 52 cards, a cell that is there, or home
abbrev pub HasRoom : Board → Place → Type 0
HasRoom b (Column i) = (i < length b.columns) × (length (column b i) < 52)
HasRoom b (Cell i) = i < length b.cells
HasRoom b Home = Unit {0}
