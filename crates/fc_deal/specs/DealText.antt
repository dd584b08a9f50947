-- The text of a deal: its columns.
use Rattle.std.specs.Prelude.{ℕ, List, [], ◌∷◌, ◌++◌, map}
use Rattle.std.specs.List.{flat_map, join_with_byte}
use Rattle.fc_cards.specs.Texts.{card_text}
use Rattle.fc_position.specs.Board.{Board}

-- the cards' texts, with a blank between two
abbrev pub cards_text : List ℕ → List ℕ
cards_text cards = join_with_byte 32 (map card_text cards)

-- a column is printed as its cards, and LF
abbrev pub line_text : List ℕ → List ℕ
line_text cards = cards_text cards ++ 10 ∷ []

-- the columns are printed one after the other
abbrev pub deal_text : Board → List ℕ
deal_text b = flat_map line_text b.columns
