-- The printed board: ten lines, each ended by LF.
use Rattle.std.specs.Prelude.{ℕ, zero, suc, List, [], ◌∷◌, ◌++◌, Option, Some, None, map, take, codes}
use Rattle.std.specs.List.{flat_map}
use Rattle.fc_cards.specs.Texts.{rank_letter, suit_letter, card_text, with_line_end}
use Rattle.fc_position.specs.Board.{Board, home}

-- a count is printed as `0` or as its rank's letter
abbrev pub count_letter : ℕ → ℕ
count_letter zero = 48
count_letter (suc r) = rank_letter (suc r)

-- how many cards of a suit are home: the suit's letter, a dash, and the count
abbrev pub home_text : ℕ → ℕ → List ℕ
home_text s n = suit_letter s ∷ 45 ∷ count_letter n ∷ []

-- what a cell holds is printed as a card or a dash
abbrev pub cell_text : Option ℕ → List ℕ
cell_text None = codes "-"
cell_text (Some c) = card_text c

-- each entry has a blank before it
abbrev pub entries_text : List (List ℕ) → List ℕ
entries_text entries = flat_map (λ entry. 32 ∷ entry) entries

-- how many cards are home, in the order hearts, clubs, diamonds, spades
abbrev pub foundations_text : Board → List ℕ
foundations_text b = codes "Foundations:" ++ entries_text (map (λ s. home_text s (home b s)) (2 ∷ 0 ∷ 1 ∷ 3 ∷ []))

-- what the game's cells hold
abbrev pub cells_text : ℕ → Board → List ℕ
cells_text n b = codes "Freecells:" ++ entries_text (map cell_text (take n b.cells))

-- the cards of a column, the deepest first
abbrev pub column_text : List ℕ → List ℕ
column_text cards = codes ":" ++ entries_text (map card_text cards)

-- the board of a game with n cells: the foundations, the cells, and the eight columns
abbrev pub board_text : ℕ → Board → List ℕ
board_text n b = flat_map with_line_end (foundations_text b ∷ cells_text n b ∷ map column_text b.columns)
