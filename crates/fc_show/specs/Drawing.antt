-- A board as it is drawn: rows of entries, each of three letters but for what colours it.
use Rattle.std.specs.Prelude.{ℕ, zero, suc, ◌+◌, ◌*◌, ◌&&◌, ◌==◌, Bool, cond, List, [], ◌∷◌, ◌++◌, Option, Some, None, max, take, length, codes, slice_get}
use Rattle.std.specs.List.{flat_map}
use Rattle.fc_cards.specs.Card.{is_red}
use Rattle.fc_cards.specs.Texts.{card_text, with_line_end}
use Rattle.fc_position.specs.Board.{Board, home}
use Rattle.fc_show.specs.declared.styles.Style.{Style}

-- no card is marked
abbrev pub style_without_mark : Bool → Style
style_without_mark is_coloured = record { is_coloured = is_coloured; marked = None }

-- before a card stands a blank, or a mark where it is the one that is marked
abbrev pub mark_of : Option ℕ → ℕ → ℕ
mark_of None c = 32
mark_of (Some marked) c = cond (marked == c) 62 32

-- a card as it is shown: where colours are, what a terminal takes for red stands around one of a red suit
abbrev pub card_shown : Bool → ℕ → List ℕ
card_shown is_coloured c = cond (is_coloured && is_red c) (27 ∷ codes "[31m" ++ card_text c ++ 27 ∷ codes "[0m") (card_text c)

-- a card with what stands before it
abbrev pub card_entry : Style → ℕ → List ℕ
card_entry style c = mark_of style.marked c ∷ card_shown style.is_coloured c

-- a cell or a foundation without a card is a dash
abbrev pub held_entry : Style → Option ℕ → List ℕ
held_entry style None = codes "  -"
held_entry style (Some c) = card_entry style c

-- where a column has no card, nothing is drawn
abbrev pub place_entry : Style → Option ℕ → List ℕ
place_entry style None = codes "   "
place_entry style (Some c) = card_entry style c

-- the top card of a foundation with n cards of a suit
abbrev pub top_card : ℕ → ℕ → Option ℕ
top_card s zero = None
top_card s (suc n) = Some (4 * n + s)

-- a name of one letter has two blanks before it
abbrev pub name_entry : ℕ → List ℕ
name_entry letter = 32 ∷ 32 ∷ letter ∷ []

-- names side by side
abbrev pub names_row : List ℕ → List ℕ
names_row letters = flat_map name_entry letters

-- the names of the game's cells, and the suits of the foundations
abbrev pub top_names : ℕ → List ℕ
top_names n = names_row (take n (codes "abcd")) ++ (codes "   " ++ names_row (codes "CDHS"))

-- what the game's cells hold
abbrev pub cells_row : Style → ℕ → Board → List ℕ
cells_row style n b = flat_map (held_entry style) (take n b.cells)

-- the top cards of the foundations
abbrev pub foundations_row : Style → Board → List ℕ
foundations_row style b = flat_map (λ s. held_entry style (top_card s (home b s))) (0 ∷ 1 ∷ 2 ∷ 3 ∷ [])

-- the cells and the foundations side by side
abbrev pub top_row : Style → ℕ → Board → List ℕ
top_row style n b = cells_row style n b ++ (codes "   " ++ foundations_row style b)

-- one card of each column, the deepest ones in the first row
abbrev pub row : Style → List (List ℕ) → ℕ → List ℕ
row style columns i = flat_map (λ cards. place_entry style (slice_get cards i)) columns

-- how many cards the longest column has
abbrev pub height : List (List ℕ) → ℕ
height [] = 0
height (cards ∷ columns) = max (length cards) (height columns)

-- what stands above the columns: the cells and the foundations, an empty line, and the names of the columns
abbrev pub top : Style → ℕ → Board → List ℕ
top style n b = with_line_end (top_names n)
    ++ (with_line_end (top_row style n b) ++ (with_line_end [] ++ with_line_end (names_row (codes "12345678"))))

-- so many rows of the columns, those from this one on
abbrev pub rows : Style → List (List ℕ) → ℕ → ℕ → List ℕ
rows style columns i zero = []
rows style columns i (suc count) = with_line_end (row style columns i) ++ rows style columns (i + 1) count

-- the board of a game with n cells: what stands above the columns, and the columns
abbrev pub drawing : Style → ℕ → Board → List ℕ
drawing style n b = top style n b ++ rows style b.columns 0 (height b.columns)
