-- The boards that codes spell.
use Rattle.std.specs.Prelude.{ℕ, zero, suc, ◌+◌, ◌-◌, ◌*◌, ◌/◌, ◌==◌, ◌&&◌, nat_lt, if◌then◌else◌, length, map, filter, fold, replicate, count_by, List, [], ◌∷◌, ◌++◌, Option, Some, None, slice_index}
use Rattle.fc_cards.specs.Card.{suit, all_cards}
use Rattle.fc_position.specs.Board.{Board}

-- what a card lies on in a column: the card before it, and the given one where it is first; `other` where it isn't there
abbrev pub under : ℕ → ℕ → List ℕ → ℕ → ℕ
under first other [] c = other
under first other (x ∷ xs) c = under x (if x == c then first else other) xs c

-- what a card lies on in a board's columns: a card; 52, the table, where it is deepest; 53 where it is in no column
abbrev pub beneath : Board → ℕ → ℕ
beneath s c = fold (λ other cards. under 52 other cards c) 53 s.columns

-- what a card lies on by its state, if at the start it lay on `start`
abbrev pub seat_of : ℕ → ℕ → ℕ → ℕ
seat_of start c n =
    if n == 0 then start else (if nat_lt n 3 then 53 else (if n == 3 then 52 else c / 4 * 4 + n))

-- what a card lies on by a code, where s is the board at the start
abbrev pub seat : Board → List ℕ → ℕ → ℕ
seat s code c = seat_of (beneath s c) c (slice_index code c)

-- the card that lies on x by a code, if one does
unfoldable pub lying_on : Board → List ℕ → ℕ → Option ℕ
lying_on s code x = fold (λ found c. if seat s code c == x then Some c else found) None all_cards

-- a card, the card that `next` tells of it, the one that it tells of that, and so on, at most so many
unfoldable pub chain_from : (ℕ → Option ℕ) → ℕ → Option ℕ → List ℕ
chain_from next zero card = []
chain_from next (suc count) None = []
chain_from next (suc count) (Some c) = c ∷ chain_from next count (next c)

-- the cards that are deepest in a column by a code, and those in a cell, by rising number
unfoldable pub deepest_cards : Board → List ℕ → List ℕ
deepest_cards s code = filter (λ c. seat s code c == 52) all_cards

unfoldable pub cell_cards : List ℕ → List ℕ
cell_cards code = filter (λ c. slice_index code c == 2) all_cards

-- how many cards of a suit are home by a code
unfoldable pub home_cards : List ℕ → ℕ → ℕ
home_cards code u = count_by (λ c. (suit c == u) && (slice_index code c == 1)) all_cards

-- the list, and `empty` after it up to so many elements
abbrev pub with_padding : {X : Type 0} → ℕ → X → List X → List X
with_padding n empty xs = xs ++ replicate (n - length xs) empty

-- the board that a code spells, where s is the board at the start: columns by rising deepest card, each made of that card
-- and those that lie on it one after the other, and cells by rising card; empty ones last
unfoldable pub board_of_code : Board → List ℕ → Board
board_of_code s code = record {
  columns = with_padding 8 [] (map (λ c. chain_from (lying_on s code) 52 (Some c)) (deepest_cards s code));
  cells = with_padding 4 None (map (λ c. Some c) (cell_cards code));
  homes = map (home_cards code) (0 ∷ 1 ∷ 2 ∷ 3 ∷ []);
}
