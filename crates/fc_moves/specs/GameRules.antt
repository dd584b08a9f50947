-- What sets one game apart from another, as plain data, and the games that come with the program.
use Rattle.std.specs.Prelude.{◌≡◌, ℕ, ◌+◌, ◌/◌, ◌%◌, ◌<◌, ◌≤◌, ◌==◌, ◌&&◌, Bool, not, List, All, Contains, map, filter, bit_or}
use Rattle.std.specs.Bool.{beq}
use Rattle.std.specs.List.{range_with_len}
use Rattle.fc_cards.specs.Card.{rank, suit, is_red, all_cards}
use Rattle.fc_position.specs.Board.{Board}
use Rattle.fc_position.specs.Position.{IsPosition, Fits}

-- the pairs (u, l) of cards for which u may stand on l, the cards that may go to an empty column, the number of cells,
-- and a code that no rule looks at
pub record GameRules : Type 0 where
  pub pairs : List (ℕ × ℕ)
  pub openers : List ℕ
  pub cells : ℕ
  pub code : ℕ

-- the card u may stand on the card l
abbrev pub Stands : GameRules → ℕ → ℕ → Type 0
Stands g u l = Contains g.pairs (u, l)

-- the card may go to an empty column
abbrev pub Opens : GameRules → ℕ → Type 0
Opens g u = Contains g.openers u

-- in each pair the lower card is one rank higher
abbrev pub IsPair : ℕ × ℕ → Type 0
IsPair p = (p.0 < 52) × (p.1 < 52) × (rank p.0 + 1 ≡ rank p.1)

-- cards stand on cards one rank higher, cards open columns, there are at most four cells, and the code is one byte
pub record IsGame (g : GameRules) : Type 0 where
  pub pairs : All IsPair g.pairs
  pub openers : All (λ c. c < 52) g.openers
  pub cells : g.cells ≤ 4
  pub code : g.code < 256

-- a position of the game: the cells that the game lacks are empty
pub record IsPositionOf (g : GameRules) (b : Board) : Type 0 where
  pub position : IsPosition b
  pub fits : Fits g.cells b

-- the first pairs of cards, by the number of one and then of the other
abbrev pub first_pairs : ℕ → List (ℕ × ℕ)
first_pairs n = map (λ k. (k / 52, k % 52)) (range_with_len 0 n)

-- every pair of cards
unfoldable pub all_pairs : List (ℕ × ℕ)
all_pairs = first_pairs 2704

-- the pairs of a card and one that is one rank higher, and passes a test with it
abbrev pub pairs_where : (ℕ → ℕ → Bool) → List (ℕ × ℕ)
pairs_where test = filter (λ p. (rank p.0 + 1 == rank p.1) && test p.0 p.1) all_pairs

-- one of the cards is red and the other black
abbrev pub are_of_other_colour : ℕ → ℕ → Bool
are_of_other_colour u l = not (beq (is_red u) (is_red l))

-- the game with n cells and this code that is built down by a test, and in which every card opens a column
abbrev pub built_game : (ℕ → ℕ → Bool) → ℕ → ℕ → GameRules
built_game test n code = record { pairs = pairs_where test; openers = all_cards; cells = n; code = code }

-- FreeCell with n cells: built down in turning colours
abbrev pub free_cell : ℕ → GameRules
free_cell n = built_game are_of_other_colour n 0

-- Baker's Game with n cells: built down in suit
abbrev pub bakers_game : ℕ → GameRules
bakers_game n = built_game (λ u l. suit u == suit l) n 1

-- the same game, but that every king opens a column, and no other card does
abbrev pub kings : GameRules → GameRules
kings g = record g { openers = filter (λ c. rank c == 13) all_cards; code = bit_or g.code 2 }
