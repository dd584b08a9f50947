-- The position that is built from what was gathered is the board that the code spells.
use Rattle.std.proofs.Common.{◌≡◌, ℕ, ◌+◌, ◌-◌, ◌<◌, ◌≤◌, Option, Some, None, List, [], ◌∷◌, length, map, replicate, set, get_or, cond, eqb, refl, sym, ◌∙◌, ap, arith, drop}
use Rattle.std.specs.Int.{bit_at}
use Rattle.std.proofs.lemmas.List.{length-drop, drop_more, length-append, length-map}
use Rattle.fc_position.specs.Board.{Board}
use Rattle.fc_position.specs.Position.{IsPosition}
use Rattle.fc_moves.proofs.BackLemmas.{same_board}
use Rattle.fc_codes.specs.State.{IsCodeOf}
use Rattle.fc_codes.specs.Spelled.{lying_on, chain_from, with_padding, deepest_cards, cell_cards, home_cards, board_of_code}
use Rattle.fc_codes.specs.declared.seats.Seats.{Seats}
use Rattle.fc_codes.specs.inner.Bits.{cards_of}
use Rattle.fc_codes.specs.inner.Seats.{AreSeatsOf}
use Rattle.fc_codes.proofs.BitLemmas.{least_first}
use Rattle.fc_codes.proofs.LawLemmas.{is_spelled}

-- what is filled up to n has at most n elements
few_filled : {X : Type 0} (n : ℕ) (e : X) (xs : List X) → length (with_padding n e xs) ≡ n → length xs ≤ n
few_filled n e xs long = omega (arith, long, length-append xs (replicate (n - length xs) e))

-- a position's code has no more deepest cards than columns, and no more cards in cells than cells
pub few_deepest : (s b : Board) (code : List ℕ) → IsPosition s → IsPosition b → IsCodeOf s b code → length (deepest_cards s code) ≤ 8
unfolding board_of_code
few_deepest s b code ps pb k =
    let eight = (is_spelled s b code ps pb k).position.columns in
    let cards = deepest_cards s code in
    let few = few_filled 8 [] (map (λ c. chain_from (lying_on s code) 52 (Some c)) cards) eight in
    omega (arith, few, length-map cards (λ c. chain_from (lying_on s code) 52 (Some c)))

pub few_in_cells : (s b : Board) (code : List ℕ) → IsPosition s → IsPosition b → IsCodeOf s b code → length (cell_cards code) ≤ 4
unfolding board_of_code
few_in_cells s b code ps pb k =
    let four = (is_spelled s b code ps pb k).position.cells in
    let few = few_filled 4 None (map (λ (c : ℕ). Some c) (cell_cards code)) four in
    omega (arith, few, length-map (cell_cards code) (λ (c : ℕ). Some c))

-- the board with the columns that the code spells and what was gathered is the one that it spells
pub read_is : (s : Board) (code : List ℕ) (seats : Seats) (cells : List (Option ℕ)) → AreSeatsOf s code seats → cells ≡ seats.cells
    → record { columns = (board_of_code s code).columns; cells = cells; homes = seats.homes } ≡ board_of_code s code
unfolding board_of_code cell_cards home_cards
read_is s code seats cells g same =
    same_board (record { columns = (board_of_code s code).columns; cells = cells; homes = seats.homes }) (board_of_code s code)
    refl (same ∙ g.cells) g.homes

-- what is left of a list tells what of it was taken
pub taken_next : (cards : List ℕ) (i c : ℕ) (rest : List ℕ) → drop i cards ≡ c ∷ rest
    → (i < length cards) × (c ≡ get_or cards i c) × (rest ≡ drop (i + 1) cards)
taken_next cards i c rest e =
    let long = ap length e in
    let inside : i < length cards = omega (arith, length-drop i cards, long) in
    let both : c ∷ rest ≡ get_or cards i c ∷ drop (i + 1) cards = sym e ∙ drop_more cards i c inside in
    (inside, cc, cc)

-- the least card of what is left is the next one
pub record NextCard (cards : List ℕ) (i bits rest card : ℕ) : Type 0 where
  pub inside : i < length cards
  pub at : card ≡ get_or cards i card
  pub left : cards_of rest ≡ drop (i + 1) cards
  pub fewer : length (cards_of rest) < length (cards_of bits)

pub next_card_is : (cards : List ℕ) (i bits rest card index : ℕ) → cards_of bits ≡ drop i cards → index ≡ card → index < 52
    → bit_at bits card ≡ 1 → ((d : ℕ) → d < card → bit_at bits d ≡ 0)
    → ((d : ℕ) → bit_at rest d ≡ cond (eqb d index) 0 (bit_at bits d)) → NextCard cards i bits rest card
next_card_is cards i bits rest card index left same below set least without =
    let gone : (d : ℕ) → bit_at rest d ≡ cond (eqb d card) 0 (bit_at bits d) = λ d.
    without d ∙ ap (λ k. cond (eqb d k) 0 (bit_at bits d)) same in
    let first = least_first bits rest card (omega (arith, below, same)) set least gone in
    let next = taken_next cards i card (cards_of rest) (sym left ∙ first) in
    record { inside = next.0; at = next.1; left = next.2; fewer = let long = ap length first in omega (arith, long) }
