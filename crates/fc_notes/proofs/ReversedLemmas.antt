-- The first cards of a deal, and columns that are turned round.
use Rattle.std.proofs.Common.{◌≡◌, ℕ, zero, suc, ◌+◌, ◌-◌, ◌*◌, ◌/◌, ◌%◌, ◌<◌, List, length, take, set, refl, sym, ◌∙◌, ap, zero-add, ⊎_elim, arith}
use Rattle.std.proofs.lemmas.Bool.{cases_eq}
use Rattle.std.specs.Prelude.{Some, reverse, slice_index}
use Rattle.std.specs.List.{swap_remove}
use Rattle.std.proofs.lemmas.List.{get_or-take, get_or-set_same, get_or-set_other, get_or-reverse, length-reverse}
use Rattle.std.proofs.lemmas.List.FromFn.{get_or-range_with_len, get_or-map-range_with_len, length-map-range_with_len}
use Rattle.std.proofs.lemmas.Option.{slice_get-get_or}
use Rattle.fc_cards.specs.Card.{all_cards}
use Rattle.fc_position.specs.Board.{Board, column, last_of}
use Rattle.fc_deal.specs.Draw.{draw}
use Rattle.fc_deal.specs.Deal.{card_drawn, dealt_board, dealt_column, deck_after, place_drawn}
use Rattle.fc_deal.proofs.DealLemmas.{deck_after-more, deck_after-none, get_or-dealt_columns, length-deck_after}
use Rattle.fc_notes.specs.Length.{dealt_count}
use Rattle.fc_notes.specs.Reversed.{IsReversedDeal}
use Rattle.fc_notes.specs.inner.Reversed.{HasDealtLengths}

-- the deck is in order
card_at : (k : ℕ) → k < 52 → slice_index all_cards k ≡ k
unfolding all_cards
card_at k below = get_or-range_with_len 0 52 k 0 below ∙ zero-add k

length-all : length all_cards ≡ 52
length-all = ap length (sym (deck_after-none 0)) ∙ length-deck_after 0 0

-- the first card is the one of its draw
pub first_drawn : (n : ℕ) → card_drawn n 0 ≡ draw n 1 % 52
first_drawn n =
    ap (λ deck. slice_index deck (place_drawn (draw n 1) deck)) (deck_after-none n)
    ∙ ap (λ m. slice_index all_cards (draw n 1 % m)) length-all
    ∙ card_at (draw n 1 % 52) (omega arith)

-- in the deck after it, the last card stands in its place
left_deck : (n : ℕ) → deck_after n 1 ≡ take 51 (set all_cards (draw n 1 % 52) 51)
left_deck n =
    deck_after-more n 0
    ∙ ap (λ deck. swap_remove deck (place_drawn (draw n 1) deck) 0) (deck_after-none n)
    ∙ ap (λ m. take (m - 1) (set all_cards (draw n 1 % m) (slice_index all_cards (m - 1)))) length-all
    ∙ ap (λ u. take 51 (set all_cards (draw n 1 % 52) u)) (card_at 51 (omega arith))

second_at : (n : ℕ) → card_drawn n 1 ≡ slice_index (set all_cards (draw n 1 % 52) 51) (draw n 2 % 51)
second_at n =
    ap (λ m. slice_index (deck_after n 1) (draw n 2 % m)) (length-deck_after n 1)
    ∙ ap (λ deck. slice_index deck (draw n 2 % 51)) (left_deck n)
    ∙ get_or-take 51 (set all_cards (draw n 1 % 52) 51) (draw n 2 % 51) 0 (omega arith)

-- the second card is the one of its draw, or the last of the deck where the first one stood there
pub second_moved : (n : ℕ) → draw n 2 % 51 ≡ draw n 1 % 52 → card_drawn n 1 ≡ 51
second_moved n same =
    second_at n
    ∙ ap (slice_index (set all_cards (draw n 1 % 52) 51)) same
    ∙ get_or-set_same all_cards (draw n 1 % 52) 51 0 (omega (arith, length-all))

pub second_drawn : (n : ℕ) → (draw n 2 % 51 ≡ draw n 1 % 52 → ⊥) → card_drawn n 1 ≡ draw n 2 % 51
second_drawn n other =
    second_at n
    ∙ get_or-set_other all_cards (draw n 1 % 52) (draw n 2 % 51) 51 0 other
    ∙ card_at (draw n 2 % 51) (omega arith)

-- which of them it is
pub second_is : (n first place second : ℕ) → first ≡ draw n 1 % 52 → place ≡ draw n 2 % 51
    → (place ≡ first → second ≡ 51) → ((place ≡ first → ⊥) → second ≡ place) → card_drawn n 1 ≡ second
second_is n first place second one two moved other = ⊎_elim
    (λ same. second_moved n (sym two ∙ same ∙ one) ∙ sym (moved same))
    (λ differs. second_drawn n (λ same. differs (two ∙ same ∙ sym one)) ∙ sym two ∙ sym (other differs))
    (cases_eq place first)

-- a column of a deal
dealt_is : (n j : ℕ) → j < 8 → column (dealt_board n) j ≡ dealt_column n 52 j
unfolding dealt_board
dealt_is n j below = get_or-dealt_columns n 52 j below

length-dealt : (n j : ℕ) → j < 8 → length (column (dealt_board n) j) ≡ (52 + 7 - j) / 8
length-dealt n j below =
    ap length (dealt_is n j below) ∙ length-map-range_with_len (λ depth. card_drawn n (8 * depth + j)) 0 ((52 + 7 - j) / 8)

deepest : (n j : ℕ) → j < 8 → slice_index (column (dealt_board n) j) 0 ≡ card_drawn n j
deepest n j below =
    let some : 0 < (52 + 7 - j) / 8 = omega arith in
    let here : 8 * 0 + j ≡ j = omega arith in
    ap (λ cards. slice_index cards 0) (dealt_is n j below)
    ∙ get_or-map-range_with_len (λ depth. card_drawn n (8 * depth + j)) 0 ((52 + 7 - j) / 8) 0 0 0 some refl
    ∙ ap (card_drawn n) here

-- the last card of a column that is turned round is the deepest
last_turned : (cards other : List ℕ) (x : ℕ) → cards ≡ reverse other → 0 < length other → slice_index other 0 ≡ x → last_of cards ≡ Some x
last_turned cards other x turned some first =
    let size = length-reverse other in
    let k = length (reverse other) - 1 in
    let there : k < length (reverse other) = omega arith in
    let below : k < length other = omega arith in
    let top : length other - 1 - k ≡ 0 = omega arith in
    ap last_of turned
    ∙ slice_get-get_or (reverse other) k 0 there
    ∙ ap (λ u. Some u) (get_or-reverse other k 0 below ∙ ap (λ i. slice_index other i) top ∙ first)

-- the last cards of the first columns are the first that are dealt
pub last_dealt : (n j : ℕ) (b : Board) → j < 8 → IsReversedDeal n b → last_of (column b j) ≡ Some (card_drawn n j)
last_dealt n j b below deal =
    let some : 0 < length (column (dealt_board n) j) = omega (arith, length-dealt n j below) in
    last_turned (column b j) (column (dealt_board n) j) (card_drawn n j) (deal.turned j below) some (deepest n j below)

-- so many cards does a column of a deal have
dealt_size : (j : ℕ) → j < 8 → (52 + 7 - j) / 8 ≡ dealt_count j
dealt_size zero below = refl
dealt_size (suc zero) below = refl
dealt_size (suc (suc zero)) below = refl
dealt_size (suc (suc (suc zero))) below = refl
dealt_size (suc (suc (suc (suc zero)))) below = refl
dealt_size (suc (suc (suc (suc (suc zero))))) below = refl
dealt_size (suc (suc (suc (suc (suc (suc zero)))))) below = refl
dealt_size (suc (suc (suc (suc (suc (suc (suc zero))))))) below = refl
dealt_size (suc (suc (suc (suc (suc (suc (suc (suc j)))))))) below = absurd (omega arith)

-- a deal whose columns are turned round has a deal's lengths
pub reversed_lengths : (n : ℕ) (b : Board) → IsReversedDeal n b → HasDealtLengths b
reversed_lengths n b deal i below =
    ap length (deal.turned i below) ∙ length-reverse (column (dealt_board n) i) ∙ length-dealt n i below ∙ dealt_size i below
