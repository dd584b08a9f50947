-- Each deal deals every card once.
use Rattle.std.proofs.Common.{◌≡◌, ℕ, zero, suc, ◌+◌, ◌-◌, ◌*◌, ◌/◌, ◌%◌, ◌≤◌, ◌<◌, List, [], ◌∷◌, ◌++◌, length, take, set, get_or, map, cond, eqb, replicate, refl, sym, ◌∙◌, ap, subst, ⊎_elim, add-one, arith}
use Rattle.std.specs.Prelude.{None, Result, Ok, Err, IsSome, IfOk, IfErr, IfSome, slice_index, sum_by}
use Rattle.std.specs.List.{range_with_len, swap_remove}
use Rattle.std.specs.Result.{result_ok}
use Rattle.arrayvec.specs.ArrayVec.{ArrayVec}
use Rattle.std.proofs.lemmas.List.{length-take, length-set, nil_from_length, get_or-set_same, get_or-set_other, get_or-replicate, get_or-map, map-set, map-id, take_all}
use Rattle.std.proofs.lemmas.List.FromFn.{fill_by_all, map-range_with_len_more, length-map-range_with_len, get_or-map-range_with_len}
use Rattle.std.proofs.lemmas.List.Sums.{sum_by-set, sum_by_push, sum_by-cons, sum_by-swap_remove}
use Rattle.std.proofs.lemmas.Bool.{cases_eq}
use Rattle.std.proofs.lemmas.Bool.Decides.{nat_tests}
use Rattle.fc_cards.specs.Card.{suit, all_cards}
use Rattle.fc_position.specs.Board.{Board, places, count_in_column, count_at_home}
use Rattle.fc_position.specs.Position.{Fits}
use Rattle.fc_position.specs.Tally.{IsFaultOf}
use Rattle.fc_position.proofs.TallyLemmas.{no_fault}
use Rattle.fc_position.specs.declared.faults.PartsFault.{PartsFault}
use Rattle.fc_deal.specs.Draw.{draw}
use Rattle.fc_deal.specs.Deal.{place_drawn, deck_after, card_drawn, dealt_column, dealt_columns, dealt_board}

-- the deck as it is before the first card and after one more
pub deck_after-none : (n : ℕ) → deck_after n 0 ≡ all_cards
unfolding deck_after
deck_after-none n = refl

pub deck_after-more : (n k : ℕ)
    → deck_after n (k + 1) ≡ swap_remove (deck_after n k) (place_drawn (draw n (k + 1)) (deck_after n k)) 0
unfolding deck_after
deck_after-more n k = rw (add-one k) refl

length-swap_remove : (xs : List ℕ) (i : ℕ) → length (swap_remove xs i 0) ≡ length xs - 1
length-swap_remove xs i = simp (length-take, length-set) (omega arith)

length-all_cards : length all_cards ≡ 52
unfolding all_cards
length-all_cards = refl

pub length-deck_after : (n k : ℕ) → length (deck_after n k) ≡ 52 - k
length-deck_after n zero = ap length (deck_after-none n) ∙ length-all_cards
length-deck_after n (suc k) =
    rw (← add-one k, deck_after-more n k)
    (omega (arith, length-deck_after n k, length-swap_remove (deck_after n k) (place_drawn (draw n (k + 1)) (deck_after n k))))

-- a list made from a function of the index, which changes at one index
map-range_set : {X : Type 0} (f g : ℕ → X) (m j : ℕ) (d : X) → j < m → ((i : ℕ) → i < m → (i ≡ j → ⊥) → f i ≡ g i)
    → set (map g (range_with_len 0 m)) j (f j) ≡ map f (range_with_len 0 m)
map-range_set f g m j d below same =
    let long = length-map-range_with_len g 0 m in
    fill_by_all f (set (map g (range_with_len 0 m)) j (f j)) m d
    (length-set (map g (range_with_len 0 m)) j (f j) ∙ long)
    (λ i lt. ⊎_elim
    (λ e. ap (λ k. get_or (set (map g (range_with_len 0 m)) j (f j)) k d) e ∙ get_or-set_same (map g (range_with_len 0 m)) j (f j) d (omega arith) ∙ ap f (sym e))
    (λ ne. get_or-set_other (map g (range_with_len 0 m)) j i (f j) d ne ∙ get_or-map-range_with_len g 0 m i i d lt (omega arith) ∙ sym (same i lt ne))
    (cases_eq i j))

-- one more card goes to the end of one column
dealt_column-more : (n k : ℕ) → dealt_column n (k + 1) (k % 8) ≡ dealt_column n k (k % 8) ++ card_drawn n k ∷ []
dealt_column-more n k =
    let height : (k + 1 + 7 - k % 8) / 8 ≡ (k + 7 - k % 8) / 8 + 1 = omega arith in
    let time : 8 * ((k + 7 - k % 8) / 8) + k % 8 ≡ k = omega arith in
    ap (λ h. map (λ depth. card_drawn n (8 * depth + k % 8)) (range_with_len 0 h)) height
    ∙ map-range_with_len_more (λ depth. card_drawn n (8 * depth + k % 8)) 0 ((k + 7 - k % 8) / 8) ((k + 7 - k % 8) / 8) (omega arith)
    ∙ ap (λ t. dealt_column n k (k % 8) ++ card_drawn n t ∷ []) time

dealt_column-other : (n k j : ℕ) → j < 8 → (j ≡ k % 8 → ⊥) → dealt_column n (k + 1) j ≡ dealt_column n k j
dealt_column-other n k j below other =
    let height : (k + 1 + 7 - j) / 8 ≡ (k + 7 - j) / 8 = omega arith in
    ap (λ h. map (λ depth. card_drawn n (8 * depth + j)) (range_with_len 0 h)) height

pub dealt_columns-none : (n : ℕ) → dealt_columns n 0 ≡ replicate 8 []
unfolding dealt_columns
dealt_columns-none n = refl

pub length-dealt_columns : (n k : ℕ) → length (dealt_columns n k) ≡ 8
unfolding dealt_columns
length-dealt_columns n k = refl

pub get_or-dealt_columns : (n k j : ℕ) → j < 8 → get_or (dealt_columns n k) j [] ≡ dealt_column n k j
unfolding dealt_columns
get_or-dealt_columns n k j below = get_or-map-range_with_len (dealt_column n k) 0 8 j j [] below (omega arith)

pub dealt_columns-more : (n k : ℕ)
    → dealt_columns n (k + 1) ≡ set (dealt_columns n k) (k % 8) (get_or (dealt_columns n k) (k % 8) [] ++ card_drawn n k ∷ [])
unfolding dealt_columns
dealt_columns-more n k =
    sym (map-range_set (dealt_column n (k + 1)) (dealt_column n k) 8 (k % 8) [] (omega arith) (λ j lt ne. dealt_column-other n k j lt ne))
    ∙ ap (set (dealt_columns n k) (k % 8)) (dealt_column-more n k ∙ ap (λ v. v ++ card_drawn n k ∷ []) (sym (get_or-dealt_columns n k (k % 8) (omega arith))))

-- a column has room for the next card
pub room_for_card : (n k : ℕ) → k < 52 → length (get_or (dealt_columns n k) (k % 8) []) < 52
room_for_card n k below =
    rw (get_or-dealt_columns n k (k % 8) (omega arith))
    (omega (arith, length-map-range_with_len (λ depth. card_drawn n (8 * depth + k % 8)) 0 ((k + 7 - k % 8) / 8)))

-- what is dealt and what is left add up to the deck
sum_by-dealt : (f : ℕ → ℕ) (n k : ℕ) → k ≤ 52
    → sum_by (sum_by f) (dealt_columns n k) + sum_by f (deck_after n k) ≡ sum_by f all_cards
sum_by-dealt f n zero most = rw (dealt_columns-none n, deck_after-none n) (omega arith)
sum_by-dealt f n (suc k) most =
    let before = sum_by-dealt f n k (omega arith) in
    let columns = dealt_columns n k in
    let deck = deck_after n k in
    let t = card_drawn n k in
    let long = length-deck_after n k in
    let some : place_drawn (draw n (k + 1)) deck < length deck = omega arith in
    let left = sum_by-swap_remove f deck (place_drawn (draw n (k + 1)) deck) 0 some in
    let there = length-dealt_columns n k in
    let changed = sum_by-set (sum_by f) columns (k % 8) (get_or columns (k % 8) [] ++ t ∷ []) [] (omega arith) in
    let pushed = sum_by_push f (get_or columns (k % 8) []) t in
    rw (← add-one k, dealt_columns-more n k, deck_after-more n k) (omega arith)

sum_by-dealt_all : (f : ℕ → ℕ) (n k : ℕ) → k ≡ 52 → sum_by (sum_by f) (dealt_columns n k) ≡ sum_by f all_cards
sum_by-dealt_all f n k e =
    let all = sum_by-dealt f n k (omega arith) in
    let none : deck_after n k ≡ [] = nil_from_length (deck_after n k) (omega (arith, length-deck_after n k)) in
    let nothing : sum_by f (deck_after n k) ≡ 0 = ap (sum_by f) none in
    omega arith

-- a range of numbers has each once
count-range_below : (a n c : ℕ) → c < a → count_in_column c (range_with_len a n) ≡ 0
count-range_below a zero c below = refl
count-range_below a (suc n) c below =
    let first : ◌≡◌ {A = ℕ} (cond (eqb a c) 1 0) 0 = grind (arith, nat_tests) in
    omega (arith, sum_by-cons (λ y. cond (eqb y c) 1 0) a (range_with_len (a + 1) n), first, count-range_below (a + 1) n c (omega arith))

count-range : (a n c : ℕ) → a ≤ c → c < a + n → count_in_column c (range_with_len a n) ≡ 1
count-range a zero c from below = absurd (omega arith)
count-range a (suc n) c from below =
    let cut = sum_by-cons (λ y. cond (eqb y c) 1 0) a (range_with_len (a + 1) n) in
    ⊎_elim
    (λ e. let first : ◌≡◌ {A = ℕ} (cond (eqb a c) 1 0) 1 = grind (arith, nat_tests) in
    omega (arith, cut, first, count-range_below (a + 1) n c (omega arith)))
    (λ ne. let first : ◌≡◌ {A = ℕ} (cond (eqb a c) 1 0) 0 = grind (arith, nat_tests) in
    omega (arith, cut, first, count-range (a + 1) n c (omega arith) (omega arith)))
    (cases_eq a c)

count-all_cards : (c : ℕ) → c < 52 → count_in_column c all_cards ≡ 1
unfolding all_cards
count-all_cards c below = count-range 0 52 c (omega arith) (omega arith)

-- no card is home on the board of a deal
none_home : (c : ℕ) → count_at_home c (replicate 4 0) ≡ 0
none_home c =
    let none : slice_index (replicate 4 0) (suit c) ≡ 0 = get_or-replicate 4 (suit c) 0 0 (omega arith) in
    rw none (grind (arith, nat_tests))

-- every card has one place on the board of a deal
pub places-dealt_board : (n c : ℕ) → c < 52 → places (dealt_board n) c ≡ 1
unfolding dealt_board
places-dealt_board n c below =
    let columns = sum_by-dealt_all (λ x. cond (eqb x c) 1 0) n 52 refl in
    omega (arith, columns, count-all_cards c below, none_home c)

-- a list that has each number of a card at its own place is the deck
pub all_cards_are : (cards : List ℕ) → length cards ≡ 52 → ((k : ℕ) → k < 52 → slice_index cards k ≡ k) → take 52 cards ≡ all_cards
unfolding all_cards
all_cards_are cards long each =
    take_all 52 cards (omega arith) ∙ fill_by_all (λ k. k) cards 52 0 long each ∙ map-id (range_with_len 0 52)

-- a card at the end of a column, where it is seen as a list
pub set_pushed : (columns : List (ArrayVec ℕ)) (j card : ℕ) (d new : ArrayVec ℕ) → j < length columns
    → new.items ≡ (get_or columns j d).items ++ card ∷ []
    → map (λ (v : ArrayVec ℕ). v.items) (set columns j new)
    ≡ set (map (λ (v : ArrayVec ℕ). v.items) columns) j (get_or (map (λ (v : ArrayVec ℕ). v.items) columns) j [] ++ card ∷ [])
set_pushed columns j card d new below e =
    map-set (λ (v : ArrayVec ℕ). v.items) columns j new
    ∙ ap (set (map (λ (v : ArrayVec ℕ). v.items) columns) j)
    (e ∙ ap (λ v. v ++ card ∷ []) (sym (get_or-map (λ (v : ArrayVec ℕ). v.items) columns j d [] below)))

-- dealing one more card, from what is dealt, what is left and the draw
pub dealt_more : (n k number card : ℕ) (columns : List (List ℕ)) (deck : List ℕ) → columns ≡ dealt_columns n k
    → deck ≡ deck_after n k → number ≡ draw n (k + 1) → card ≡ slice_index deck (place_drawn number deck)
    → set columns (k % 8) (get_or columns (k % 8) [] ++ card ∷ []) ≡ dealt_columns n (k + 1)
dealt_more n k number card columns deck dealt left drawn taking =
    let same : card ≡ card_drawn n k =
    taking ∙ ap (λ d. slice_index d (place_drawn number d)) left ∙ ap (λ d. slice_index (deck_after n k) (place_drawn d (deck_after n k))) drawn in
    ap (λ v. set v (k % 8) (get_or v (k % 8) [] ++ card ∷ [])) dealt
    ∙ ap (λ u. set (dealt_columns n k) (k % 8) (get_or (dealt_columns n k) (k % 8) [] ++ u ∷ [])) same
    ∙ sym (dealt_columns-more n k)

pub left_more : (n k number : ℕ) (deck : List ℕ) → deck ≡ deck_after n k → number ≡ draw n (k + 1)
    → swap_remove deck (place_drawn number deck) 0 ≡ deck_after n (k + 1)
left_more n k number deck left drawn =
    ap (λ d. swap_remove d (place_drawn number d) 0) left
    ∙ ap (λ d. swap_remove (deck_after n k) (place_drawn d (deck_after n k)) 0) drawn
    ∙ sym (deck_after-more n k)

-- the board of the dealt columns
pub dealt_board_is : (n : ℕ) (columns : List (List ℕ)) → columns ≡ dealt_columns n 52
    → record { columns = columns; cells = replicate 4 None; homes = replicate 4 0 } ≡ dealt_board n
unfolding dealt_board
dealt_board_is n columns e = ap (λ v. record { columns = v; cells = replicate 4 None; homes = replicate 4 0 }) e

-- a reply that gives a deal's board, or a fault of it, gives the board
pub board_given : (n : ℕ) (b : Board) (reply : Result Board PartsFault) → b ≡ dealt_board n
    → IfErr reply (IsFaultOf (places b)) → IsSome (result_ok reply)
board_given n b (Ok p) e fault = refl
board_given n b (Err f) e fault =
    absurd (no_fault (places (dealt_board n)) f (places-dealt_board n) (subst (λ x. IsFaultOf (places x) f) e fault))

pub board_same : (n : ℕ) (b : Board) (reply : Result Board PartsFault) → b ≡ dealt_board n
    → IfOk reply (λ p. p ≡ b) → IfSome (result_ok reply) (λ p. p ≡ dealt_board n)
board_same n b (Ok p) e same = same ∙ e
board_same n b (Err f) e same = tt

-- a numbered deal has no card in a cell, and so fits every game
pub dealt_fits : (n deal : ℕ) → Fits n (dealt_board deal)
unfolding dealt_board
dealt_fits n deal zero past = refl
dealt_fits n deal (suc zero) past = refl
dealt_fits n deal (suc (suc zero)) past = refl
dealt_fits n deal (suc (suc (suc zero))) past = refl
dealt_fits n deal (suc (suc (suc (suc i)))) past = refl
