-- The letters of cards are ASCII, and the lines of a position have room in 200 bytes.
use Rattle.std.proofs.Common.{◌≡◌, ℕ, ◌+◌, ◌-◌, ◌*◌, ◌≤◌, ◌<◌, List, [], ◌∷◌, ◌++◌, length, take, true, ltb, refl, sym, ◌∙◌, ap, ⊎_elim, arith}
use Rattle.std.specs.Prelude.{slice_index, sum_by, codes}
use Rattle.std.specs.List.{list_all, flat_map}
use Rattle.std.proofs.lemmas.List.{append-nil, append_assoc, get_or_past, length-append, length-take-le, take_all}
use Rattle.std.proofs.lemmas.List.Sums.{AllPass-from_list_all, sum_by-cons, sum_by_more_le}
use Rattle.std.proofs.lemmas.Bool.{cases_lt}
use Rattle.std.proofs.lemmas.Bool.Decides.{nat_tests}
use Rattle.fc_cards.specs.Texts.{rank_letter, suit_letter, card_text}
use Rattle.fc_position.specs.Board.{Board, column}
use Rattle.fc_position.specs.Position.{IsPosition}
use Rattle.fc_position.proofs.BoardLemmas.{cards_most}
use Rattle.fc_deal.specs.DealText.{cards_text, line_text}

-- a letter of an ASCII text, or the zero past its end, is ASCII
letter_small : (xs : List ℕ) → list_all (λ x. ltb x 128) xs ≡ true → (i : ℕ) → slice_index xs i < 128
letter_small xs e i =
    ⊎_elim
    (λ lt. let test : ltb (slice_index xs i) 128 ≡ true = AllPass-from_list_all (λ x. ltb x 128) xs e i 0 lt in
    grind (arith, nat_tests))
    (λ le. rw (get_or_past xs i 0 le) (omega arith))
    (cases_lt i (length xs))

pub rank_letter_small : (r : ℕ) → rank_letter r < 128
rank_letter_small r = letter_small (codes "A23456789TJQK") refl (r - 1)

pub suit_letter_small : (s : ℕ) → suit_letter s < 128
suit_letter_small s = letter_small (codes "CDHS") refl s

-- a card that follows another is printed with a blank before it
abbrev pub next_text : ℕ → List ℕ
next_text c = 32 ∷ card_text c

pub cards_text-cons : (first : ℕ) (rest : List ℕ) → cards_text (first ∷ rest) ≡ card_text first ++ flat_map next_text rest
cards_text-cons first [] = sym (append-nil (card_text first))
cards_text-cons first (x ∷ xs) = ap (λ t. card_text first ++ 32 ∷ t) (cards_text-cons x xs)

pub length-next_texts : (cards : List ℕ) → length (flat_map next_text cards) ≡ 3 * length cards
length-next_texts [] = refl
length-next_texts (x ∷ xs) = let rest = length-next_texts xs in omega arith

-- cards take three bytes each at most
pub length-cards_text : (cards : List ℕ) → length (cards_text cards) ≤ 3 * length cards
length-cards_text [] = omega arith
length-cards_text (x ∷ xs) = rw (cards_text-cons x xs) (let rest = length-next_texts xs in omega arith)

-- so the lines of columns take three bytes a card, and one more each
pub length-lines : (columns : List (List ℕ)) → length (flat_map line_text columns) ≤ 3 * sum_by (λ v. length v) columns + length columns
length-lines [] = omega arith
length-lines (x ∷ xs) =
    let rest = length-lines xs in
    let all = sum_by-cons (λ (v : List ℕ). length v) x xs in
    let line = length-cards_text x in
    let one = length-append (cards_text x) (10 ∷ []) in
    let two = length-append (line_text x) (flat_map line_text xs) in
    omega arith

-- after the lines of some columns there is room for the next
pub room_for_line : (b : Board) (i : ℕ) → IsPosition b → i < length b.columns
    → length (flat_map line_text (take i b.columns)) + 3 * length (column b i) + 1 ≤ 200
room_for_line b i p below =
    let lines = length-lines (take i b.columns) in
    let most = cards_most b p in
    let both = sum_by_more_le (λ (v : List ℕ). length v) b.columns i [] below in
    let few = length-take-le i b.columns (omega arith) in
    omega (arith, p.columns)

-- after some cards there is room for a blank and the next
pub length-written : (rest : List ℕ) (i : ℕ) → i ≤ length rest → length (flat_map next_text (take i rest)) ≡ 3 * i
length-written rest i le = length-next_texts (take i rest) ∙ ap (λ k. 3 * k) (length-take-le i rest le)

-- all cards are written when the first and each that follows are
pub all_written : (before cards rest : List ℕ) (first i : ℕ) → cards ≡ first ∷ rest → length rest ≤ i
    → (before ++ card_text first) ++ flat_map next_text (take i rest) ≡ before ++ cards_text cards
all_written before cards rest first i cut past =
    append_assoc before (card_text first) (flat_map next_text (take i rest))
    ∙ ap (λ v. before ++ (card_text first ++ flat_map next_text v)) (take_all i rest past)
    ∙ ap (λ t. before ++ t) (sym (cards_text-cons first rest) ∙ ap cards_text (sym cut))
