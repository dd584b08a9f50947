-- Where the entries of a drawing's rows stand, and that each is read under the number of its column.
use Rattle.std.proofs.Common.{◌≡◌, ℕ, zero, suc, ◌+◌, ◌-◌, ◌*◌, ◌/◌, ◌<◌, ◌≤◌, ◌==◌, ◌&&◌, true, false, not, cond, Option, Some, None, List, [], ◌∷◌, ◌++◌, length, map, get_or, min, refl, sym, ◌∙◌, ap, append_assoc, arith}
use Rattle.std.specs.Prelude.{codes, nat_lt}
use Rattle.std.specs.List.{range_with_len, list_any}
use Rattle.std.proofs.Math.Nat.{min-eq_left}
use Rattle.std.proofs.lemmas.Bool.{cond-true, eq-eqb, le-ltb, lt-ltb, ne_eqb}
use Rattle.std.proofs.lemmas.List.{append-nil, get_or-append-add, length-append}
use Rattle.std.proofs.lemmas.List.FromFn.{fill_by_all, get_or-map-range_with_len}
use Rattle.fc_cards.specs.Card.{rank, suit}
use Rattle.fc_cards.specs.Texts.{card_text, rank_letter, suit_letter}
use Rattle.fc_show.specs.Drawing.{names_row}
use Rattle.fc_row_text.specs.declared.readings.Reading.{Reading}
use Rattle.fc_row_text.specs.declared.row_lines.RowLineKind.TheVariants.{Numbers}
use Rattle.fc_row_text.specs.declared.spans.Span.{Span}
use Rattle.fc_row_text.specs.Places.{LineSoFar, are_under, first_under, is_wide, last_place, line_start, place_behind, read_so, reading_of, room_behind, run_on, scan, scan_gap, scan_letter, scan_all, shares_place, start_of, word_ended, word_under, words_in, words_under, words_with}
use Rattle.fc_row_text.specs.RowText.{entry_of, head_below, no_places, word_at, words_of}
use Rattle.fc_row_text.proofs.DrawnWords.{AreHeld, card_above, no_gap, place_word, places, somes, words-places}

abbrev pub numbers_line : List ℕ
numbers_line = names_row (codes "12345678")

-- the number of a column in a drawing's head
abbrev pub digit : ℕ → Span
digit k = record { number = k + 1; room = 2; from = 3 * k + 2; to = 3 * k + 3 }

abbrev pub drawn_head : List (Option Span)
drawn_head = head_below Numbers no_places numbers_line

head-digits : drawn_head ≡ map (λ k. Some (digit k)) (range_with_len 0 8)
unfolding scan scan_all
head-digits = refl

head-digit : (k : ℕ) → k < 8 → get_or drawn_head k None ≡ Some (digit k)
head-digit k below =
    ap (λ places. get_or places k None) head-digits ∙ get_or-map-range_with_len (λ j. Some (digit j)) 0 8 k k None below (omega arith)

-- the entries of a row from a place on, behind so much room and so many words
abbrev pub entries_from : ℕ → ℕ → ℕ → List (Option ℕ) → List (Option Span)
entries_from place room n [] = []
entries_from place room n (None ∷ held) =
    None ∷ entries_from (place + 3) (room_behind (room_behind (room_behind room 32) 32) 32) n held
entries_from place room n (Some c ∷ held) =
    Some (record { number = n + 1; room = room_behind room 32; from = place + 1; to = place + 3 }) ∷ entries_from (place + 3) 0 (n + 1) held

abbrev pub found : List (Option Span) → List Span
found [] = []
found (None ∷ entries) = found entries
found (Some word ∷ entries) = word ∷ found entries

abbrev pub drawn_entries : List (Option ℕ) → List (Option Span)
drawn_entries held = entries_from 0 0 0 held

pub length-entries : (held : List (Option ℕ)) (place room n : ℕ) → length (entries_from place room n held) ≡ length held
length-entries [] place room n = refl
length-entries (None ∷ held) place room n =
    let more = length-entries held (place + 3) (room_behind (room_behind (room_behind room 32) 32) 32) n in omega (arith, more)
length-entries (Some c ∷ held) place room n = let more = length-entries held (place + 3) 0 (n + 1) in omega (arith, more)

pub length-found : (held : List (Option ℕ)) (place room n : ℕ) → length (found (entries_from place room n held)) ≡ length (somes held)
length-found [] place room n = refl
length-found (None ∷ held) place room n = length-found held (place + 3) (room_behind (room_behind (room_behind room 32) 32) 32) n
length-found (Some c ∷ held) place room n = let more = length-found held (place + 3) 0 (n + 1) in omega (arith, more)

-- one byte more
abbrev at_place : ℕ → ℕ → Option ℕ → List Span → LineSoFar
at_place place room start words = record { place = place; room = room; start = start; words = words }

abbrev ended : LineSoFar → List Span
ended s = (word_ended s.start s).words

one-place : (place : ℕ) → place < last_place → min place last_place + 1 ≡ place + 1
one-place place below = ap (λ p. p + 1) (min-eq_left {n = place} {m = last_place} (omega arith))

three-places : (place : ℕ) → place + 3 < last_place
    → min (min (min place last_place + 1) last_place + 1) last_place + 1 ≡ place + 3
three-places place below =
    let one = one-place place (omega arith) in
    let two = one-place (place + 1) (omega arith) in
    let three = one-place (place + 1 + 1) (omega arith) in
    ap (λ p. min (min p last_place + 1) last_place + 1) one ∙ ap (λ p. min p last_place + 1) two ∙ three ∙ omega arith

letter-step : (place room : ℕ) (start : Option ℕ) (words : List Span) (b : ℕ) → 32 < b
    → scan (at_place place room start words) b ≡ at_place (min place last_place + 1) room (Some (start_of start place)) words
unfolding scan
letter-step place room start words b above =
    let s = at_place place room start words in
    let far = 8 * (min place last_place / 8 + 1) in
    let next = min place last_place + 1 in
    ap (λ t. cond t (scan_gap b (word_ended start s)) (scan_letter b s)) (no_gap b above)
    ∙ ap (λ t. at_place (cond t far next) room (Some (start_of start place)) words) (ne_eqb b 9 (λ e. absurd (omega (arith, e, above))))

-- a word ends where the next place begins
word-closed : (held : List (Option ℕ)) (place room from : ℕ) (words : List Span)
    → ended (scan_all (at_place place room (Some from) words) (places held))
    ≡ ended (scan_all (at_place place 0 None (words_with words (record { number = length words + 1; room = room; from = from; to = place }))) (places held))
unfolding scan scan_all
word-closed [] place room from words = refl
word-closed (None ∷ held) place room from words = refl
word-closed (Some c ∷ held) place room from words = refl

-- three places more
blanks-step : (place room : ℕ) (words : List Span) (bytes : List ℕ) → place + 3 < last_place
    → scan_all (at_place place room None words) (32 ∷ 32 ∷ 32 ∷ bytes)
    ≡ scan_all (at_place (place + 3) (room_behind (room_behind (room_behind room 32) 32) 32) None words) bytes
unfolding scan scan_all
blanks-step place room words bytes below =
    ap (λ p. scan_all (at_place p (room_behind (room_behind (room_behind room 32) 32) 32) None words) bytes) (three-places place below)

card-step : (place room : ℕ) (words : List Span) (c : ℕ) (bytes : List ℕ) → c < 52 → place + 3 < last_place
    → scan_all (at_place place room None words) (32 ∷ card_text c ++ bytes)
    ≡ scan_all (at_place (place + 3) (room_behind room 32) (Some (place + 1)) words) bytes
unfolding scan scan_all
card-step place room words c bytes below few =
    let above = card_above c below in
    let r = rank_letter (rank c) in
    let t = suit_letter (suit c) in
    let next = room_behind room 32 in
    let one = min place last_place + 1 in
    let two = min one last_place + 1 in
    ap (λ s. scan_all (scan s t) bytes) (letter-step one next None words r above.0)
    ∙ ap (λ s. scan_all s bytes) (letter-step two next (Some one) words t above.1.0)
    ∙ ap (λ p. scan_all (at_place p next (Some one) words) bytes) (three-places place few)
    ∙ ap (λ p. scan_all (at_place (place + 3) next (Some p) words) bytes) (one-place place (omega arith))

-- the words of a row
row-words : (held : List (Option ℕ)) (place room : ℕ) (words : List Span) → AreHeld held
    → place + 3 * length held + 3 < last_place → length words + length held ≤ 8
    → ended (scan_all (at_place place room None words) (places held)) ≡ words ++ found (entries_from place room (length words) held)
unfolding scan_all
row-words [] place room words all near few = sym (append-nil words)
row-words (None ∷ held) place room words all near few =
    let next = room_behind (room_behind (room_behind room 32) 32) 32 in
    ap ended (blanks-step place room words (places held) (omega arith))
    ∙ row-words held (place + 3) next words all (omega arith) (omega arith)
row-words (Some c ∷ held) place room words all near few =
    let word : Span = record { number = length words + 1; room = room_behind room 32; from = place + 1; to = place + 3 } in
    let longer = length-append words (word ∷ []) in
    ap ended (card-step place room words c (places held) all.0 (omega arith))
    ∙ word-closed held (place + 3) (room_behind room 32) (place + 1) words
    ∙ ap (λ ws. ended (scan_all (at_place (place + 3) 0 None ws) (places held)))
    (cond-true _ (words ++ word ∷ []) words (lt-ltb (length words) 8 (omega arith)))
    ∙ row-words held (place + 3) 0 (words ++ word ∷ []) all.1 (omega arith) (omega (arith, longer))
    ∙ ap (λ n. (words ++ word ∷ []) ++ found (entries_from (place + 3) 0 n held)) longer
    ∙ append_assoc words (word ∷ []) (found (entries_from (place + 3) 0 (length words + 1) held))

pub drawn-words : (held : List (Option ℕ)) → AreHeld held → length held ≡ 8 → words_in (places held) ≡ found (drawn_entries held)
drawn-words held all eight = row-words held 0 0 [] all (omega arith) (omega arith)

-- which of them stands under a column's number
not-before : (place n room k : ℕ) → 3 * k + 3 ≤ place + 1
    → shares_place (digit k) (record { number = n; room = room; from = place + 1; to = place + 3 }) ≡ false
not-before place n room k past = ap (λ t. t && nat_lt (3 * k + 2) (place + 3)) (le-ltb (place + 1) (3 * k + 3) past)

not-behind : (place n room k : ℕ) → place + 3 ≤ 3 * k
    → shares_place (digit k) (record { number = n; room = room; from = place + 1; to = place + 3 }) ≡ false
not-behind place n room k far =
    ap (λ t. t && nat_lt (3 * k + 2) (place + 3)) (lt-ltb (place + 1) (3 * k + 3) (omega arith))
    ∙ le-ltb (3 * k + 2) (place + 3) (omega arith)

just-there : (place n room k : ℕ) → 3 * k ≡ place
    → shares_place (digit k) (record { number = n; room = room; from = place + 1; to = place + 3 }) ≡ true
just-there place n room k there =
    ap (λ t. t && nat_lt (3 * k + 2) (place + 3)) (lt-ltb (place + 1) (3 * k + 3) (omega arith))
    ∙ lt-ltb (3 * k + 2) (place + 3) (omega arith)

under-none : (held : List (Option ℕ)) (place room n k : ℕ) → 3 * k + 3 ≤ place + 1
    → first_under (digit k) (found (entries_from place room n held)) ≡ None
under-none [] place room n k past = refl
under-none (None ∷ held) place room n k past =
    under-none held (place + 3) (room_behind (room_behind (room_behind room 32) 32) 32) n k (omega arith)
under-none (Some c ∷ held) place room n k past =
    let rest = first_under (digit k) (found (entries_from (place + 3) 0 (n + 1) held)) in
    let word : Span = record { number = n + 1; room = room_behind room 32; from = place + 1; to = place + 3 } in
    ap (λ t. cond t (Some word) rest) (not-before place (n + 1) (room_behind room 32) k past)
    ∙ under-none held (place + 3) 0 (n + 1) k (omega arith)

under-at : (held : List (Option ℕ)) (i place room n k : ℕ) → i < length held → 3 * k ≡ place + 3 * i
    → get_or (entries_from place room n held) i None ≡ first_under (digit k) (found (entries_from place room n held))
under-at [] i place room n k within there = absurd (omega arith)
under-at (None ∷ held) zero place room n k within there =
    sym (under-none held (place + 3) (room_behind (room_behind (room_behind room 32) 32) 32) n k (omega arith))
under-at (None ∷ held) (suc i) place room n k within there =
    under-at held i (place + 3) (room_behind (room_behind (room_behind room 32) 32) 32) n k (omega arith) (omega arith)
under-at (Some c ∷ held) zero place room n k within there =
    let rest = first_under (digit k) (found (entries_from (place + 3) 0 (n + 1) held)) in
    let word : Span = record { number = n + 1; room = room_behind room 32; from = place + 1; to = place + 3 } in
    sym (ap (λ t. cond t (Some word) rest) (just-there place (n + 1) (room_behind room 32) k (omega arith)))
under-at (Some c ∷ held) (suc i) place room n k within there =
    let rest = first_under (digit k) (found (entries_from (place + 3) 0 (n + 1) held)) in
    let word : Span = record { number = n + 1; room = room_behind room 32; from = place + 1; to = place + 3 } in
    under-at held i (place + 3) 0 (n + 1) k (omega arith) (omega arith)
    ∙ sym (ap (λ t. cond t (Some word) rest) (not-behind place (n + 1) (room_behind room 32) k (omega arith)))

under-all : (held : List (Option ℕ)) → length held ≡ 8 → words_under drawn_head (found (drawn_entries held)) ≡ drawn_entries held
under-all held eight =
    let words = found (drawn_entries held) in
    sym (fill_by_all (λ k. word_under (get_or drawn_head k None) words) (drawn_entries held) 8 None (length-entries held 0 0 0 ∙ eight)
    (λ k below. under-at held k 0 0 0 k (omega arith) (omega arith) ∙ sym (ap (λ place. word_under place words) (head-digit k below))))

-- they are all of the row's
all-run : (held : List (Option ℕ)) (place room n count : ℕ) → count ≡ n + length (found (entries_from place room n held))
    → run_on (n + 1) count (entries_from place room n held) ≡ true
all-run [] place room n count all = eq-eqb (n + 1) (count + 1) (omega arith)
all-run (None ∷ held) place room n count all =
    all-run held (place + 3) (room_behind (room_behind (room_behind room 32) 32) 32) n count all
all-run (Some c ∷ held) place room n count all =
    ap (λ t. t && run_on (n + 1 + 1) count (entries_from (place + 3) 0 (n + 1) held)) (eq-eqb (n + 1) (n + 1) refl)
    ∙ all-run held (place + 3) 0 (n + 1) count (omega (arith, all))

-- so it is read by the head
abbrev pub drawn_reading : List (Option ℕ) → Reading
drawn_reading held = read_so (drawn_entries held) (not (list_any is_wide (found (drawn_entries held))))

read-head : (above : List (Option Span)) (words : List Span) (entries : List (Option Span)) → words_under drawn_head words ≡ entries
    → run_on 1 (length words) entries ≡ true → reading_of drawn_head above words ≡ read_so entries (not (list_any is_wide words))
unfolding reading_of
read-head above words entries under run =
    cond-true _ (read_so (words_under drawn_head words) (not (list_any is_wide words))) _ (ap (run_on 1 (length words)) under ∙ run)
    ∙ ap (λ es. read_so es (not (list_any is_wide words))) under

pub drawn-reading : (above : List (Option Span)) (held : List (Option ℕ)) → AreHeld held → length held ≡ 8
    → reading_of drawn_head above (words_in (places held)) ≡ drawn_reading held
drawn-reading above held all eight =
    let words = found (drawn_entries held) in
    let one : 1 ≡ 0 + 1 = omega arith in
    ap (reading_of drawn_head above) (drawn-words held all eight)
    ∙ read-head above words (drawn_entries held) (under-all held eight)
    (ap (λ n. run_on n (length words) (drawn_entries held)) one ∙ all-run held 0 0 0 (length words) (omega arith))

-- the entry of a column is its card's word
word-there : (held : List (Option ℕ)) (before : List (List ℕ)) (k place room n : ℕ) → n ≡ length before → (line : List ℕ)
    → words_of line ≡ before ++ map card_text (somes held)
    → entry_of (get_or (entries_from place room n held) k None) line ≡ place_word (get_or held k None)
word-there [] before k place room n long line words = refl
word-there (None ∷ held) before zero place room n long line words = refl
word-there (None ∷ held) before (suc k) place room n long line words =
    word-there held before k (place + 3) (room_behind (room_behind (room_behind room 32) 32) 32) n long line words
word-there (Some c ∷ held) before zero place room n long line words =
    let at : n + 1 - 1 ≡ length before + 0 = omega arith in
    ap (λ i. word_at i line) at ∙ ap (λ ws. get_or ws (length before + 0) []) words
    ∙ get_or-append-add before (card_text c ∷ map card_text (somes held)) 0 []
word-there (Some c ∷ held) before (suc k) place room n long line words =
    word-there held (before ++ card_text c ∷ []) k (place + 3) 0 (n + 1) (omega (arith, long, length-append before (card_text c ∷ [])))
    line (words ∙ sym (append_assoc before (card_text c ∷ []) (map card_text (somes held))))

pub drawn-entry : (held : List (Option ℕ)) (k : ℕ) → AreHeld held
    → entry_of (get_or (drawn_entries held) k None) (places held) ≡ place_word (get_or held k None)
drawn-entry held k all = word-there held [] k 0 0 0 refl (places held) (words-places held all)
