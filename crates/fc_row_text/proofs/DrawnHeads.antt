-- What the head of a drawing tells of cells and foundations.
use Rattle.std.proofs.Common.{◌≡◌, ℕ, zero, suc, ◌+◌, ◌*◌, ◌<◌, ◌≤◌, false, cond, Option, Some, None, List, [], ◌∷◌, ◌++◌, length, map, take, get_or, refl, sym, ◌∙◌, ap, subst, arith, rules}
use Rattle.std.specs.Prelude.{codes, filter}
use Rattle.std.specs.Char.{to_ascii_uppercase}
use Rattle.std.specs.List.{AllZip, flat_map, range_with_len}
use Rattle.std.proofs.lemmas.Bool.{eq-eqb, ne_eqb}
use Rattle.std.proofs.lemmas.List.{append-nil, get_or-append-add, get_or_append_left, length-append, length-map, length-take-le}
use Rattle.std.proofs.lemmas.List.Concat.{flat_map-append}
use Rattle.std.proofs.lemmas.List.FromFn.{fill_by_all}
use Rattle.fc_cards.specs.Card.{rank, suit}
use Rattle.fc_cards.specs.Texts.{rank_letter, suit_letter}
use Rattle.fc_cards.proofs.TextLemmas.{suit_letter-upper}
use Rattle.fc_position.specs.Board.{Board, home}
use Rattle.fc_position.specs.Position.{IsPosition}
use Rattle.fc_position.proofs.BoardLemmas.{home_most}
use Rattle.fc_text.specs.Line.{is_token}
use Rattle.fc_text.specs.Printed.{cell_text, entries_text, home_text}
use Rattle.fc_text.specs.Spelling.{SpellsCard, SpellsCellAt}
use Rattle.fc_text.proofs.PrintedPieces.{AllAbove}
use Rattle.fc_show.specs.Drawing.{held_entry, top_card, top_names, top_row, style_without_mark}
use Rattle.fc_row_text.specs.RowText.{are_numbers, cells_named, cells_head, held_or, home_entry, homes_head, kind_below, own_kind, word_at, words_of}
use Rattle.fc_row_text.specs.declared.row_lines.RowLineKind.TheVariants.{Blank, Names, Numbers, Held}
use Rattle.fc_row_text.proofs.ByteLemmas.{AreAbove}
use Rattle.fc_row_text.proofs.DrawnWords.{AreHeld, Cards, above-both, entries-above, held-above, held-is, held-words, held_parts, words-entries}
use Rattle.fc_row_text.proofs.DrawnPlaces.{numbers_line}
use Rattle.fc_row_text.proofs.DrawnRows.{AllCards}

-- what holds of none to four cells
pub by_cells : (P : ℕ → Type 0) → P 0 → P 1 → P 2 → P 3 → P 4 → (n : ℕ) → n ≤ 4 → P n
by_cells P a b c d e zero few = a
by_cells P a b c d e (suc zero) few = b
by_cells P a b c d e (suc (suc zero)) few = c
by_cells P a b c d e (suc (suc (suc zero))) few = d
by_cells P a b c d e (suc (suc (suc (suc zero)))) few = e
by_cells P a b c d e (suc (suc (suc (suc (suc n))))) few = absurd (omega arith)

-- the names
pub names-kind : (n : ℕ) → n ≤ 4 → kind_below None (top_names n) ≡ Names n
unfolding cells_named
names-kind = by_cells (λ n. kind_below None (top_names n) ≡ Names n) refl refl refl refl refl

pub names-above : (n : ℕ) → n ≤ 4 → AllAbove 31 (top_names n)
names-above = by_cells (λ n. AllAbove 31 (top_names n)) (search rules) (search rules) (search rules) (search rules) (search rules)

pub names-long : (n : ℕ) → n ≤ 4 → length (top_names n) ≤ 27
names-long = by_cells (λ n. length (top_names n) ≤ 27) (omega arith) (omega arith) (omega arith) (omega arith) (omega arith)

pub numbers-kind : kind_below None numbers_line ≡ Numbers
unfolding cells_named are_numbers
numbers-kind = refl

pub numbers-above : AllAbove 31 numbers_line
numbers-above = search rules

-- what is held, and the foundations' top cards
abbrev pub tops : Board → List (Option ℕ)
tops b = map (λ s. top_card s (home b s)) (0 ∷ 1 ∷ 2 ∷ 3 ∷ [])

abbrev top_parts : ℕ → Board → List (List ℕ)
top_parts n b = flat_map held_parts (take n b.cells) ++ [] ∷ [] ∷ [] ∷ flat_map held_parts (tops b)

top-is : (n : ℕ) (b : Board) → top_row (style_without_mark false) n b ≡ entries_text (top_parts n b)
top-is n b =
    let cells = flat_map held_parts (take n b.cells) in
    let rest = flat_map held_parts (tops b) in
    ap (λ t. t ++ (codes "   " ++ flat_map (held_entry (style_without_mark false)) (tops b))) (held-is (take n b.cells))
    ∙ ap (λ t. entries_text cells ++ 32 ∷ 32 ∷ 32 ∷ t) (held-is (tops b))
    ∙ sym (flat_map-append (λ (part : List ℕ). 32 ∷ part) cells ([] ∷ [] ∷ [] ∷ rest))

top-held : (s m : ℕ) (held : List (Option ℕ)) → s < 4 → m ≤ 13 → AreHeld held → AreHeld (top_card s m ∷ held)
top-held s zero held below most all = all
top-held s (suc r) held below most all = (omega arith, all)

pub tops-held : (b : Board) → IsPosition b → AreHeld (tops b)
tops-held b p =
    top-held 0 (home b 0) _ (omega arith) (home_most b p 0)
    (top-held 1 (home b 1) _ (omega arith) (home_most b p 1)
    (top-held 2 (home b 2) _ (omega arith) (home_most b p 2) (top-held 3 (home b 3) [] (omega arith) (home_most b p 3) tt)))

top-parts : (n : ℕ) (b : Board) → IsPosition b → AreHeld (take n b.cells) → AreAbove (top_parts n b)
top-parts n b p held =
    above-both (flat_map held_parts (take n b.cells)) _ (held-above (take n b.cells) held)
    (tt, (tt, (tt, held-above (tops b) (tops-held b p))))

pub top-above : (n : ℕ) (b : Board) → IsPosition b → AreHeld (take n b.cells) → AllAbove 31 (top_row (style_without_mark false) n b)
top-above n b p held = subst (AllAbove 31) (sym (top-is n b)) (entries-above (top_parts n b) (top-parts n b p held))

abbrev pub cell_words : ℕ → Board → List (List ℕ)
cell_words n b = map cell_text (take n b.cells)

abbrev pub home_words : Board → List (List ℕ)
home_words b = map cell_text (tops b)

pub top-words : (n : ℕ) (b : Board) → IsPosition b → AreHeld (take n b.cells)
    → words_of (top_row (style_without_mark false) n b) ≡ cell_words n b ++ home_words b
top-words n b p held =
    let rest = flat_map held_parts (tops b) in
    let homes : filter is_token rest ≡ home_words b =
    ap (filter is_token) (sym (append-nil rest)) ∙ held-words (tops b) [] ∙ append-nil (home_words b) in
    ap words_of (top-is n b) ∙ words-entries (top_parts n b) (top-parts n b p held)
    ∙ held-words (take n b.cells) ([] ∷ [] ∷ [] ∷ rest) ∙ ap (λ ws. cell_words n b ++ ws) homes

length-cells : (n : ℕ) (b : Board) → n ≤ 4 → IsPosition b → length (cell_words n b) ≡ n
length-cells n b few p =
    length-map (take n b.cells) cell_text ∙ length-take-le n b.cells (omega (arith, p.cells))

pub top-count : (n : ℕ) (b : Board) → n ≤ 4 → IsPosition b → AreHeld (take n b.cells) → length (words_of (top_row (style_without_mark false) n b)) ≡ n + 4
top-count n b few p held =
    let four : length (home_words b) ≡ 4 = refl in
    ap length (top-words n b p held) ∙ length-append (cell_words n b) (home_words b) ∙ omega (arith, length-cells n b few p, four)

pub top-kind : (n : ℕ) (b : Board) → n ≤ 4 → IsPosition b → AreHeld (take n b.cells) → kind_below (Some n) (top_row (style_without_mark false) n b) ≡ Held n
top-kind n b few p held =
    let words = words_of (top_row (style_without_mark false) n b) in
    ap (λ t. cond t Blank (held_or (Some n) (own_kind (top_row (style_without_mark false) n b))))
    (ne_eqb (length words) 0 (λ e. absurd (omega (arith, e, top-count n b few p held))))

-- the words of cells and of foundations
cell-word : (n : ℕ) (b : Board) (i : ℕ) → n ≤ 4 → IsPosition b → AreHeld (take n b.cells) → i < n
    → get_or (cell_words n b) i [] ≡ word_at i (top_row (style_without_mark false) n b)
cell-word n b i few p held below =
    sym (ap (λ ws. get_or ws i []) (top-words n b p held)
    ∙ get_or_append_left (cell_words n b) (home_words b) [] i (omega (arith, length-cells n b few p)))

home-word : (n : ℕ) (b : Board) (k : ℕ) → n ≤ 4 → IsPosition b → AreHeld (take n b.cells)
    → word_at (n + k) (top_row (style_without_mark false) n b) ≡ get_or (home_words b) k []
home-word n b k few p held =
    ap (λ ws. get_or ws (n + k) []) (top-words n b p held)
    ∙ ap (λ m. get_or (cell_words n b ++ home_words b) (m + k) []) (sym (length-cells n b few p))
    ∙ get_or-append-add (cell_words n b) (home_words b) k []

-- how many cards are home
home-two : (letter first : ℕ) → to_ascii_uppercase letter ≡ letter
    → home_entry letter (first ∷ letter ∷ []) ≡ letter ∷ 45 ∷ first ∷ []
home-two letter first upper =
    ap (λ t. cond t (letter ∷ 45 ∷ first ∷ []) (first ∷ letter ∷ [])) (eq-eqb (to_ascii_uppercase letter) letter upper)

home-is : (s m : ℕ) → s < 4 → m ≤ 13 → home_entry (suit_letter s) (cell_text (top_card s m)) ≡ home_text s m
home-is s zero below most = refl
home-is s (suc r) below most =
    let card = 4 * r + s in
    let rank_is : rank card ≡ suc r = omega arith in
    let suit_is : suit card ≡ s = omega arith in
    ap (λ k. home_entry (suit_letter s) (rank_letter k ∷ suit_letter (suit card) ∷ [])) rank_is
    ∙ ap (λ k. home_entry (suit_letter s) (rank_letter (suc r) ∷ suit_letter k ∷ [])) suit_is
    ∙ home-two (suit_letter s) (rank_letter (suc r)) (suit_letter-upper s below)

pub homes-are : (n : ℕ) (b : Board) → n ≤ 4 → IsPosition b → AreHeld (take n b.cells)
    → homes_head n (top_row (style_without_mark false) n b)
    ≡ codes "Foundations:" ++ entries_text (map (λ s. home_text s (home b s)) (2 ∷ 0 ∷ 1 ∷ 3 ∷ []))
homes-are n b few p held =
    let line = top_row (style_without_mark false) n b in
    let name = codes "Foundations:" in
    let first : n ≡ n + 0 = omega arith in
    let hearts : home_entry 72 (word_at (n + 2) line) ≡ home_text 2 (home b 2) =
    ap (home_entry 72) (home-word n b 2 few p held) ∙ home-is 2 (home b 2) (omega arith) (home_most b p 2) in
    let clubs : home_entry 67 (word_at n line) ≡ home_text 0 (home b 0) =
    ap (λ m. home_entry 67 (word_at m line)) first ∙ ap (home_entry 67) (home-word n b 0 few p held)
    ∙ home-is 0 (home b 0) (omega arith) (home_most b p 0) in
    let diamonds : home_entry 68 (word_at (n + 1) line) ≡ home_text 1 (home b 1) =
    ap (home_entry 68) (home-word n b 1 few p held) ∙ home-is 1 (home b 1) (omega arith) (home_most b p 1) in
    let spades : home_entry 83 (word_at (n + 3) line) ≡ home_text 3 (home b 3) =
    ap (home_entry 83) (home-word n b 3 few p held) ∙ home-is 3 (home b 3) (omega arith) (home_most b p 3) in
    ap (λ t. name ++ (32 ∷ t) ++ (32 ∷ home_entry 67 (word_at n line)) ++ (32 ∷ home_entry 68 (word_at (n + 1) line)) ++ (32 ∷ home_entry 83 (word_at (n + 3) line))) hearts
    ∙ ap (λ t. name ++ (32 ∷ home_text 2 (home b 2)) ++ (32 ∷ t) ++ (32 ∷ home_entry 68 (word_at (n + 1) line)) ++ (32 ∷ home_entry 83 (word_at (n + 3) line))) clubs
    ∙ ap (λ t. name ++ (32 ∷ home_text 2 (home b 2)) ++ (32 ∷ home_text 0 (home b 0)) ++ (32 ∷ t) ++ (32 ∷ home_entry 83 (word_at (n + 3) line))) diamonds
    ∙ ap (λ t. name ++ (32 ∷ home_text 2 (home b 2)) ++ (32 ∷ home_text 0 (home b 0)) ++ (32 ∷ home_text 1 (home b 1)) ++ (32 ∷ t)) spades

entries-of : (f : ℕ → List ℕ) (is : List ℕ) → flat_map (λ i. 32 ∷ f i) is ≡ entries_text (map f is)
entries-of f [] = refl
entries-of f (i ∷ is) = ap (λ t. (32 ∷ f i) ++ t) (entries-of f is)

pub cells-are : (n : ℕ) (b : Board) → n ≤ 4 → IsPosition b → AreHeld (take n b.cells)
    → cells_head n (top_row (style_without_mark false) n b) ≡ codes "Freecells:" ++ entries_text (map cell_text (take n b.cells))
cells-are n b few p held =
    let f = λ (i : ℕ). word_at i (top_row (style_without_mark false) n b) in
    ap (λ t. codes "Freecells:" ++ t) (entries-of f (range_with_len 0 n)
    ∙ ap entries_text (sym (fill_by_all f (cell_words n b) n [] (length-cells n b few p) (λ k below. cell-word n b k few p held below))))

-- cards of what is spelled
spelled-below : (t : Option (List ℕ)) (c : ℕ) → SpellsCellAt t (Some c) → c < 52
spelled-below None c e = absurd (cc e)
spelled-below (Some token) c spelled = spelled.below

pub held-from : (cells : List (Option ℕ)) → ((i : ℕ) → i < length cells → (t : Option (List ℕ)) × SpellsCellAt t (get_or cells i None))
    → AreHeld cells
held-from [] each = tt
held-from (None ∷ cells) each = held-from cells (λ i within. each (suc i) (omega arith))
held-from (Some c ∷ cells) each =
    let first = each 0 (omega arith) in
    (spelled-below first.0 c first.1, held-from cells (λ i within. each (suc i) (omega arith)))

pub held-take : (n : ℕ) (cells : List (Option ℕ)) → AreHeld cells → AreHeld (take n cells)
held-take zero cells all = tt
held-take (suc n) [] all = tt
held-take (suc n) (None ∷ cells) all = held-take n cells all
held-take (suc n) (Some c ∷ cells) all = (all.0, held-take n cells all.1)

pub cards-from : (tokens : List (List ℕ)) (cards : List ℕ) → AllZip SpellsCard tokens cards → Cards cards
cards-from [] [] all = tt
cards-from [] (c ∷ cards) all = absurd all
cards-from (token ∷ tokens) [] all = absurd all
cards-from (token ∷ tokens) (c ∷ cards) all = let card = all.0 in (card.below, cards-from tokens cards all.1)

pub all-cards : (columns : List (List ℕ)) → ((i : ℕ) → i < length columns → Cards (get_or columns i [])) → AllCards columns
all-cards [] each = tt
all-cards (cards ∷ columns) each = (each 0 (omega arith), all-cards columns (λ i within. each (suc i) (omega arith)))

-- three bytes an entry
pub held-long : (held : List (Option ℕ)) → length (flat_map (held_entry (style_without_mark false)) held) ≡ 3 * length held
held-long [] = omega arith
held-long (None ∷ held) = let more = held-long held in omega arith
held-long (Some c ∷ held) = let more = held-long held in omega arith
