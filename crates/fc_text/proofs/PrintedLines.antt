-- A printed board is read as the board.
use Rattle.std.proofs.Common.{◌==◌, ◌≡◌, ℕ, zero, suc, ◌+◌, ◌≤◌, ◌<◌, Option, Some, None, List, [], ◌∷◌, ◌++◌, length, take, map, cond, inl, inr, refl, sym, ◌∙◌, ap, subst, ⊎_elim, append_assoc, arith, rules}
use Rattle.std.specs.Prelude.{Contains, codes, filter, slice_get, slice_index, slice_index_or, sum_by, count_by}
use Rattle.std.specs.List.{AllZip}
use Rattle.std.proofs.lemmas.List.{append-nil, get_or_past, get_or-take, length-map, length-take, take_all}
use Rattle.std.proofs.lemmas.List.Sums.{sum_by-cons}
use Rattle.std.proofs.lemmas.Option.{slice_get-get_or, slice_get_within}
use Rattle.std.proofs.lemmas.Bool.{cases_lt}
use Rattle.std.proofs.lemmas.Bool.Decides.{nat_tests}
use Rattle.fc_cards.specs.Card.{rank, suit}
use Rattle.fc_cards.specs.Texts.{IsRank, rank_letter, suit_letter, card_text}
use Rattle.fc_cards.proofs.EachRank.{by_rank, by_suit}
use Rattle.fc_cards.proofs.TextLemmas.{card_text_back, rank_letter-upper, suit_letter-upper}
use Rattle.fc_position.specs.Board.{Board, column, cell, home, count_in_column, count_in_cell}
use Rattle.fc_position.specs.Position.{IsPosition, Fits}
use Rattle.fc_position.proofs.BoardLemmas.{home_most}
use Rattle.fc_text.specs.declared.faults.LineFault.TheVariants.{BadCard, BadFoundation, TooManyCells, TooManyColumns, RepeatedLine}
use Rattle.fc_text.specs.declared.lines.LineKind.TheVariants.{Foundations, Freecells, Column}
use Rattle.fc_text.specs.Line.{Line, tokens_of, line_of, board_lines}
use Rattle.fc_text.specs.inner.Draft.{homes_line, cells_line, column_line}
use Rattle.fc_text.specs.Spelling.{SpellsCard, SpellsCellAt, SpellsCount, SpellsHome, SpellsHomeIn, SpellsBoard, is_kind}
use Rattle.fc_text.specs.Fault.{IsNoHome, NamesSuitTwice, HasBadCard, HasBadFoundation, IsSound, AreSound}
use Rattle.fc_text.specs.Board.{Spells}
use Rattle.fc_text.specs.Printed.{count_letter, home_text, cell_text, entries_text, foundations_text, cells_text, column_text, board_text}
use Rattle.fc_text.proofs.CellDraft.{spelled_not_bad}
use Rattle.fc_text.proofs.FaultLemmas.{column_sound}
use Rattle.fc_text.proofs.DraftLemmas.{kind_more}
use Rattle.fc_text.proofs.HomeLemmas.{home_suit_once}
use Rattle.fc_text.proofs.LineLoop.{no_line_sound, sound_push}
use Rattle.fc_text.proofs.PrintLemmas.{lines_text, length-board_text}
use Rattle.fc_text.proofs.PrintedPieces.{AllAbove, above-append, IsPrinted, ArePrinted, tokens_of-entries, entries-above, AreLines, lines_of-lines}

-- each kind of line is told by its name
line_of-foundations : (rest : List ℕ) → line_of (codes "Foundations:" ++ rest) ≡ homes_line rest
line_of-foundations rest = refl

line_of-freecells : (rest : List ℕ) → line_of (codes "Freecells:" ++ rest) ≡ cells_line rest
line_of-freecells rest = refl

abbrev homes_piece : Board → List ℕ
homes_piece b = entries_text (map (λ s. home_text s (home b s)) (2 ∷ 0 ∷ 1 ∷ 3 ∷ []))

abbrev cells_piece : ℕ → Board → List ℕ
cells_piece n b = entries_text (map cell_text (take n b.cells))

abbrev cards_line : List ℕ → Line
cards_line cards = column_line (entries_text (map card_text cards))

-- the lines of a printed board
abbrev told_lines : ℕ → Board → List Line
told_lines n b = homes_line (homes_piece b) ∷ cells_line (cells_piece n b) ∷ map cards_line b.columns

line_of-columns : (columns : List (List ℕ)) → map line_of (map column_text columns) ≡ map cards_line columns
line_of-columns [] = refl
line_of-columns (x ∷ xs) = ap (λ ls. cards_line x ∷ ls) (line_of-columns xs)

line_of-lines : (n : ℕ) (b : Board) → map line_of (foundations_text b ∷ cells_text n b ∷ map column_text b.columns) ≡ told_lines n b
line_of-lines n b =
    ap (λ l. l ∷ line_of (cells_text n b) ∷ map line_of (map column_text b.columns)) (line_of-foundations (homes_piece b))
    ∙ ap (λ l. homes_line (homes_piece b) ∷ l ∷ map line_of (map column_text b.columns)) (line_of-freecells (cells_piece n b))
    ∙ ap (λ ls. homes_line (homes_piece b) ∷ cells_line (cells_piece n b) ∷ ls) (line_of-columns b.columns)

-- what lies on a position are cards
abbrev Cards : List ℕ → Type 0
Cards [] = Unit {0}
Cards (c ∷ cards) = (c < 52) × Cards cards

abbrev AllOfCards : List (List ℕ) → Type 0
AllOfCards [] = Unit {0}
AllOfCards (x ∷ xs) = Cards x × AllOfCards xs

abbrev Held : List (Option ℕ) → Type 0
Held [] = Unit {0}
Held (None ∷ cells) = Held cells
Held (Some c ∷ cells) = (c < 52) × Held cells

cards_small : (cards : List ℕ) → ((c : ℕ) → 52 ≤ c → count_in_column c cards ≡ 0) → Cards cards
cards_small [] none = tt
cards_small (x ∷ xs) none =
    let counted : (c : ℕ) → count_in_column c (x ∷ xs) ≡ cond (x == c) 1 0 + count_in_column c xs = λ c. sum_by-cons (λ y. cond (y == c) 1 0) x xs in
    let more : (c : ℕ) → count_in_column c xs ≤ count_in_column c (x ∷ xs) = λ c. let e = counted c in omega arith in
    let this : ◌≡◌ {A = ℕ} (cond (x == x) 1 0) 1 = grind (arith, nat_tests) in
    let here : 1 ≤ count_in_column x (x ∷ xs) = let e = counted x in omega arith in (
      ⊎_elim (λ lt. lt) (λ le. absurd (omega (arith, here, none x le))) (cases_lt x 52),
      cards_small xs (λ c le. omega (arith, more c, none c le)),
    )

columns_small : (columns : List (List ℕ)) → ((c : ℕ) → 52 ≤ c → sum_by (count_in_column c) columns ≡ 0) → AllOfCards columns
columns_small [] none = tt
columns_small (x ∷ xs) none = (
  cards_small x (λ c le. omega (arith, none c le, sum_by-cons (count_in_column c) x xs)),
  columns_small xs (λ c le. omega (arith, none c le, sum_by-cons (count_in_column c) x xs)),
)

held_small : (cells : List (Option ℕ)) → ((c : ℕ) → 52 ≤ c → sum_by (count_in_cell c) cells ≡ 0) → Held cells
held_small [] none = tt
held_small (None ∷ cells) none = held_small cells (λ c le. omega (arith, none c le, sum_by-cons (count_in_cell c) None cells))
held_small (Some x ∷ cells) none =
    let here : ◌≡◌ {A = ℕ} (count_in_cell x (Some x)) 1 = grind (arith, nat_tests) in (
      ⊎_elim (λ lt. lt) (λ le. absurd (omega (arith, here, none x le, sum_by-cons (count_in_cell x) (Some x) cells))) (cases_lt x 52),
      held_small cells (λ c le. omega (arith, none c le, sum_by-cons (count_in_cell c) (Some x) cells)),
    )

held-take : (n : ℕ) (cells : List (Option ℕ)) → Held cells → Held (take n cells)
held-take zero cells p = tt
held-take (suc n) [] p = tt
held-take (suc n) (None ∷ cells) p = held-take n cells p
held-take (suc n) (Some c ∷ cells) p = (p.0, held-take n cells p.1)

-- letters are printed above the blank
rank_above : (r : ℕ) → IsRank r → 32 < rank_letter r
rank_above = by_rank (λ r. 32 < rank_letter r)
    (omega arith) (omega arith) (omega arith) (omega arith) (omega arith) (omega arith) (omega arith)
    (omega arith) (omega arith) (omega arith) (omega arith) (omega arith) (omega arith)

suit_above : (s : ℕ) → s < 4 → 32 < suit_letter s
suit_above = by_suit (λ s. 32 < suit_letter s) (omega arith) (omega arith) (omega arith) (omega arith)

rank_of : (c : ℕ) → c < 52 → IsRank (rank c)
rank_of c below = record { least = omega arith; greatest = omega arith }

card_above : (c : ℕ) → c < 52 → IsPrinted (card_text c)
card_above c below = (rank_above (rank c) (rank_of c below), (suit_above (suit c) (omega arith), tt))

cards_printed : (cards : List ℕ) → Cards cards → ArePrinted (map card_text cards)
cards_printed [] p = tt
cards_printed (c ∷ cards) p = (card_above c p.0, cards_printed cards p.1)

held_printed : (cells : List (Option ℕ)) → Held cells → ArePrinted (map cell_text cells)
held_printed [] p = tt
held_printed (None ∷ cells) p = ((omega arith, tt), held_printed cells p)
held_printed (Some c ∷ cells) p = (card_above c p.0, held_printed cells p.1)

count_above : (n : ℕ) → n ≤ 13 → 32 < count_letter n
count_above zero most = omega arith
count_above (suc r) most = rank_above (suc r) (record { least = omega arith; greatest = omega arith })

home_printed : (s n : ℕ) → s < 4 → n ≤ 13 → IsPrinted (home_text s n)
home_printed s n below most = (suit_above s below, (omega arith, (count_above n most, tt)))

abbrev homes_tokens : Board → List (List ℕ)
homes_tokens b = map (λ s. home_text s (home b s)) (2 ∷ 0 ∷ 1 ∷ 3 ∷ [])

homes_printed : (b : Board) → IsPosition b → ArePrinted (homes_tokens b)
homes_printed b p = (
  home_printed 2 (home b 2) (omega arith) (home_most b p 2),
  (
    home_printed 0 (home b 0) (omega arith) (home_most b p 0),
    (home_printed 1 (home b 1) (omega arith) (home_most b p 1), (home_printed 3 (home b 3) (omega arith) (home_most b p 3), tt)),
  ),
)

-- the tokens of each line
homes_of : (b : Board) → IsPosition b → tokens_of (homes_piece b) ≡ homes_tokens b
homes_of b p = tokens_of-entries (homes_tokens b) (homes_printed b p)

count_spelled : (n : ℕ) → n ≤ 13 → SpellsCount (count_letter n ∷ []) n
count_spelled zero most = inl (refl, refl)
count_spelled (suc r) most =
    let ranked : IsRank (suc r) = record { least = omega arith; greatest = omega arith } in
    inr (ranked, inl (rank_letter (suc r), refl, rank_letter-upper (suc r) ranked))

home_spelled : (s n : ℕ) → s < 4 → n ≤ 13 → SpellsHome (home_text s n) s n
home_spelled s n below most = record {
  suit_part = suit_letter s;
  rank_part = count_letter n ∷ [];
  parts = refl;
  suit = suit_letter-upper s below;
  count = count_spelled n most;
}

-- the suits in the order in which they are printed, and where each stands
abbrev suit_at : ℕ → ℕ
suit_at k = slice_index (2 ∷ 0 ∷ 1 ∷ 3 ∷ []) k

abbrev place_at : ℕ → ℕ
place_at s = slice_index (1 ∷ 2 ∷ 0 ∷ 3 ∷ []) s

suit_at-below : (k : ℕ) → k < 4 → suit_at k < 4
suit_at-below = by_suit (λ k. suit_at k < 4) (omega arith) (omega arith) (omega arith) (omega arith)

place_at-suit : (k : ℕ) → k < 4 → place_at (suit_at k) ≡ k
place_at-suit = by_suit (λ k. place_at (suit_at k) ≡ k) refl refl refl refl

-- the token at each place
token_at : (b : Board) (token : List ℕ) (k : ℕ) → k < 4 → slice_get (homes_tokens b) k ≡ Some token
    → token ≡ home_text (suit_at k) (home b (suit_at k))
token_at b token = by_suit (λ k. slice_get (homes_tokens b) k ≡ Some token → token ≡ home_text (suit_at k) (home b (suit_at k)))
    (λ e. cc e) (λ e. cc e) (λ e. cc e) (λ e. cc e)

token_spelled : (b : Board) → IsPosition b → (token : List ℕ) (k : ℕ) → slice_get (homes_tokens b) k ≡ Some token
    → (k < 4) × SpellsHome token (suit_at k) (home b (suit_at k))
token_spelled b p token k e =
    let below : k < 4 = slice_get_within (homes_tokens b) k token e in (
      below,
      subst (λ t. SpellsHome t (suit_at k) (home b (suit_at k))) (sym (token_at b token k below e))
          (home_spelled (suit_at k) (home b (suit_at k)) (suit_at-below k below) (home_most b p (suit_at k))),
    )

-- no token tells of no foundation
each_home : (b : Board) → IsPosition b → (token : List ℕ) → Contains (homes_tokens b) token → IsNoHome token → ⊥
each_home b p token found none =
    let t = token_spelled b p token found.0
    (slice_get-get_or (homes_tokens b) found.0 token found.1 ∙ ap (λ v. Some v) found.2) in
    none (suit_at found.0) (home b (suit_at found.0)) (suit_at-below found.0 t.0) t.1

-- and no two of one suit
homes_once : (b : Board) → IsPosition b → NamesSuitTwice (homes_tokens b) → ⊥
homes_once b p twice =
    let one = token_spelled b p twice.one.0 twice.first twice.one.2 in
    let other = token_spelled b p twice.other.0 twice.second twice.other.2 in
    let first : suit_at twice.first ≡ twice.suit =
    home_suit_once twice.one.0 (suit_at twice.first) twice.suit (home b (suit_at twice.first)) twice.one.1 (suit_at-below twice.first one.0) twice.below one.1 twice.one.3 in
    let second : suit_at twice.second ≡ twice.suit =
    home_suit_once twice.other.0 (suit_at twice.second) twice.suit (home b (suit_at twice.second)) twice.other.1 (suit_at-below twice.second other.0) twice.below other.1 twice.other.3 in
    let same : twice.first ≡ twice.second =
    sym (place_at-suit twice.first one.0) ∙ ap place_at (first ∙ sym second) ∙ place_at-suit twice.second other.0 in
    omega (arith, twice.order, same)

homes_good : (b : Board) → IsPosition b → (tokens : List (List ℕ)) → tokens ≡ homes_tokens b → HasBadFoundation Foundations tokens → ⊥
homes_good b p tokens same =
    ⊎_elim (λ bad. each_home b p bad.0 (subst (λ ts. Contains ts bad.0) same bad.1) bad.2)
    (λ twice. homes_once b p (subst NamesSuitTwice same twice))

homes_sound : (n : ℕ) (b : Board) → IsPosition b → IsSound n 0 (homes_line (homes_piece b))
homes_sound n b p BadCard bad = bad
homes_sound n b p BadFoundation bad = homes_good b p (tokens_of (homes_piece b)) (homes_of b p) bad
homes_sound n b p TooManyCells bad = bad.1
homes_sound n b p TooManyColumns bad = bad.1
homes_sound n b p RepeatedLine bad = omega (arith, bad.3)

-- a printed card spells the card
card_spelled : (c : ℕ) → c < 52 → SpellsCard (card_text c) c
card_spelled c below = record { below = below; text = card_text_back c below }

cards_spelled : (cards : List ℕ) → Cards cards → AllZip SpellsCard (map card_text cards) cards
cards_spelled [] p = tt
cards_spelled (c ∷ cards) p = (card_spelled c p.0, cards_spelled cards p.1)

held_spelled : (held : List (Option ℕ)) → Held held → (i : ℕ) → SpellsCellAt (slice_get (map cell_text held) i) (slice_index_or held i None)
held_spelled [] p i = refl
held_spelled (None ∷ held) p zero = inl refl
held_spelled (Some c ∷ held) p zero = card_spelled c p.0
held_spelled (None ∷ held) p (suc i) = held_spelled held p i
held_spelled (Some c ∷ held) p (suc i) = held_spelled held p.1 i

held_good : (held : List (Option ℕ)) → Held held → (tokens : List (List ℕ)) → tokens ≡ map cell_text held → HasBadCard Freecells tokens → ⊥
held_good held p tokens same bad =
    let found : Contains (map cell_text held) bad.0 = subst (λ ts. Contains ts bad.0) same bad.1 in
    let there : slice_get (map cell_text held) found.0 ≡ Some bad.0 =
    slice_get-get_or (map cell_text held) found.0 bad.0 found.1 ∙ ap (λ v. Some v) found.2 in
    spelled_not_bad bad.0 (slice_index_or held found.0 None)
    (subst (λ r. SpellsCellAt r (slice_index_or held found.0 None)) there (held_spelled held p found.0)) bad.2 bad.3

held_cells : (n : ℕ) (b : Board) → IsPosition b → Held (take n b.cells)
held_cells n b p =
    held-take n b.cells (held_small b.cells (λ c le. let none = p.no_other c le in omega (arith, none)))

column_cards : (b : Board) → IsPosition b → AllOfCards b.columns
column_cards b p = columns_small b.columns (λ c le. let none = p.no_other c le in omega (arith, none))

cells_of : (n : ℕ) (b : Board) → IsPosition b → tokens_of (cells_piece n b) ≡ map cell_text (take n b.cells)
cells_of n b p = tokens_of-entries (map cell_text (take n b.cells)) (held_printed (take n b.cells) (held_cells n b p))

cells_few : (n : ℕ) (b : Board) → IsPosition b → length (tokens_of (cells_piece n b)) ≤ n
cells_few n b p =
    let same = ap length (cells_of n b p) in
    let long = length-map (take n b.cells) cell_text in
    omega (arith, length-take n b.cells)

cells_sound : (n : ℕ) (b : Board) → IsPosition b → IsSound n 0 (cells_line (cells_piece n b))
cells_sound n b p BadCard bad = held_good (take n b.cells) (held_cells n b p) (tokens_of (cells_piece n b)) (cells_of n b p) bad
cells_sound n b p BadFoundation bad = bad
cells_sound n b p TooManyCells bad = omega (arith, cells_few n b p, bad.1)
cells_sound n b p TooManyColumns bad = bad.1
cells_sound n b p RepeatedLine bad = omega (arith, bad.3)

-- the tokens of a column are its cards
cards_of : (cards : List ℕ) → Cards cards → tokens_of (entries_text (map card_text cards)) ≡ map card_text cards
cards_of cards p = tokens_of-entries (map card_text cards) (cards_printed cards p)

cards_told : (cards : List ℕ) → Cards cards → AllZip SpellsCard (tokens_of (entries_text (map card_text cards))) cards
cards_told cards p = subst (λ tokens. AllZip SpellsCard tokens cards) (sym (cards_of cards p)) (cards_spelled cards p)

-- eight columns are sound, one after the other
columns_sound : (n : ℕ) (lines : List Line) (columns : List (List ℕ)) → AllOfCards columns → AreSound n lines
    → count_by (is_kind Column) lines + length columns ≤ 8 → AreSound n (lines ++ map cards_line columns)
columns_sound n lines [] p sound few = subst (AreSound n) (sym (append-nil lines)) sound
columns_sound n lines (x ∷ xs) p sound few =
    let one : IsSound n (count_by (is_kind Column) lines) (cards_line x) =
    column_sound n (count_by (is_kind Column) lines) (entries_text (map card_text x)) x (cards_told x p.0)
    (λ many. absurd (omega (arith, many, few))) in
    let more = kind_more lines (cards_line x) Column refl in
    subst (AreSound n) (append_assoc lines (cards_line x ∷ []) (map cards_line xs))
    (columns_sound n (lines ++ cards_line x ∷ []) xs p.1 (sound_push n lines (cards_line x) sound one) (omega (arith, more, few)))

told_sound : (n : ℕ) (b : Board) → IsPosition b → AreSound n (told_lines n b)
told_sound n b p =
    let first = sound_push n [] (homes_line (homes_piece b)) (no_line_sound n) (homes_sound n b p) in
    let second = sound_push n (homes_line (homes_piece b) ∷ []) (cells_line (cells_piece n b)) first (cells_sound n b p) in
    columns_sound n (homes_line (homes_piece b) ∷ cells_line (cells_piece n b) ∷ []) b.columns (column_cards b p) second (omega (arith, p.columns))

-- the column lines are the columns
filter-columns : (columns : List (List ℕ)) → filter (is_kind Column) (map cards_line columns) ≡ map cards_line columns
filter-columns [] = refl
filter-columns (x ∷ xs) = ap (λ ls. cards_line x ∷ ls) (filter-columns xs)

columns_told : (columns : List (List ℕ)) → AllOfCards columns → (i : ℕ)
    → AllZip SpellsCard (slice_index_or (map (λ line. line.tokens) (map cards_line columns)) i []) (slice_index_or columns i [])
columns_told [] p i = tt
columns_told (x ∷ xs) p zero = cards_told x p.0
columns_told (x ∷ xs) p (suc i) = columns_told xs p.1 i

-- what the cells of the game hold, and past them nothing
cell_taken : (n : ℕ) (b : Board) → Fits n b → (i : ℕ) → slice_index_or (take n b.cells) i None ≡ cell b i
cell_taken n b fits i = ⊎_elim
    (λ lt. get_or-take n b.cells i None lt)
    (λ le. let few = length-take n b.cells in get_or_past (take n b.cells) i None (omega arith) ∙ sym (fits i le))
    (cases_lt i n)

cells_told : (n : ℕ) (b : Board) → IsPosition b → Fits n b → (i : ℕ)
    → SpellsCellAt (slice_get (tokens_of (cells_piece n b)) i) (cell b i)
cells_told n b p fits i =
    subst (λ tokens. SpellsCellAt (slice_get tokens i) (cell b i)) (sym (cells_of n b p))
    (subst (SpellsCellAt (slice_get (map cell_text (take n b.cells)) i)) (cell_taken n b fits i)
    (held_spelled (take n b.cells) (held_cells n b p) i))

home_found : (b : Board) (s : ℕ) → s < 4 → Contains (homes_tokens b) (home_text s (home b s))
home_found b = by_suit (λ s. Contains (homes_tokens b) (home_text s (home b s)))
    (1, omega arith, refl) (2, omega arith, refl) (0, omega arith, refl) (3, omega arith, refl)

homes_told : (b : Board) → IsPosition b → (s : ℕ) → s < 4 → SpellsHomeIn (tokens_of (homes_piece b)) s (home b s)
homes_told b p s below =
    subst (λ tokens. SpellsHomeIn tokens s (home b s)) (sym (homes_of b p))
    (inl (home_text s (home b s), home_found b s below, home_spelled s (home b s) below (home_most b p s)))

-- the lines of a printed board spell it
told_spelled : (n : ℕ) (b : Board) → IsPosition b → Fits n b → SpellsBoard (told_lines n b) b
told_spelled n b p fits = record {
  shape = record { columns = p.columns; cells = p.cells; homes = p.homes };
  columns = λ i below.
      subst (λ lines. AllZip SpellsCard (slice_index_or (map (λ line. line.tokens) lines) i []) (column b i))
      (sym (filter-columns b.columns)) (columns_told b.columns (column_cards b p) i);
  cells = λ i below. cells_told n b p fits i;
  homes = λ s below. homes_told b p s below;
}

-- printed lines hold no end of a line
columns_lines : (columns : List (List ℕ)) → AllOfCards columns → AreLines (map column_text columns)
columns_lines [] p = tt
columns_lines (x ∷ xs) p =
    ((omega arith, entries-above (map card_text x) (cards_printed x p.0)), columns_lines xs p.1)

foundations_above : AllAbove 31 (codes "Foundations:")
foundations_above = search rules

freecells_above : AllAbove 31 (codes "Freecells:")
freecells_above = search rules

board_is_lines : (n : ℕ) (b : Board) → IsPosition b → AreLines (foundations_text b ∷ cells_text n b ∷ map column_text b.columns)
board_is_lines n b p = (
  above-append 31 (codes "Foundations:") (homes_piece b) foundations_above (entries-above (homes_tokens b) (homes_printed b p)),
  (
    above-append 31 (codes "Freecells:") (cells_piece n b) freecells_above (entries-above (map cell_text (take n b.cells)) (held_printed (take n b.cells) (held_cells n b p))),
    columns_lines b.columns (column_cards b p),
  ),
)

-- a printed board spells it
board_told : (n : ℕ) (b : Board) → IsPosition b → board_lines (board_text n b) ≡ told_lines n b
board_told n b p =
    ap (map line_of) (lines_of-lines (foundations_text b ∷ cells_text n b ∷ map column_text b.columns) (board_is_lines n b p))
    ∙ line_of-lines n b

pub spells_board : (n : ℕ) (b : Board) → IsPosition b → Fits n b → n ≤ 4 → Spells n (board_text n b) b
spells_board n b p fits game = record {
  short = omega (arith, length-board_text n b p game);
  sound = subst (AreSound n) (sym (board_told n b p)) (told_sound n b p);
  spelled = subst (λ lines. SpellsBoard lines b) (sym (board_told n b p)) (told_spelled n b p fits);
  position = p;
}

pub spells_printed : (n : ℕ) (b : Board) (text : List ℕ) (i : ℕ) → IsPosition b → Fits n b → n ≤ 4 → 8 ≤ i
    → text ≡ lines_text n b (take i b.columns) → Spells n text b
spells_printed n b text i p fits game all written =
    let same : text ≡ board_text n b = written ∙ ap (lines_text n b) (take_all i b.columns (omega (arith, p.columns))) in
    subst (λ t. Spells n t b) (sym same) (spells_board n b p fits game)
