-- The cards that the lines of a text tell stand on the board that it spells, and no others.
use Rattle.std.proofs.Common.{◌≡◌, ℕ, zero, suc, ◌+◌, ◌<◌, ◌≤◌, ◌==◌, Bool, true, false, cond, Option, Some, None, List, [], ◌∷◌, ◌++◌, length, map, get_or, refl, sym, ◌∙◌, ap, subst, ⊎_elim, arith}
use Rattle.std.specs.Prelude.{Contains, filter, slice_get, slice_index_or, sum_by, count_by}
use Rattle.std.specs.List.{AllZip}
use Rattle.std.proofs.lemmas.List.{length-append}
use Rattle.std.proofs.lemmas.List.Elements.{Contains-get_or}
use Rattle.std.proofs.lemmas.List.Sums.{get_or-le-sum_by, sum_by-cons}
use Rattle.std.proofs.lemmas.Bool.{cases_Bool, cases_lt, eq-eqb, eqb-true}
use Rattle.std.proofs.lemmas.Option.{slice_get-get_or}
use Rattle.fc_cards.proofs.TextLemmas.{card_text_once}
use Rattle.fc_position.specs.Board.{Board, cell, column, count_in_cell, count_in_column}
use Rattle.fc_text.specs.Board.{Spells}
use Rattle.fc_text.specs.Line.{Line, board_lines, sorted_line}
use Rattle.fc_text.specs.Spelling.{IsMark, SpellsCard, SpellsCell, SpellsCellAt, is_column, is_freecells}
use Rattle.fc_text.specs.Spot.{HasCard}
use Rattle.fc_text.specs.declared.faults.BoardFault.TheVariants.{RepeatedLine, TooManyCells, TooManyColumns}
use Rattle.fc_text.proofs.HomeLemmas.{Contains-at}
use Rattle.fc_text.proofs.OnceLemmas.{spell_no_fault}
use Rattle.fc_typed.proofs.SpelledLemmas.{clean_line, front_sound}

-- tokens and the cards that they spell
spelled_at : (tokens : List (List ℕ)) (cards : List ℕ) (i : ℕ) (d : List ℕ) → AllZip SpellsCard tokens cards → i < length tokens
    → SpellsCard (get_or tokens i d) (get_or cards i 0)
spelled_at [] cards i d zip within = absurd (omega (arith, within))
spelled_at (t ∷ ts) [] i d zip within = absurd zip
spelled_at (t ∷ ts) (c ∷ cs) zero d zip within = zip.0
spelled_at (t ∷ ts) (c ∷ cs) (suc i) d zip within = spelled_at ts cs i d zip.1 (omega arith)

spelled_long : (tokens : List (List ℕ)) (cards : List ℕ) → AllZip SpellsCard tokens cards → length tokens ≡ length cards
spelled_long [] [] zip = refl
spelled_long [] (c ∷ cs) zip = absurd zip
spelled_long (t ∷ ts) [] zip = absurd zip
spelled_long (t ∷ ts) (c ∷ cs) zip = ap (λ n. suc n) (spelled_long ts cs zip.1)

-- where a sum isn't nought, one of its terms isn't
some_in : {X : Type 0} (f : X → ℕ) (xs : List X) (d : X) → 0 < sum_by f xs → (i : ℕ) × (i < length xs) × (0 < f (get_or xs i d))
some_in f [] d some' = absurd (omega (arith, some'))
some_in f (x ∷ xs) d some' = ⊎_elim
    (λ here. (0, omega arith, here))
    (λ none.
    let more = some_in f xs d (omega (arith, sum_by-cons f x xs)) in
    let below = more.1 in
    (suc more.0, omega arith, more.2))
    (cases_lt 0 (f x))

-- a card that is counted stands there
counted : (c : ℕ) (cards : List ℕ) → 0 < count_in_column c cards → (i : ℕ) × (i < length cards) × (get_or cards i 0 ≡ c)
counted c cards some' =
    let found = some_in (λ x. cond (x == c) 1 0) cards 0 some' in
    let x = get_or cards found.0 0 in (
      found.0,
      found.1,
      ⊎_elim
          (λ same. eqb-true x c same)
          (λ other. absurd (let none : ◌≡◌ {A = ℕ} (cond (x == c) 1 0) 0 = ap (λ t. cond t 1 0) other in omega (arith, none, found.2)))
          (cases_Bool (x == c)),
    )

counts_there : (c : ℕ) (cards : List ℕ) (i : ℕ) → i < length cards → get_or cards i 0 ≡ c → 0 < count_in_column c cards
counts_there c cards i within same =
    let f : ℕ → ℕ = λ x. cond (x == c) 1 0 in
    let one : f (get_or cards i 0) ≡ 1 = ap (λ t. cond t 1 0) (eq-eqb (get_or cards i 0) c same) in
    omega (arith, one, get_or-le-sum_by f cards i 0 within)

-- the tokens of the n-th line of a kind
abbrev pub told_at : (Line → Bool) → List Line → ℕ → List (List ℕ)
told_at is lines n = slice_index_or (map (λ (line : Line). line.tokens) (filter is lines)) n []

told_here : (is : Line → Bool) (front rest : List Line) (line : Line) → is line ≡ true
    → told_at is (front ++ line ∷ rest) (count_by is front) ≡ line.tokens
told_here is [] rest line here = rw here refl
told_here is (x ∷ xs) rest line here =
    let weight : Line → ℕ = λ l. cond (is l) 1 0 in
    let size : count_by is (x ∷ xs) ≡ weight x + count_by is xs = sum_by-cons weight x xs in
    let more = told_here is xs rest line here in
    let others = filter is (xs ++ line ∷ rest) in
    let one : 1 + count_by is xs ≡ suc (count_by is xs) = omega arith in
    let none : 0 + count_by is xs ≡ count_by is xs = omega arith in
    ap (told_at is (x ∷ (xs ++ line ∷ rest))) size
    ∙ elim (is x) as (λ t. slice_index_or (map (λ (l : Line). l.tokens) (cond t (x ∷ others) others)) (cond t 1 0 + count_by is xs) [] ≡ line.tokens) [
      | true ↦ ap (λ n. slice_index_or (map (λ (l : Line). l.tokens) (x ∷ others)) n []) one ∙ more
      | false ↦ ap (λ n. slice_index_or (map (λ (l : Line). l.tokens) others) n []) none ∙ more
    ]

-- a line of a kind that has tokens is one of the lines
pub record IsTold (is : Line → Bool) (lines : List Line) (n : ℕ) : Type 0 where
  pub line : Line
  pub listed : Contains lines line
  pub same : is line ≡ true
  pub tokens : line.tokens ≡ told_at is lines n

listed_later : (lines : List Line) (x line : Line) → Contains lines line → Contains (x ∷ lines) line
listed_later lines x line found = let below = found.1 in (suc found.0, omega arith, found.2)

abbrev kept_at : List Line → ℕ → List (List ℕ)
kept_at lines n = slice_index_or (map (λ (line : Line). line.tokens) lines) n []

kept_more : (is : Line → Bool) (x : Line) (xs : List Line) → is x ≡ true → filter is (x ∷ xs) ≡ x ∷ filter is xs
kept_more is x xs here = ap (λ t. cond t (x ∷ filter is xs) (filter is xs)) here

kept_same : (is : Line → Bool) (x : Line) (xs : List Line) → is x ≡ false → filter is (x ∷ xs) ≡ filter is xs
kept_same is x xs other = ap (λ t. cond t (x ∷ filter is xs) (filter is xs)) other

later : (is : Line → Bool) (x : Line) (xs : List Line) (n m : ℕ) → told_at is xs n ≡ told_at is (x ∷ xs) m → IsTold is xs n
    → IsTold is (x ∷ xs) m
later is x xs n m e more = record {
  line = more.line;
  listed = listed_later xs x more.line more.listed;
  same = more.same;
  tokens = more.tokens ∙ e;
}

told_line_at : (is : Line → Bool) (lines : List Line) (n : ℕ) → 0 < length (told_at is lines n) → IsTold is lines n
told_line_at is [] n some' = absurd (omega (arith, some'))
told_line_at is (x ∷ xs) zero some' = ⊎_elim
    (λ here. record {
      line = x;
      listed = (0, omega arith, refl);
      same = here;
      tokens = sym (ap (λ ls. kept_at ls 0) (kept_more is x xs here));
    })
    (λ other.
    let e : told_at is xs 0 ≡ told_at is (x ∷ xs) 0 = sym (ap (λ ls. kept_at ls 0) (kept_same is x xs other)) in
    later is x xs 0 0 e (told_line_at is xs 0 (omega (arith, some', ap length e))))
    (cases_Bool (is x))
told_line_at is (x ∷ xs) (suc n) some' = ⊎_elim
    (λ here.
    let e : told_at is xs n ≡ told_at is (x ∷ xs) (suc n) = sym (ap (λ ls. kept_at ls (suc n)) (kept_more is x xs here)) in
    later is x xs n (suc n) e (told_line_at is xs n (omega (arith, some', ap length e))))
    (λ other.
    let e : told_at is xs (suc n) ≡ told_at is (x ∷ xs) (suc n) = sym (ap (λ ls. kept_at ls (suc n)) (kept_same is x xs other)) in
    later is x xs (suc n) (suc n) e (told_line_at is xs (suc n) (omega (arith, some', ap length e))))
    (cases_Bool (is x))

-- an empty cell's mark is no card
mark_no_card : (token : List ℕ) (c : ℕ) → IsMark token → SpellsCard token c → ⊥
mark_no_card token c mark card =
    let text = card.text in
    let size : length token ≡ length text.rank_part + 1 = ap length text.parts ∙ length-append text.rank_part (text.suit_part ∷ []) in
    let ranked : 1 ≤ length text.rank_part = ⊎_elim
    (λ one. let e = ap length one.1 in omega (arith, e))
    (λ ten. let e = ap length ten.1 in omega (arith, e)) text.spells_rank in
    ⊎_elim (λ e. let one = ap length e in omega (arith, size, ranked, one))
    (λ e. let one = ap length e in omega (arith, size, ranked, one)) mark

card_once : (token : List ℕ) (c d : ℕ) → SpellsCard token c → SpellsCard token d → c ≡ d
card_once token c d p q = card_text_once c d token p.below q.below p.text q.text

held_is : (held : Option ℕ) (token : List ℕ) (c : ℕ) → SpellsCell token held → SpellsCard token c → held ≡ Some c
held_is None token c mark card = absurd (mark_no_card token c mark card)
held_is (Some d) token c told card = ap (λ x. Some x) (card_once token d c told card)

cell_token : (r : Option (List ℕ)) (c : ℕ) → SpellsCellAt r (Some c) → (token : List ℕ) × (r ≡ Some token) × SpellsCard token c
cell_token None c none = absurd (cc none)
cell_token (Some token) c told = (token, refl, told)

held_counts : (c : ℕ) (held : Option ℕ) → 0 < count_in_cell c held → held ≡ Some c
held_counts c None some' = absurd (omega (arith, some'))
held_counts c (Some x) some' = ⊎_elim
    (λ same. ap (λ y. Some y) (eqb-true x c same))
    (λ other. absurd (let none : ◌≡◌ {A = ℕ} (cond (x == c) 1 0) 0 = ap (λ t. cond t 1 0) other in omega (arith, none, some')))
    (cases_Bool (x == c))

-- how often a card stands in columns and cells
abbrev pub dealt : Board → ℕ → ℕ
dealt b c = sum_by (count_in_column c) b.columns + sum_by (count_in_cell c) b.cells

in_column : (b : Board) (c i j : ℕ) → i < length b.columns → j < length (column b i) → get_or (column b i) j 0 ≡ c → 0 < dealt b c
in_column b c i j within there same =
    omega (arith, counts_there c (column b i) j there same, get_or-le-sum_by (count_in_column c) b.columns i [] within)

in_cell : (b : Board) (c i : ℕ) → i < length b.cells → cell b i ≡ Some c → 0 < dealt b c
in_cell b c i within held =
    let one : count_in_cell c (cell b i) ≡ 1 = ap (count_in_cell c) held ∙ ap (λ t. cond t 1 0) (eq-eqb c c refl) in
    omega (arith, one, get_or-le-sum_by (count_in_cell c) b.cells i None within)

module _ (n : ℕ) (text : List ℕ) (b : Board) (game : n ≤ 4) (spells : Spells n text b) where
  -- a line that has a card
  column_stands : (r : List ℕ) (front rest : List Line) (c : ℕ) → board_lines text ≡ front ++ sorted_line None None r ∷ rest
      → HasCard c (sorted_line None None r) → 0 < dealt b c
  column_stands r front rest c parts has =
      let line = sorted_line None None r in
      let tokens = line.tokens in
      let i = count_by (λ (l : Line). is_column l.kind) front in
      let clean = clean_line n text b spells front rest line parts in
      let spelled = has.1 in
      let found = spelled.1 in
      let few : i < 8 = ⊎_elim (λ lt. lt)
      (λ many. absurd (spell_no_fault n text b (TooManyColumns (length front + 1)) spells (record {
        short = spells.short;
        first = record {
          front = front;
          line = line;
          rest = rest;
          parts = parts;
          place = refl;
          sound = front_sound n (board_lines text) front rest line parts spells.sound;
          here = (clean.card, (many, omega (arith, found.1)));
        };
      })))
      (cases_lt i 8) in
      let told : told_at (λ (l : Line). is_column l.kind) (board_lines text) i ≡ tokens =
      ap (λ ls. told_at (λ (l : Line). is_column l.kind) ls i) parts ∙ told_here (λ (l : Line). is_column l.kind) front rest line refl in
      let zip : AllZip SpellsCard tokens (column b i) =
      subst (λ ts. AllZip SpellsCard ts (column b i)) told (spells.spelled.columns i few) in
      let long = spelled_long tokens (column b i) zip in
      let here : SpellsCard (get_or tokens found.0 spelled.0) (get_or (column b i) found.0 0) =
      spelled_at tokens (column b i) found.0 spelled.0 zip found.1 in
      in_column b c i found.0 (omega (arith, spells.position.columns)) (omega (arith, long, found.1))
      (card_once spelled.0 (get_or (column b i) found.0 0) c (subst (λ t. SpellsCard t (get_or (column b i) found.0 0)) found.2 here) spelled.2)

  cells_stand : (piece r : List ℕ) (front rest : List Line) (c : ℕ) → board_lines text ≡ front ++ sorted_line None (Some piece) r ∷ rest
      → HasCard c (sorted_line None (Some piece) r) → 0 < dealt b c
  cells_stand piece r front rest c parts has =
      let line = sorted_line None (Some piece) r in
      let tokens = line.tokens in
      let is : Line → Bool = λ l. is_freecells l.kind in
      let i = count_by is front in
      let clean = clean_line n text b spells front rest line parts in
      let sound = front_sound n (board_lines text) front rest line parts spells.sound in
      let spelled = has.1 in
      let found = spelled.1 in
      let few : n < length tokens → ⊥ = λ many. spell_no_fault n text b (TooManyCells (length front + 1)) spells (record {
        short = spells.short;
        first = record { front = front; line = line; rest = rest; parts = parts; place = refl; sound = sound; here = (clean.card, many) };
      }) in
      let first : i ≡ 0 = ⊎_elim
      (λ again. absurd (spell_no_fault n text b (RepeatedLine (length front + 1)) spells (record {
        short = spells.short;
        first = record {
          front = front;
          line = line;
          rest = rest;
          parts = parts;
          place = refl;
          sound = sound;
          here = (clean.card, clean.foundation, few, again);
        };
      })))
      (λ none. omega arith)
      (cases_lt 0 i) in
      let told : told_at is (board_lines text) 0 ≡ tokens =
      ap (told_at is (board_lines text)) (sym first) ∙ ap (λ ls. told_at is ls i) parts ∙ told_here is front rest line refl in
      let below : found.0 < 4 = ⊎_elim (λ lt. absurd (few lt)) (λ le. omega (arith, le, found.1, game)) (cases_lt n (length tokens)) in
      let at : slice_get tokens found.0 ≡ Some spelled.0 = slice_get-get_or tokens found.0 spelled.0 found.1 ∙ ap (λ v. Some v) found.2 in
      let held : SpellsCellAt (slice_get tokens found.0) (cell b found.0) =
      subst (λ ts. SpellsCellAt (slice_get ts found.0) (cell b found.0)) told (spells.spelled.cells found.0 below) in
      let here : SpellsCell spelled.0 (cell b found.0) = subst (λ o. SpellsCellAt o (cell b found.0)) at held in
      in_cell b c found.0 (omega (arith, spells.position.cells, below)) (held_is (cell b found.0) spelled.0 c here spelled.2)

  pub line_stands : (homes cells : Option (List ℕ)) (r : List ℕ) (front rest : List Line) (c : ℕ)
      → board_lines text ≡ front ++ sorted_line homes cells r ∷ rest → HasCard c (sorted_line homes cells r) → 0 < dealt b c
  line_stands (Some piece) cells r front rest c parts has = absurd (has.0 refl)
  line_stands None (Some piece) r front rest c parts has = cells_stand piece r front rest c parts has
  line_stands None None r front rest c parts has = column_stands r front rest c parts has

  -- a card that stands
  pub stands_in : (c : ℕ) → 0 < dealt b c → (line : Line) × Contains (board_lines text) line × HasCard c line
  stands_in c some' = ⊎_elim
      (λ here.
      let at = some_in (count_in_column c) b.columns [] here in
      let i = at.0 in
      let is : Line → Bool = λ l. is_column l.kind in
      let spot = counted c (column b i) at.2 in
      let zip : AllZip SpellsCard (told_at is (board_lines text) i) (column b i) = spells.spelled.columns i (omega (arith, at.1, spells.position.columns)) in
      let long = spelled_long (told_at is (board_lines text) i) (column b i) zip in
      let tokens = told_at is (board_lines text) i in
      let within : spot.0 < length tokens = omega (arith, long, spot.1) in
      let told = told_line_at is (board_lines text) i (omega (arith, within)) in
      let card : SpellsCard (get_or tokens spot.0 []) c =
      subst (SpellsCard (get_or tokens spot.0 [])) spot.2 (spelled_at tokens (column b i) spot.0 [] zip within) in (
        told.line,
        told.listed,
        (
          λ e. cc (sym told.same ∙ ap is_column e),
          (get_or tokens spot.0 [], subst (λ ts. Contains ts (get_or tokens spot.0 [])) (sym told.tokens) (Contains-get_or tokens spot.0 [] within), card),
        ),
      ))
      (λ none.
      let at = some_in (count_in_cell c) b.cells None (omega (arith, some')) in
      let i = at.0 in
      let is : Line → Bool = λ l. is_freecells l.kind in
      let tokens = told_at is (board_lines text) 0 in
      let held = held_counts c (cell b i) at.2 in
      let spelled : SpellsCellAt (slice_get tokens i) (Some c) =
      subst (SpellsCellAt (slice_get tokens i)) held (spells.spelled.cells i (omega (arith, at.1, spells.position.cells))) in
      let found = cell_token (slice_get tokens i) c spelled in
      let there = Contains-at tokens i found.0 found.1 in
      let within = there.1 in
      let told = told_line_at is (board_lines text) 0 (omega (arith, within)) in (
        told.line,
        told.listed,
        (
          λ e. cc (sym told.same ∙ ap is_freecells e),
          (found.0, subst (λ ts. Contains ts found.0) (sym told.tokens) there, found.2),
        ),
      ))
      (cases_lt 0 (sum_by (count_in_column c) b.columns))
