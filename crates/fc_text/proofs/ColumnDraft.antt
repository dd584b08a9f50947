-- A draft with one more column line.
use Rattle.std.proofs.Common.{true, false, ◌≡◌, ℕ, zero, suc, ◌+◌, ◌≤◌, ◌<◌, List, [], ◌∷◌, ◌++◌, length, map, take, min, get_or, set, refl, sym, ◌∙◌, ap, subst, ⊎_elim, arith}
use Rattle.std.specs.Prelude.{◌↔◌, ◌==◌, IsTrue, slice_get, slice_index, replicate, count_by, sum_by}
use Rattle.std.specs.List.{AllZip}
use Rattle.std.proofs.lemmas.List.{length-take, map-set, get_or-set_same, get_or-set_other, length-map, length-set}
use Rattle.std.proofs.lemmas.List.Sums.{sum_by-set}
use Rattle.std.proofs.lemmas.Bool.{cases_eq, eqb-true, eqb-false}
use Rattle.std.proofs.lemmas.Slice.Zip.{AllZip-long}
use Rattle.arrayvec.specs.ArrayVec.{ArrayVec}
use Rattle.fc_position.specs.Board.{Board, column, cell, home, count_in_column}
use Rattle.fc_position.specs.Tally.{Adds}
use Rattle.fc_position.proofs.TallyLemmas.{adds_more, adds_same}
use Rattle.fc_text.specs.declared.lines.LineKind.TheVariants.{Foundations, Freecells, Column}
use Rattle.fc_text.specs.declared.drafts.Draft.{Draft}
use Rattle.fc_text.specs.Line.{Line, tokens_of}
use Rattle.fc_text.specs.Spelling.{SpellsBoard, SpellsCard, SpellsCellAt, SpellsHomeIn, is_kind, tokens_at}
use Rattle.fc_text.specs.inner.Reading.{ReadsColumn}
use Rattle.fc_text.specs.inner.Draft.{IsDraftOf, dealt_places, column_line}
use Rattle.fc_text.specs.Fault.{IsLineFault, IsSound}
use Rattle.fc_text.specs.declared.faults.LineFault.TheVariants.{TooManyColumns}
use Rattle.fc_text.proofs.FaultLemmas.{column_sound, no_bad_card}
use Rattle.fc_text.proofs.DraftLemmas.{tokens_at-other, tokens_at-next, tokens_at-before, tokens_at-past, kind_more, kind_same}

-- no tokens spell no cards
no_cards : (cards : List ℕ) → AllZip SpellsCard [] cards → cards ≡ []
no_cards [] zip = refl
no_cards (c ∷ cards) zip = absurd zip

-- the board with one more column
abbrev with_column : Board → ℕ → List ℕ → Board
with_column b n cards = record b { columns = set b.columns n cards }

column_same : (b : Board) (cards : List ℕ) (n i : ℕ) → length b.columns ≡ 8 → n < 8 → i ≡ n
    → column (with_column b n cards) i ≡ cards
column_same b cards n i eight below e =
    ap (λ k. get_or (set b.columns n cards) k []) e
    ∙ get_or-set_same b.columns n cards [] (omega (arith, eight, below))

-- the lines before and the new one spell it
more_spelled : (lines : List Line) (line : Line) (b : Board) (cards : List ℕ) (n : ℕ) → SpellsBoard lines b
    → is_kind Column line ≡ true → is_kind Freecells line ≡ false → is_kind Foundations line ≡ false
    → AllZip SpellsCard line.tokens cards → n ≡ count_by (is_kind Column) lines → n < 8
    → SpellsBoard (lines ++ line ∷ []) (with_column b n cards)
more_spelled lines line b cards n old is_column no_cells no_homes zip place below = record {
  shape = record {
    columns = length-set b.columns n cards ∙ old.shape.columns;
    cells = old.shape.cells;
    homes = old.shape.homes;
  };
  columns = λ i less. ⊎_elim
      (λ (e : i ≡ n). subst (λ tokens. AllZip SpellsCard tokens (column (with_column b n cards) i))
      (sym (tokens_at-next lines line Column i is_column (e ∙ place)))
      (subst (λ cs. AllZip SpellsCard line.tokens cs) (sym (column_same b cards n i old.shape.columns below e)) zip))
      (λ other. subst (λ tokens. AllZip SpellsCard tokens (column (with_column b n cards) i))
      (sym (tokens_at-before lines line Column i is_column (λ e. other (e ∙ sym place))))
      (subst (λ cs. AllZip SpellsCard (tokens_at lines Column i) cs)
      (sym (get_or-set_other b.columns n i cards [] other)) (old.columns i less)))
      (cases_eq i n);
  cells = λ i less. subst (λ tokens. SpellsCellAt (slice_get tokens i) (cell b i)) (sym (tokens_at-other lines line Freecells 0 no_cells))
      (old.cells i less);
  homes = λ s less. subst (λ tokens. SpellsHomeIn tokens s (home b s)) (sym (tokens_at-other lines line Foundations 0 no_homes))
      (old.homes s less);
}

-- the cards of the new line are counted
more_counted : (b : Board) (cards : List ℕ) (n : ℕ) (old new : List ℕ) → n < length b.columns → column b n ≡ []
    → Adds (dealt_places b) (replicate 52 0) old → Adds (λ c. count_in_column c cards) old new
    → Adds (dealt_places (with_column b n cards)) (replicate 52 0) new
more_counted b cards n old new below none before counted =
    adds_same (λ c. dealt_places b c + count_in_column c cards) (dealt_places (with_column b n cards)) (replicate 52 0) new
    (λ c _. let one : sum_by (count_in_column c) (set b.columns n cards) + count_in_column c (column b n)
    ≡ sum_by (count_in_column c) b.columns + count_in_column c cards = sum_by-set (count_in_column c) b.columns n cards [] below in
    let two : count_in_column c (column b n) ≡ 0 = ap (count_in_column c) none in
    omega arith)
    (adds_more (dealt_places b) (λ c. count_in_column c cards) (replicate 52 0) old new before counted)

-- a column of which no card is kept has none
none_kept : (kept cards : List ℕ) → kept ≡ take 52 cards → kept ≡ [] → cards ≡ []
none_kept kept [] front none = refl
none_kept kept (c ∷ cards) front none = absurd (cc (front, none))

-- the front of each column is kept
kept_more : (fronts : List (List ℕ)) (b : Board) (kept cards : List ℕ) (n i : ℕ) → length fronts ≡ 8 → length b.columns ≡ 8 → n < 8
    → kept ≡ take 52 cards → get_or fronts i [] ≡ take 52 (column b i)
    → get_or (set fronts n kept) i [] ≡ take 52 (column (with_column b n cards) i)
kept_more fronts b kept cards n i eight shape room front old = ⊎_elim
    (λ (e : i ≡ n). ap (λ k. get_or (set fronts n kept) k []) e
    ∙ get_or-set_same fronts n kept [] (omega (arith, eight, room)) ∙ front
    ∙ ap (take 52) (sym (column_same b cards n i shape room e)))
    (λ other. get_or-set_other fronts n i kept [] other ∙ old
    ∙ ap (take 52) (sym (get_or-set_other b.columns n i cards [] other)))
    (cases_eq i n)

-- one more of at most eight
count_more : (n old new : ℕ) → n ≡ min old 8 → n < 8 → new ≡ old + 1 → n + 1 ≡ min new 8
count_more n old new same room one = omega arith

count_full : (n old new : ℕ) → n ≡ min old 8 → 8 ≤ n → new ≡ old + 1 → n ≡ min new 8
count_full n old new same full one = omega arith

count_below : (n old : ℕ) → n ≡ min old 8 → n < 8 → n ≡ old
count_below n old same room = omega arith

-- one column line more, which has a place
pub column_more : (lines : List Line) (d : Draft) (piece : List ℕ) (kept : ArrayVec ℕ) (new : List ℕ) → IsDraftOf lines d
    → ReadsColumn (tokens_of piece) kept.items d.tally new → d.column_count < 8
    → IsDraftOf (lines ++ column_line piece ∷ []) (record d {
      columns = set d.columns d.column_count kept;
      column_count = d.column_count + 1;
      tally = new;
    })
column_more lines d piece kept new old read room =
    let n = d.column_count in
    let b = old.board in
    let count : n ≡ count_by (is_kind Column) lines = count_below n (count_by (is_kind Column) lines) old.column_count room in
    let none : column b n ≡ [] = no_cards (column b n)
    (subst (λ tokens. AllZip SpellsCard tokens (column b n)) (tokens_at-past lines Column n (omega (arith, count)))
    (old.spelled.columns n room)) in
    record {
      board = with_column b n read.cards;
      spelled = more_spelled lines (column_line piece) b read.cards n old.spelled refl refl refl read.spelled count room;
      kept = λ i below. ap (λ xs. get_or xs i []) (map-set (λ v. v.items) d.columns n kept)
          ∙ kept_more (map (λ v. v.items) d.columns) b kept.items read.cards n i (length-map d.columns (λ v. v.items) ∙ old.eight)
          old.spelled.shape.columns room read.front (old.kept i below);
      eight = length-set d.columns n kept ∙ old.eight;
      column_count = count_more n (count_by (is_kind Column) lines) (count_by (is_kind Column) (lines ++ column_line piece ∷ []))
          old.column_count room (kind_more lines (column_line piece) Column refl);
      cells = old.cells;
      has_cells = subst (λ k. IsTrue d.has_cells ↔ (0 < k)) (sym (kind_same lines (column_line piece) Freecells refl)) old.has_cells;
      homes = old.homes;
      most = old.most;
      has_homes = subst (λ k. IsTrue d.has_homes ↔ (0 < k)) (sym (kind_same lines (column_line piece) Foundations refl)) old.has_homes;
      tally = more_counted b read.cards n d.tally new (omega (arith, old.spelled.shape.columns, room)) none old.tally read.counted;
    }

-- a line past the eighth column changes nothing of the board
past_spelled : (lines : List Line) (line : Line) (b : Board) → SpellsBoard lines b
    → is_kind Column line ≡ true → is_kind Freecells line ≡ false → is_kind Foundations line ≡ false
    → 8 ≤ count_by (is_kind Column) lines → SpellsBoard (lines ++ line ∷ []) b
past_spelled lines line b old is_column no_cells no_homes full = record {
  shape = old.shape;
  columns = λ i less. subst (λ tokens. AllZip SpellsCard tokens (column b i))
      (sym (tokens_at-before lines line Column i is_column (λ e. omega (arith, e, full, less)))) (old.columns i less);
  cells = λ i less. subst (λ tokens. SpellsCellAt (slice_get tokens i) (cell b i)) (sym (tokens_at-other lines line Freecells 0 no_cells))
      (old.cells i less);
  homes = λ s less. subst (λ tokens. SpellsHomeIn tokens s (home b s)) (sym (tokens_at-other lines line Foundations 0 no_homes))
      (old.homes s less);
}

count_past : (n old : ℕ) → n ≡ min old 8 → 8 ≤ n → 8 ≤ old
count_past n old same full = omega arith

none_counted : (f g base old new : ℕ) → old ≡ min (base + f) 2 → new ≡ min (old + g) 2 → g ≡ 0 → new ≡ min (base + f) 2
none_counted f g base old new one two none = omega arith

-- one column line more, without cards, past the eighth column
pub column_past : (lines : List Line) (d : Draft) (piece kept new : List ℕ) → IsDraftOf lines d
    → ReadsColumn (tokens_of piece) kept d.tally new → kept ≡ [] → 8 ≤ d.column_count
    → IsDraftOf (lines ++ column_line piece ∷ []) (record d { tally = new })
column_past lines d piece kept new old read empty full =
    let none : read.cards ≡ [] = none_kept kept read.cards read.front empty in
    record {
      board = old.board;
      spelled = past_spelled lines (column_line piece) old.board old.spelled refl refl refl
          (count_past d.column_count (count_by (is_kind Column) lines) old.column_count full);
      kept = old.kept;
      eight = old.eight;
      column_count = count_full d.column_count (count_by (is_kind Column) lines) (count_by (is_kind Column) (lines ++ column_line piece ∷ []))
          old.column_count full (kind_more lines (column_line piece) Column refl);
      cells = old.cells;
      has_cells = subst (λ k. IsTrue d.has_cells ↔ (0 < k)) (sym (kind_same lines (column_line piece) Freecells refl)) old.has_cells;
      homes = old.homes;
      most = old.most;
      has_homes = subst (λ k. IsTrue d.has_homes ↔ (0 < k)) (sym (kind_same lines (column_line piece) Foundations refl)) old.has_homes;
      tally = λ c below. none_counted (dealt_places old.board c) (count_in_column c read.cards) (slice_index (replicate 52 0) c) (slice_index d.tally c) (slice_index new c)
          (old.tally c below) (read.counted c below) (ap (count_in_column c) none);
    }

-- a list whose length is 0 is empty
pub empty_of_size : (xs : List ℕ) → (length xs == 0) ≡ true → xs ≡ []
empty_of_size [] same = refl
empty_of_size (x ∷ xs) same = let size = eqb-true (length (x ∷ xs)) 0 same in absurd (omega (arith, size))

positive : (kept cards tokens : ℕ) → kept ≡ min 52 cards → cards ≡ tokens → (kept ≡ 0 → ⊥) → 0 < tokens
positive kept cards zero front size other = absurd (other (front ∙ ap (min 52) size))
positive kept cards (suc tokens) front size other = omega arith

-- a column line that has a place is sound
pub room_sound : (n : ℕ) (lines : List Line) (d : Draft) (piece kept new : List ℕ) → IsDraftOf lines d
    → ReadsColumn (tokens_of piece) kept d.tally new → d.column_count < 8
    → IsSound n (count_by (is_kind Column) lines) (column_line piece)
room_sound n lines d piece kept new old read room =
    let count = count_below d.column_count (count_by (is_kind Column) lines) old.column_count room in
    column_sound n (count_by (is_kind Column) lines) piece read.cards read.spelled (λ full. absurd (omega (arith, count, full, room)))

-- one past the eighth column with a card has a fault
pub past_fault : (n : ℕ) (lines : List Line) (d : Draft) (piece kept new : List ℕ) → IsDraftOf lines d
    → ReadsColumn (tokens_of piece) kept d.tally new → 8 ≤ d.column_count → (length kept == 0) ≡ false
    → IsLineFault n (count_by (is_kind Column) lines) (column_line piece) TooManyColumns
past_fault n lines d piece kept new old read full some' =
    let size : length read.cards ≡ length (tokens_of piece) = AllZip-long SpellsCard (tokens_of piece) read.cards read.spelled in
    let front = ap length read.front ∙ length-take 52 read.cards in (
      no_bad_card (tokens_of piece) read.cards read.spelled,
      (
        count_past d.column_count (count_by (is_kind Column) lines) old.column_count full,
        positive (length kept) (length read.cards) (length (tokens_of piece)) front size (eqb-false (length kept) 0 some'),
      ),
    )
