-- A draft with a cell line.
use Rattle.std.proofs.Common.{Bool, true, false, ◌≡◌, ℕ, zero, suc, ◌+◌, ◌≤◌, ◌<◌, Option, Some, None, List, [], ◌∷◌, ◌++◌, length, min, get_or, refl, sym, ◌∙◌, ap, subst, ⊎_elim, zero-add, arith}
use Rattle.std.specs.Prelude.{◌↔◌, IsTrue, Contains, slice_get, slice_index_or, replicate, count_by, sum_by}
use Rattle.std.specs.List.{AllZip}
use Rattle.std.proofs.lemmas.List.Sums.{sum_by-cons}
use Rattle.std.proofs.lemmas.Option.{slice_get-get_or, slice_get_cases}
use Rattle.fc_position.specs.Board.{Board, column, cell, home, count_in_cell}
use Rattle.fc_position.specs.Tally.{Adds}
use Rattle.fc_position.proofs.TallyLemmas.{adds_more, adds_same}
use Rattle.fc_text.specs.declared.faults.LineFault.TheVariants.{BadCard, BadFoundation, TooManyCells, TooManyColumns, RepeatedLine}
use Rattle.fc_text.specs.declared.lines.LineKind.TheVariants.{Foundations, Freecells, Column}
use Rattle.fc_text.specs.declared.drafts.Draft.{Draft}
use Rattle.fc_text.specs.Line.{Line, tokens_of}
use Rattle.fc_text.specs.Fault.{HasBadCard, IsLineFault, IsSound}
use Rattle.fc_text.specs.Spelling.{SpellsBoard, SpellsCard, SpellsCell, SpellsCellAt, SpellsHomeIn, IsMark, is_kind, tokens_at}
use Rattle.fc_text.specs.inner.Reading.{ReadsCells}
use Rattle.fc_text.specs.inner.Draft.{IsDraftOf, dealt_places, cells_line}
use Rattle.fc_text.proofs.DraftLemmas.{tokens_at-other, tokens_at-next, tokens_at-past, kind_more, kind_same}

-- no card stands in empty cells
none_held : (cells : List (Option ℕ)) (c : ℕ) → ((i : ℕ) → i < length cells → get_or cells i None ≡ None)
    → sum_by (count_in_cell c) cells ≡ 0
none_held [] c empty = refl
none_held (x ∷ cells) c empty =
    let here : x ≡ None = empty 0 (omega arith) in
    sum_by-cons (count_in_cell c) x cells ∙ ap (λ y. count_in_cell c y + sum_by (count_in_cell c) cells) here
    ∙ zero-add (sum_by (count_in_cell c) cells) ∙ none_held cells c (λ i below. empty (suc i) (omega (arith, below)))

-- the board with these cells
abbrev with_cells : Board → List (Option ℕ) → Board
with_cells b cells = record b { cells = cells }

-- what a token or its lack says of the cell at its place
spelled_cell : (tokens : List (List ℕ)) (cells : List (Option ℕ)) (count i : ℕ) → ReadsCells tokens cells count → i < 4
    → SpellsCellAt (slice_get tokens i) (slice_index_or cells i None)
spelled_cell tokens cells count i read below = ⊎_elim
    (λ there. let held = read.read i there.0 there.2 in
    subst (λ r. SpellsCellAt r (slice_index_or cells i None)) (sym there.2)
    (subst (λ h. SpellsCell there.0 h) (sym (held.2 below)) held.1))
    (λ past. subst (λ r. SpellsCellAt r (slice_index_or cells i None)) (sym past.1) (read.empty i past.0))
    (slice_get_cases tokens i).1

cells_spelled : (lines : List Line) (line : Line) (b : Board) (cells : List (Option ℕ)) (count : ℕ) → SpellsBoard lines b
    → is_kind Column line ≡ false → is_kind Freecells line ≡ true → is_kind Foundations line ≡ false
    → ReadsCells line.tokens cells count → 0 ≡ count_by (is_kind Freecells) lines
    → SpellsBoard (lines ++ line ∷ []) (with_cells b cells)
cells_spelled lines line b cells count old no_column is_cells no_homes read place = record {
  shape = record {
    columns = old.shape.columns;
    cells = read.four;
    homes = old.shape.homes;
  };
  columns = λ i less. subst (λ tokens. AllZip SpellsCard tokens (column b i)) (sym (tokens_at-other lines line Column i no_column))
      (old.columns i less);
  cells = λ i less. subst (λ tokens. SpellsCellAt (slice_get tokens i) (slice_index_or cells i None))
      (sym (tokens_at-next lines line Freecells 0 is_cells place)) (spelled_cell line.tokens cells count i read less);
  homes = λ s less. subst (λ tokens. SpellsHomeIn tokens s (home b s)) (sym (tokens_at-other lines line Foundations 0 no_homes))
      (old.homes s less);
}

-- the cells of a board whose lines have no cell line are empty
cells_empty : (lines : List Line) (b : Board) → SpellsBoard lines b → 0 ≡ count_by (is_kind Freecells) lines → (i : ℕ)
    → i < length b.cells → cell b i ≡ None
cells_empty lines b old place i below =
    let none : tokens_at lines Freecells 0 ≡ [] = tokens_at-past lines Freecells 0 (omega (arith, place)) in
    subst (λ tokens. SpellsCellAt (slice_get tokens i) (cell b i)) none (old.cells i (omega (arith, below, old.shape.cells)))

cells_counted : (b : Board) (cells : List (Option ℕ)) (old new : List ℕ) → ((i : ℕ) → i < length b.cells → cell b i ≡ None)
    → Adds (dealt_places b) (replicate 52 0) old → Adds (λ c. sum_by (count_in_cell c) cells) old new
    → Adds (dealt_places (with_cells b cells)) (replicate 52 0) new
cells_counted b cells old new none before counted =
    adds_same (λ c. dealt_places b c + sum_by (count_in_cell c) cells) (dealt_places (with_cells b cells)) (replicate 52 0) new
    (λ c _. let zero_held : sum_by (count_in_cell c) b.cells ≡ 0 = none_held b.cells c none in omega arith)
    (adds_more (dealt_places b) (λ c. sum_by (count_in_cell c) cells) (replicate 52 0) old new before counted)

clash : (b : Bool) → b ≡ false → b ≡ true → ⊥
clash b one two = cc (one, two)

-- a mark that is not set, and a count that is not above 0
pub unset : (b : Bool) (count : ℕ) → b ≡ false → IsTrue b ↔ (0 < count) → 0 ≡ count
unset b zero no' told = refl
unset b (suc count) no' told = absurd (clash b no' (told.1 (omega arith)))

-- the first cell line
pub cells_first : (lines : List Line) (d : Draft) (piece : List ℕ) (kept : List (Option ℕ)) (count : ℕ) (new : List ℕ) → IsDraftOf lines d
    → ReadsCells (tokens_of piece) kept count → d.has_cells ≡ false → Adds (λ c. sum_by (count_in_cell c) kept) d.tally new
    → IsDraftOf (lines ++ cells_line piece ∷ []) (record d { cells = kept; has_cells = true; tally = new })
cells_first lines d piece kept count new old read fresh counted =
    let place : 0 ≡ count_by (is_kind Freecells) lines = unset d.has_cells (count_by (is_kind Freecells) lines) fresh old.has_cells in
    record {
      board = with_cells old.board kept;
      spelled = cells_spelled lines (cells_line piece) old.board kept count old.spelled refl refl refl read place;
      kept = old.kept;
      eight = old.eight;
      column_count = old.column_count ∙ ap (λ k. min k 8) (sym (kind_same lines (cells_line piece) Column refl));
      cells = refl;
      has_cells = (λ _. subst (λ k. 0 < k) (sym (kind_more lines (cells_line piece) Freecells refl)) (omega arith), λ _. refl);
      homes = old.homes;
      most = old.most;
      has_homes = subst (λ k. IsTrue d.has_homes ↔ (0 < k)) (sym (kind_same lines (cells_line piece) Foundations refl)) old.has_homes;
      tally = cells_counted old.board kept d.tally new (cells_empty lines old.board old.spelled place) old.tally counted;
    }

pub spelled_not_bad : (token : List ℕ) (held : Option ℕ) → SpellsCell token held → ((c : ℕ) → SpellsCard token c → ⊥)
    → (IsMark token → ⊥) → ⊥
spelled_not_bad token None spelled other mark = mark spelled
spelled_not_bad token (Some c) spelled other mark = other c spelled

-- no token of a cell line that was read is bad
no_bad_cell : (tokens : List (List ℕ)) (kept : List (Option ℕ)) (count : ℕ) → ReadsCells tokens kept count
    → HasBadCard Freecells tokens → ⊥
no_bad_cell tokens kept count read bad =
    let found : Contains tokens bad.0 = bad.1 in
    let held = read.read found.0 bad.0 (slice_get-get_or tokens found.0 bad.0 found.1 ∙ ap (λ v. Some v) found.2) in
    spelled_not_bad bad.0 held.0 held.1 bad.2 bad.3

few_cells : (most count size : ℕ) → count ≡ min size 5 → count ≤ most → most ≤ 4 → most < size → ⊥
few_cells most count size same le small more = omega arith

-- the first cell line that was read and isn't too long is sound
pub cells_sound : (most : ℕ) (lines : List Line) (d : Draft) (piece : List ℕ) (kept : List (Option ℕ)) (count : ℕ) → IsDraftOf lines d
    → ReadsCells (tokens_of piece) kept count → count ≤ most → most ≤ 4 → d.has_cells ≡ false
    → IsSound most (count_by (is_kind Freecells) lines) (cells_line piece)
cells_sound most lines d piece kept count old read le small fresh BadCard bad = no_bad_cell (tokens_of piece) kept count read bad
cells_sound most lines d piece kept count old read le small fresh BadFoundation bad = bad
cells_sound most lines d piece kept count old read le small fresh TooManyCells bad =
    few_cells most count (length (tokens_of piece)) read.counted le small bad.1
cells_sound most lines d piece kept count old read le small fresh TooManyColumns bad = bad.1
cells_sound most lines d piece kept count old read le small fresh RepeatedLine bad =
    let place = unset d.has_cells (count_by (is_kind Freecells) lines) fresh old.has_cells in omega (arith, place, bad.3)

many_cells : (most count size : ℕ) → count ≡ min size 5 → most < count → most < size
many_cells most count size same more = omega arith

-- a cell line with too many tokens, and a second one
pub cells_many : (most before : ℕ) (piece : List ℕ) (kept : List (Option ℕ)) (count : ℕ) → ReadsCells (tokens_of piece) kept count
    → most < count → IsLineFault most before (cells_line piece) TooManyCells
cells_many most before piece kept count read more =
    (no_bad_cell (tokens_of piece) kept count read, many_cells most count (length (tokens_of piece)) read.counted more)

pub cells_again : (most : ℕ) (lines : List Line) (d : Draft) (piece : List ℕ) (kept : List (Option ℕ)) (count : ℕ) → IsDraftOf lines d
    → ReadsCells (tokens_of piece) kept count → count ≤ most → most ≤ 4 → d.has_cells ≡ true
    → IsLineFault most (count_by (is_kind Freecells) lines) (cells_line piece) RepeatedLine
cells_again most lines d piece kept count old read le small told = (
  no_bad_cell (tokens_of piece) kept count read,
  (λ bad. bad),
  few_cells most count (length (tokens_of piece)) read.counted le small,
  old.has_cells.0 told,
)
