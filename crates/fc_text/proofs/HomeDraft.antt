-- A draft with a foundation line.
use Rattle.std.proofs.Common.{true, false, ◌≡◌, ℕ, ◌<◌, List, [], ◌∷◌, ◌++◌, min, refl, sym, ◌∙◌, ap, subst, arith}
use Rattle.std.specs.Prelude.{◌↔◌, IsTrue, slice_get, slice_index, count_by}
use Rattle.std.specs.List.{AllZip}
use Rattle.fc_position.specs.Board.{Board, column, cell}
use Rattle.fc_text.specs.declared.lines.LineKind.TheVariants.{Foundations, Freecells, Column}
use Rattle.fc_text.specs.declared.drafts.Draft.{Draft}
use Rattle.fc_text.specs.Line.{Line, tokens_of}
use Rattle.fc_text.specs.Spelling.{SpellsBoard, SpellsCard, SpellsCellAt, SpellsHomeIn, is_kind}
use Rattle.fc_text.specs.inner.Reading.{ReadsHomes}
use Rattle.fc_text.specs.inner.Draft.{IsDraftOf, homes_line}
use Rattle.fc_text.proofs.DraftLemmas.{tokens_at-other, tokens_at-next, kind_more, kind_same}
use Rattle.fc_text.proofs.CellDraft.{unset}

-- the board with these counts
abbrev with_homes : Board → List ℕ → Board
with_homes b homes = record b { homes = homes }

homes_spelled : (lines : List Line) (line : Line) (b : Board) (homes : List ℕ) → SpellsBoard lines b
    → is_kind Column line ≡ false → is_kind Freecells line ≡ false → is_kind Foundations line ≡ true
    → ReadsHomes line.tokens homes → 0 ≡ count_by (is_kind Foundations) lines
    → SpellsBoard (lines ++ line ∷ []) (with_homes b homes)
homes_spelled lines line b homes old no_column no_cells is_homes read place = record {
  shape = record {
    columns = old.shape.columns;
    cells = old.shape.cells;
    homes = read.four;
  };
  columns = λ i less. subst (λ tokens. AllZip SpellsCard tokens (column b i)) (sym (tokens_at-other lines line Column i no_column))
      (old.columns i less);
  cells = λ i less. subst (λ tokens. SpellsCellAt (slice_get tokens i) (cell b i)) (sym (tokens_at-other lines line Freecells 0 no_cells))
      (old.cells i less);
  homes = λ s less. subst (λ tokens. SpellsHomeIn tokens s (slice_index homes s))
      (sym (tokens_at-next lines line Foundations 0 is_homes place)) (read.read s less);
}

-- the first foundation line
pub homes_first : (lines : List Line) (d : Draft) (piece : List ℕ) (kept : List ℕ) → IsDraftOf lines d
    → ReadsHomes (tokens_of piece) kept → d.has_homes ≡ false
    → IsDraftOf (lines ++ homes_line piece ∷ []) (record d { homes = kept; has_homes = true })
homes_first lines d piece kept old read fresh =
    let place : 0 ≡ count_by (is_kind Foundations) lines = unset d.has_homes (count_by (is_kind Foundations) lines) fresh old.has_homes in
    record {
      board = with_homes old.board kept;
      spelled = homes_spelled lines (homes_line piece) old.board kept old.spelled refl refl refl read place;
      kept = old.kept;
      eight = old.eight;
      column_count = old.column_count ∙ ap (λ k. min k 8) (sym (kind_same lines (homes_line piece) Column refl));
      cells = old.cells;
      has_cells = subst (λ k. IsTrue d.has_cells ↔ (0 < k)) (sym (kind_same lines (homes_line piece) Freecells refl)) old.has_cells;
      homes = refl;
      most = read.most;
      has_homes = (λ _. subst (λ k. 0 < k) (sym (kind_more lines (homes_line piece) Foundations refl)) (omega arith), λ _. refl);
      tally = old.tally;
    }
