-- What is read fits the game.
use Rattle.std.proofs.Common.{true, ◌≡◌, ℕ, ◌≤◌, ◌<◌, None, List, [], ◌∷◌, ◌++◌, length, map, cond, get_or, refl, sym, ◌∙◌, ap, subst, ⊎_elim, arith}
use Rattle.std.specs.Prelude.{filter, count_by}
use Rattle.std.proofs.lemmas.List.{get_or_past}
use Rattle.std.proofs.lemmas.Option.{slice_get_cases}
use Rattle.std.proofs.lemmas.Bool.{cases_lt, cases_Bool}
use Rattle.fc_position.specs.Board.{Board, cell}
use Rattle.fc_position.specs.Position.{Fits}
use Rattle.fc_text.specs.declared.faults.LineFault.TheVariants.{BadCard, TooManyCells}
use Rattle.fc_text.specs.declared.lines.LineKind.{LineKind}
use Rattle.fc_text.specs.declared.lines.LineKind.TheVariants.{Foundations, Freecells, Column}
use Rattle.fc_text.specs.Line.{Line}
use Rattle.fc_text.specs.Spelling.{SpellsBoard, SpellsCellAt, is_kind, is_freecells, tokens_at}
use Rattle.fc_text.specs.Fault.{HasTooManyCells, IsSound, AreSound}

abbrev first_tokens : List Line → List (List ℕ)
first_tokens lines = get_or (map (λ (l : Line). l.tokens) lines) 0 []

-- the first line of a kind
pub record IsFirstOf (kind : LineKind) (lines : List Line) : Type 0 where
  pub front : List Line
  pub line : Line
  pub rest : List Line
  pub parts : lines ≡ front ++ line ∷ rest
  pub same : is_kind kind line ≡ true
  pub tokens : line.tokens ≡ tokens_at lines kind 0

pub first_of : (kind : LineKind) (lines : List Line) → 0 < length (tokens_at lines kind 0) → IsFirstOf kind lines
first_of kind [] some' = absurd (omega (arith, some'))
first_of kind (l ∷ ls) some' = ⊎_elim
    (λ yes'. record {
      front = [];
      line = l;
      rest = ls;
      parts = refl;
      same = yes';
      tokens = sym (ap (λ t. first_tokens (cond t (l ∷ filter (is_kind kind) ls) (filter (is_kind kind) ls))) yes');
    })
    (λ no'. let skipped : tokens_at (l ∷ ls) kind 0 ≡ tokens_at ls kind 0 =
    ap (λ t. first_tokens (cond t (l ∷ filter (is_kind kind) ls) (filter (is_kind kind) ls))) no' in
    let later = first_of kind ls (omega (arith, some', ap length skipped)) in
    record {
      front = l ∷ later.front;
      line = later.line;
      rest = later.rest;
      parts = ap (λ xs. l ∷ xs) later.parts;
      same = later.same;
      tokens = later.tokens ∙ sym skipped;
    })
    (cases_Bool (is_kind kind l))

kind_is : (kind : LineKind) → is_freecells kind ≡ true → kind ≡ Freecells
kind_is Foundations same = absurd (cc same)
kind_is Freecells same = refl
kind_is Column same = absurd (cc same)

too_many : (n before : ℕ) (line : Line) → line.kind ≡ Freecells → IsSound n before line → n < length line.tokens → ⊥
too_many n before line same sound more =
    sound TooManyCells (sound BadCard, subst (λ k. HasTooManyCells n k line.tokens) (sym same) more)

few_tokens : (n : ℕ) (lines : List Line) → AreSound n lines → length (tokens_at lines Freecells 0) ≤ n
few_tokens n lines sound = ⊎_elim
    (λ lt. let f = first_of Freecells lines (omega (arith, lt)) in
    absurd (too_many n (count_by (is_kind f.line.kind) f.front) f.line (kind_is f.line.kind f.same)
    (sound f.front f.rest f.line f.parts) (omega (arith, lt, ap length f.tokens))))
    (λ le. le)
    (cases_lt n (length (tokens_at lines Freecells 0)))

-- the cells past the game's are empty
pub spelled_fits : (n : ℕ) (lines : List Line) (b : Board) → AreSound n lines → SpellsBoard lines b → Fits n b
spelled_fits n lines b sound old i above = ⊎_elim
    (λ lt. ⊎_elim
    (λ there. absurd (omega (arith, few_tokens n lines sound, there.1, above)))
    (λ past. subst (λ r. SpellsCellAt r (cell b i)) past.1 (old.cells i lt))
    (slice_get_cases (tokens_at lines Freecells 0) i).1)
    (λ le. get_or_past b.cells i None (omega (arith, le, old.shape.cells)))
    (cases_lt i 4)
