-- What one line more spells.
use Rattle.std.proofs.Common.{◌≡◌, ℕ, ◌+◌, ◌-◌, ◌≤◌, ◌<◌, true, false, List, [], ◌∷◌, ◌++◌, length, map, get_or, cond, sym, ◌∙◌, ap, ⊎_elim, arith}
use Rattle.std.specs.Prelude.{filter, count_by}
use Rattle.std.proofs.lemmas.List.{map-append, length-map, get_or_append_left, get_or-append_right, get_or_past, length_push, append-nil}
use Rattle.std.proofs.lemmas.List.Elements.{filter-append}
use Rattle.std.proofs.lemmas.List.Sums.{length-filter, sum_by_push}
use Rattle.std.proofs.lemmas.Bool.{cases_lt}
use Rattle.std.proofs.Math.Nat.{eq-or-lt_of_le}
use Rattle.fc_text.specs.declared.lines.LineKind.{LineKind}
use Rattle.fc_text.specs.Line.{Line, line_of, tokens_of}
use Rattle.fc_text.specs.Spelling.{is_kind, tokens_at}

-- a line of another kind changes no tokens of this kind
pub tokens_at-other : (lines : List Line) (line : Line) (kind : LineKind) (i : ℕ) → is_kind kind line ≡ false
    → tokens_at (lines ++ line ∷ []) kind i ≡ tokens_at lines kind i
tokens_at-other lines line kind i other =
    let kept : filter (is_kind kind) (lines ++ line ∷ []) ≡ filter (is_kind kind) lines =
    filter-append (is_kind kind) lines (line ∷ [])
    ∙ ap (λ t. filter (is_kind kind) lines ++ cond t (line ∷ []) []) other
    ∙ append-nil (filter (is_kind kind) lines) in
    ap (λ ls. get_or (map (λ (l : Line). l.tokens) ls) i []) kept

-- how many lines of a kind there are, with one more
pub kind_more : (lines : List Line) (line : Line) (kind : LineKind) → is_kind kind line ≡ true
    → count_by (is_kind kind) (lines ++ line ∷ []) ≡ count_by (is_kind kind) lines + 1
kind_more lines line kind same =
    sum_by_push (λ l. cond (is_kind kind l) 1 0) lines line ∙ ap (λ t. count_by (is_kind kind) lines + cond t 1 0) same

pub kind_same : (lines : List Line) (line : Line) (kind : LineKind) → is_kind kind line ≡ false
    → count_by (is_kind kind) (lines ++ line ∷ []) ≡ count_by (is_kind kind) lines
kind_same lines line kind other =
    sum_by_push (λ l. cond (is_kind kind l) 1 0) lines line ∙ ap (λ t. count_by (is_kind kind) lines + cond t 1 0) other
    ∙ omega arith

-- the tokens of the lines of a kind, with one more
kept-more : (lines : List Line) (line : Line) (kind : LineKind) → is_kind kind line ≡ true
    → map (λ (l : Line). l.tokens) (filter (is_kind kind) (lines ++ line ∷ []))
    ≡ map (λ (l : Line). l.tokens) (filter (is_kind kind) lines) ++ line.tokens ∷ []
kept-more lines line kind same =
    ap (map (λ (l : Line). l.tokens)) (filter-append (is_kind kind) lines (line ∷ [])
    ∙ ap (λ t. filter (is_kind kind) lines ++ cond t (line ∷ []) []) same)
    ∙ map-append (λ (l : Line). l.tokens) (filter (is_kind kind) lines) (line ∷ [])

kept-count : (lines : List Line) (kind : LineKind)
    → length (map (λ (l : Line). l.tokens) (filter (is_kind kind) lines)) ≡ count_by (is_kind kind) lines
kept-count lines kind =
    length-map (filter (is_kind kind) lines) (λ (l : Line). l.tokens) ∙ length-filter (is_kind kind) lines

-- a line of this kind is the next of its kind
pub tokens_at-next : (lines : List Line) (line : Line) (kind : LineKind) (i : ℕ) → is_kind kind line ≡ true
    → i ≡ count_by (is_kind kind) lines → tokens_at (lines ++ line ∷ []) kind i ≡ line.tokens
tokens_at-next lines line kind i same place =
    ap (λ ts. get_or ts i []) (kept-more lines line kind same)
    ∙ get_or-append_right (map (λ (l : Line). l.tokens) (filter (is_kind kind) lines)) (line.tokens ∷ []) i i [] (kept-count lines kind ∙ sym place) (omega arith)
    ∙ (let first : i - i ≡ 0 = omega arith in ap (λ k. get_or (line.tokens ∷ []) k []) first)

cases_past : {size count i : ℕ} → size ≤ i → size ≡ count → (i ≡ count → ⊥) → size < i
cases_past {size} {count} {i} le same other = ⊎_elim (λ (e : size ≡ i). absurd (other (sym e ∙ same))) (λ lt. lt) (eq-or-lt_of_le le)

-- and the lines before it stay
pub tokens_at-before : (lines : List Line) (line : Line) (kind : LineKind) (i : ℕ) → is_kind kind line ≡ true
    → (i ≡ count_by (is_kind kind) lines → ⊥) → tokens_at (lines ++ line ∷ []) kind i ≡ tokens_at lines kind i
tokens_at-before lines line kind i same other =
    let before = map (λ (l : Line). l.tokens) (filter (is_kind kind) lines) in
    ap (λ ts. get_or ts i []) (kept-more lines line kind same)
    ∙ ⊎_elim (λ lt. get_or_append_left before (line.tokens ∷ []) [] i lt)
    (λ le. let past : length before < i = cases_past le (kept-count lines kind) other in
    get_or_past (before ++ line.tokens ∷ []) i [] (omega (arith, past, length_push before line.tokens))
    ∙ sym (get_or_past before i [] le))
    (cases_lt i (length before))

-- past the last line of a kind there are no tokens
pub tokens_at-past : (lines : List Line) (kind : LineKind) (i : ℕ) → count_by (is_kind kind) lines ≤ i → tokens_at lines kind i ≡ []
tokens_at-past lines kind i past =
    get_or_past (map (λ (l : Line). l.tokens) (filter (is_kind kind) lines)) i [] (omega (arith, kept-count lines kind))

abbrev with_kind : LineKind → List (List ℕ) → Line
with_kind k tokens = record { kind = k; tokens = tokens }

-- what line it is, where its kind is told
pub line_is : (line : List ℕ) (told : LineKind) (piece : List ℕ) (kind : LineKind)
    → line_of line ≡ record { kind = told; tokens = tokens_of piece } → told ≡ kind
    → line_of line ≡ record { kind = kind; tokens = tokens_of piece }
line_is line told piece kind same is = same ∙ ap (λ (k : LineKind). with_kind k (tokens_of piece)) is
