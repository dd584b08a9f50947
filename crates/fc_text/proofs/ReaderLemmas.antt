-- Reading the tokens of a line one by one.
use Rattle.std.proofs.Common.{◌≡◌, ℕ, zero, suc, ◌+◌, ◌≤◌, ◌<◌, Option, Some, None, Result, Ok, Err, List, [], ◌∷◌, ◌++◌, length, take, get_or, set, min, cond, eqb, ◌⊎◌, inl, inr, refl, sym, ◌∙◌, ap, subst, ⊎_elim, arith}
use Rattle.std.specs.Prelude.{IsOk, OnOk, OnErr, slice_get}
use Rattle.std.proofs.lemmas.Option.{slice_get_within, get_or_from_slice_get, slice_get-get_or}
use Rattle.std.specs.List.{AllZip}
use Rattle.std.proofs.lemmas.List.{append_assoc, append-nil, get_or_append_left, get_or_push, get_or-set_other, get_or-set_same, length_push, length-set, length-take, take_all, take-append-le}
use Rattle.std.proofs.lemmas.List.Sums.{sum_by_push}
use Rattle.std.proofs.lemmas.Bool.{cases_lt}
use Rattle.fc_position.specs.Board.{count_in_column, count_in_cell}
use Rattle.fc_position.specs.Tally.{Adds}
use Rattle.fc_position.proofs.TallyLemmas.{adds_more, adds_same}
use Rattle.fc_text.specs.Line.{tokens_of}
use Rattle.fc_text.specs.inner.Reading.{ReadsCells, ReadsColumn, IsTally}
use Rattle.fc_text.specs.Spelling.{SpellsCard, SpellsCell}

-- what a clause says of an `Ok`, where the result is one
pub on_ok : {A E P : Type 0} (r : Result A E) → IsOk r → OnOk r P → P
on_ok (Ok x) yes' p = p
on_ok (Err e) yes' p = absurd (cc yes')

pub on_err : {A E P : Type 0} (r : Result A E) → (IsOk r → ⊥) → OnErr r P → P
on_err (Ok x) other p = absurd (other refl)
on_err (Err e) other p = p

-- one more pair of elements that go together
pub zip_push : {A B : Type 0} (R : A → B → Type 0) (xs : List A) (ys : List B) (x : A) (y : B) → AllZip R xs ys → R x y
    → AllZip R (xs ++ x ∷ []) (ys ++ y ∷ [])
zip_push R [] [] x y zip here = (here, tt)
zip_push R [] (b ∷ ys) x y zip here = absurd zip
zip_push R (a ∷ xs) [] x y zip here = absurd zip
zip_push R (a ∷ xs) (b ∷ ys) x y zip here = (zip.0, zip_push R xs ys x y zip.1 here)

-- what the reader of a column line keeps from token to token: those so far are read, and the others are left
pub record ColumnSoFar (piece rest kept old new : List ℕ) : Type 0 where
  pub tokens : List (List ℕ)
  pub parts : tokens ++ tokens_of rest ≡ tokens_of piece
  pub read : ReadsColumn tokens kept old new

pub column_none : (piece rest kept tally : List ℕ) → rest ≡ piece → kept ≡ [] → IsTally tally → ColumnSoFar piece rest kept tally tally
column_none piece rest kept tally same none small = record {
  tokens = [];
  parts = ap tokens_of same;
  read = record {
    cards = [];
    spelled = tt;
    front = none;
    counted = λ c below. omega (arith, small c below);
  };
}

-- one more card, of which room for 52 keeps a front
kept_next : (cards kept next : List ℕ) (card : ℕ) → kept ≡ take 52 cards → (length kept < 52 → next ≡ kept ++ card ∷ [])
    → (52 ≤ length kept → next ≡ kept) → next ≡ take 52 (cards ++ card ∷ [])
kept_next cards kept next card front room full =
    let size = ap length front ∙ length-take 52 cards in
    ⊎_elim
    (λ lt. let all : kept ≡ cards = front ∙ take_all 52 cards (omega arith) in
    room (omega arith) ∙ ap (λ k. k ++ card ∷ []) all ∙ sym (take_all 52 (cards ++ card ∷ []) (omega (arith, length_push cards card))))
    (λ le. full (omega arith) ∙ front ∙ sym (take-append-le 52 cards (card ∷ []) le))
    (cases_lt (length cards) 52)

pub column_next : (piece rest after kept next old mid new token : List ℕ) (card : ℕ) → ColumnSoFar piece rest kept old mid
    → tokens_of rest ≡ token ∷ tokens_of after → SpellsCard token card → Adds (λ c. count_in_cell c (Some card)) mid new
    → (length kept < 52 → next ≡ kept ++ card ∷ []) → (52 ≤ length kept → next ≡ kept)
    → ColumnSoFar piece after next old new
column_next piece rest after kept next old mid new token card so first spelled adds room full = record {
  tokens = so.tokens ++ token ∷ [];
  parts = append_assoc so.tokens (token ∷ []) (tokens_of after) ∙ ap (λ t. so.tokens ++ t) (sym first) ∙ so.parts;
  read = record {
    cards = so.read.cards ++ card ∷ [];
    spelled = zip_push SpellsCard so.tokens so.read.cards token card so.read.spelled spelled;
    front = kept_next so.read.cards kept next card so.read.front room full;
    counted =
        adds_same (λ c. count_in_column c so.read.cards + count_in_cell c (Some card)) (λ c. count_in_column c (so.read.cards ++ card ∷ [])) old new
        (λ c below. sym (sum_by_push (λ x. cond (eqb x c) 1 0) so.read.cards card))
        (adds_more (λ c. count_in_column c so.read.cards) (λ c. count_in_cell c (Some card)) old mid new so.read.counted adds);
  };
}

pub column_all : (piece rest kept old new : List ℕ) → ColumnSoFar piece rest kept old new → tokens_of rest ≡ []
    → ReadsColumn (tokens_of piece) kept old new
column_all piece rest kept old new so none =
    subst (λ t. ReadsColumn t kept old new) (sym (append-nil so.tokens) ∙ ap (λ t. so.tokens ++ t) (sym none) ∙ so.parts) so.read

-- what the reader of a cell line keeps from token to token
pub record CellsSoFar (piece rest : List ℕ) (kept : List (Option ℕ)) (count : ℕ) : Type 0 where
  pub tokens : List (List ℕ)
  pub parts : tokens ++ tokens_of rest ≡ tokens_of piece
  pub read : ReadsCells tokens kept count

-- four empty cells are empty at every number
all_empty : (i : ℕ) → get_or {A = Option ℕ} (None ∷ None ∷ None ∷ None ∷ []) i None ≡ None
all_empty zero = refl
all_empty (suc zero) = refl
all_empty (suc (suc zero)) = refl
all_empty (suc (suc (suc zero))) = refl
all_empty (suc (suc (suc (suc i)))) = refl

pub cells_none : (piece rest : List ℕ) (kept : List (Option ℕ)) (count : ℕ) → rest ≡ piece → kept ≡ None ∷ None ∷ None ∷ None ∷ []
    → count ≡ 0 → CellsSoFar piece rest kept count
cells_none piece rest kept count same none zero' = rw (none, zero') (record {
  tokens = [];
  parts = ap tokens_of same;
  read = record {
    counted = refl;
    four = refl;
    read = λ i token found. absurd (cc found);
    empty = λ i past. all_empty i;
  };
})

-- the element at an index of a list with one more element
pub at_push : {A : Type 0} (xs : List A) (y x : A) (i : ℕ) → slice_get (xs ++ y ∷ []) i ≡ Some x
    → ((i < length xs) × (slice_get xs i ≡ Some x)) ⊎ ((i ≡ length xs) × (y ≡ x))
at_push xs y x i found =
    let within = slice_get_within (xs ++ y ∷ []) i x found in
    let value = get_or_from_slice_get (xs ++ y ∷ []) i x y found in
    ⊎_elim
    (λ lt. inl (lt, slice_get-get_or xs i y lt ∙ ap (λ v. Some v) (sym (get_or_append_left xs (y ∷ []) y i lt) ∙ value)))
    (λ le. let last : i ≡ length xs = omega (arith, within, length_push xs y) in
    inr (last, sym (get_or_push xs y y i (sym last)) ∙ value))
    (cases_lt i (length xs))

pub cells_next : (piece rest after : List ℕ) (kept next : List (Option ℕ)) (count : ℕ) (token : List ℕ) (held : Option ℕ)
    → CellsSoFar piece rest kept count → tokens_of rest ≡ token ∷ tokens_of after → SpellsCell token held
    → (count < 4 → next ≡ set kept count held) → (4 ≤ count → next ≡ kept) → (new : ℕ) → new ≡ min (count + 1) 5
    → CellsSoFar piece after next new
cells_next piece rest after kept next count token held so first spelled here past new e = record {
  tokens = so.tokens ++ token ∷ [];
  parts = append_assoc so.tokens (token ∷ []) (tokens_of after) ∙ ap (λ t. so.tokens ++ t) (sym first) ∙ so.parts;
  read = record {
    counted = omega (arith, so.read.counted, e, length_push so.tokens token);
    four = ⊎_elim (λ lt. ap length (here lt) ∙ length-set kept count held ∙ so.read.four)
        (λ le. ap length (past le) ∙ so.read.four) (cases_lt count 4);
    read = λ i other found.
        ⊎_elim
        (λ (before, at). let old = so.read.read i other at in (
          old.0,
          old.1,
          λ four. ⊎_elim
              (λ lt. ap (λ k. get_or k i None) (here lt)
              ∙ get_or-set_other kept count i held None (λ q. omega (arith, so.read.counted, q, before, lt)) ∙ old.2 four)
              (λ le. ap (λ k. get_or k i None) (past le) ∙ old.2 four) (cases_lt count 4),
        ))
        (λ (last, same). (
          held,
          subst (λ t. SpellsCell t held) same spelled,
          λ four.
              let now : i ≡ count = omega (arith, last, so.read.counted, four) in
              ap (λ k. get_or k i None) (here (omega arith)) ∙ ap (λ k. get_or (set kept count held) k None) now
              ∙ get_or-set_same kept count held None (omega (arith, so.read.four)),
        ))
        (at_push so.tokens token other i found);
    empty = λ i beyond.
        let old = so.read.empty i (omega (arith, length_push so.tokens token)) in
        ⊎_elim
        (λ lt. ap (λ k. get_or k i None) (here lt)
        ∙ get_or-set_other kept count i held None (λ q. omega (arith, so.read.counted, q, lt, length_push so.tokens token)) ∙ old)
        (λ le. ap (λ k. get_or k i None) (past le) ∙ old) (cases_lt count 4);
  };
}

pub cells_all : (piece rest : List ℕ) (kept : List (Option ℕ)) (count : ℕ) → CellsSoFar piece rest kept count → tokens_of rest ≡ []
    → ReadsCells (tokens_of piece) kept count
cells_all piece rest kept count so none =
    subst (λ t. ReadsCells t kept count) (sym (append-nil so.tokens) ∙ ap (λ t. so.tokens ++ t) (sym none) ∙ so.parts) so.read
