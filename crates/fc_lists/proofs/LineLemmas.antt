-- The lines of a text, one after the other.
use Rattle.std.proofs.Common.{◌≡◌, ◌∙◌, ℕ, zero, suc, ◌+◌, ◌<◌, ◌≤◌, Bool, true, false, cond, Some, None, List, [], ◌∷◌, ◌++◌, length, take, drop, refl, sym, ap, arith, ⊎_elim}
use Rattle.std.specs.Prelude.{nat_lt, not, position}
use Rattle.std.specs.List.{join_with_byte, position_or_len, slice_split}
use Rattle.std.proofs.lemmas.List.Splits.{slice_split_first, slice_split_none}
use Rattle.std.proofs.lemmas.List.Sums.{fails_before_first}
use Rattle.std.proofs.lemmas.Bool.{cases_Bool, cond-true, cond-false, ltb-true, ltb-false}
use Rattle.fc_text.specs.Line.{is_line_end}
use Rattle.fc_lists.specs.Alone.{behind_marked, ends_entries, is_ruled, text_lines}
use Rattle.fc_lists.specs.inner.Spaces.{lines_left, number_behind}
use Rattle.fc_lists.specs.declared.letter_lines.LetterLines.{LetterLines}

-- a line before others
pub join-cons : (line : List ℕ) (lines : List (List ℕ)) → 0 < length lines
    → join_with_byte 10 (line ∷ lines) ≡ line ++ 10 ∷ join_with_byte 10 lines
join-cons line [] some = absurd (omega arith)
join-cons line (x ∷ xs) some = refl

-- where the first byte of a kind stands
first_at : (p : ℕ → Bool) (rest : List ℕ) (len : ℕ) → position p rest ≡ Some len
    → (position_or_len p rest < length rest) × (position_or_len p rest ≡ len)
first_at p rest len found = ⊎_elim
    (λ here. let e : Some (position_or_len p rest) ≡ Some len = sym (cond-true _ _ _ here) ∙ found in
    (ltb-true (position_or_len p rest) (length rest) here, cc e))
    (λ none. absurd (cc (sym (cond-false _ (Some (position_or_len p rest)) None none) ∙ found)))
    (cases_Bool (nat_lt (position_or_len p rest) (length rest)))

-- where there is none
none_at : (p : ℕ → Bool) (rest : List ℕ) → position p rest ≡ None → length rest ≤ position_or_len p rest
none_at p rest none = ⊎_elim
    (λ here. absurd (cc (sym (cond-true _ (Some (position_or_len p rest)) None here) ∙ none)))
    (λ no. ltb-false (position_or_len p rest) (length rest) no)
    (cases_Bool (nat_lt (position_or_len p rest) (length rest)))

-- a text that has an end of line is its first line, and the lines of what follows
pub first_line : (rest after : List ℕ) (len : ℕ) → position is_line_end rest ≡ Some len → after ≡ drop (len + 1) rest
    → text_lines rest ≡ take len rest ∷ text_lines after
first_line rest after len found left =
    let at = first_at is_line_end rest len found in
    slice_split_first is_line_end rest 0 at.0
    ∙ ap (λ n. take n rest ∷ slice_split is_line_end (drop (n + 1) rest)) at.1
    ∙ ap (λ t. take len rest ∷ slice_split is_line_end t) (sym left)

-- a text that has none is one line
pub one_line : (rest : List ℕ) → position is_line_end rest ≡ None → text_lines rest ≡ rest ∷ []
one_line rest none =
    let far = none_at is_line_end rest none in
    slice_split_none is_line_end rest (λ k d within. fails_before_first is_line_end rest k d (omega arith))

-- tests of what is below
less_is : (a b : ℕ) → a < b → nat_lt a b ≡ true
less_is a b less = ⊎_elim (λ is. is) (λ no. absurd (omega (arith, ltb-false a b no, less))) (cases_Bool (nat_lt a b))

not_less_is : (a b : ℕ) → b ≤ a → nat_lt a b ≡ false
not_less_is a b most = ⊎_elim (λ is. absurd (omega (arith, ltb-true a b is, most))) (λ no. no) (cases_Bool (nat_lt a b))

-- the first line with entries, past one that may be marked
first_next : (n number first : ℕ) (t : Bool)
    → cond (nat_lt 0 (cond (nat_lt 0 n) (n + 1) (cond t 1 0))) (number + cond (nat_lt 0 n) (n + 1) (cond t 1 0)) first
    ≡ cond (nat_lt 0 n) ((number + 1) + n) (cond t (number + 1) first)
first_next zero number first true = refl
first_next zero number first false = refl
first_next (suc n) number first t =
    let here : nat_lt 0 (suc n) ≡ true = less_is 0 (suc n) (omega arith) in
    let next : nat_lt 0 (suc n + 1) ≡ true = less_is 0 (suc n + 1) (omega arith) in
    let m : cond (nat_lt 0 (suc n)) (suc n + 1) (cond t 1 0) ≡ suc n + 1 = cond-true _ _ _ here in
    let same : number + (suc n + 1) ≡ (number + 1) + suc n = omega arith in
    ap (λ k. cond (nat_lt 0 k) (number + k) first) m ∙ cond-true _ _ _ next ∙ same ∙ sym (cond-true _ _ _ here)

-- the end, past a line that is none
end_next : (number k size : ℕ)
    → number_behind number (cond (nat_lt (1 + k) (suc size)) (Some (1 + k)) None) ≡ number_behind (number + 1) (cond (nat_lt k size) (Some k) None)
end_next number k size = ⊎_elim
    (λ is.
    let less = ltb-true k size is in
    let next : nat_lt (1 + k) (suc size) ≡ true = less_is (1 + k) (suc size) (omega (arith, less)) in
    let same : number + (1 + k) ≡ (number + 1) + k = omega arith in
    ap (λ t. number_behind number (cond t (Some (1 + k)) None)) next ∙ ap Some same ∙ sym (ap (λ t. number_behind (number + 1) (cond t (Some k) None)) is))
    (λ no.
    let most = ltb-false k size no in
    let next : nat_lt (1 + k) (suc size) ≡ false = not_less_is (1 + k) (suc size) (omega (arith, most)) in
    ap (λ t. number_behind number (cond t (Some (1 + k)) None)) next ∙ sym (ap (λ t. number_behind (number + 1) (cond t (Some k) None)) no))
    (cases_Bool (nat_lt k size))

module _ (ends marks : List ℕ → Bool) where
  abbrev left : ℕ → ℕ → List (List ℕ) → LetterLines
  left first number lines = record {
    first = cond (nat_lt 0 (behind_marked ends marks lines)) (number + behind_marked ends marks lines) first;
    end = number_behind number (position ends lines);
  }

  -- the first line that is left ends them
  end_here : (first number : ℕ) (line : List ℕ) (lines : List (List ℕ)) → ends line ≡ true
      → left first number (line ∷ lines) ≡ record { first = first; end = Some number }
  end_here first number line lines is =
      let n = behind_marked ends marks lines in
      let k = position_or_len ends lines in
      let none : behind_marked ends marks (line ∷ lines) ≡ 0 = ap (λ t. cond t 0 (cond (nat_lt 0 n) (n + 1) (cond (marks line) 1 0))) is in
      let a : cond (nat_lt 0 (behind_marked ends marks (line ∷ lines))) (number + behind_marked ends marks (line ∷ lines)) first ≡ first =
      ap (λ m. cond (nat_lt 0 m) (number + m) first) none in
      let at : position_or_len ends (line ∷ lines) ≡ 0 = ap (λ t. cond (not t) (1 + k) 0) is in
      let b : position ends (line ∷ lines) ≡ Some 0 =
      ap (λ m. cond (nat_lt m (length (line ∷ lines))) (Some m) None) at ∙ cond-true _ _ _ (less_is 0 (length (line ∷ lines)) (omega arith)) in
      let same : number + 0 ≡ number = omega arith in
      let c : number_behind number (position ends (line ∷ lines)) ≡ Some number = ap (number_behind number) b ∙ ap Some same in
      cc (a, c)

  -- the others are left behind one that doesn't
  end_later : (first number : ℕ) (line : List ℕ) (lines : List (List ℕ)) → ends line ≡ false
      → left first number (line ∷ lines) ≡ left (cond (marks line) (number + 1) first) (number + 1) lines
  end_later first number line lines is =
      let n = behind_marked ends marks lines in
      let k = position_or_len ends lines in
      let m : behind_marked ends marks (line ∷ lines) ≡ cond (nat_lt 0 n) (n + 1) (cond (marks line) 1 0) =
      ap (λ t. cond t 0 (cond (nat_lt 0 n) (n + 1) (cond (marks line) 1 0))) is in
      let a : cond (nat_lt 0 (behind_marked ends marks (line ∷ lines))) (number + behind_marked ends marks (line ∷ lines)) first
      ≡ cond (nat_lt 0 n) ((number + 1) + n) (cond (marks line) (number + 1) first) =
      ap (λ x. cond (nat_lt 0 x) (number + x) first) m ∙ first_next n number first (marks line) in
      let at : position_or_len ends (line ∷ lines) ≡ 1 + k = ap (λ t. cond (not t) (1 + k) 0) is in
      let b : position ends (line ∷ lines) ≡ cond (nat_lt (1 + k) (suc (length lines))) (Some (1 + k)) None =
      ap (λ x. cond (nat_lt x (length (line ∷ lines))) (Some x) None) at in
      let c : number_behind number (position ends (line ∷ lines)) ≡ number_behind (number + 1) (position ends lines) =
      ap (number_behind number) b ∙ end_next number k (length lines) in
      cc (a, c)

-- the end of a solver's entries
pub ends_here : (first number : ℕ) (rest : List ℕ) (len : ℕ) (whole : LetterLines) → position is_line_end rest ≡ Some len → ends_entries (take len rest) ≡ true
    → lines_left first number (text_lines rest) ≡ whole → record { first = first; end = Some number } ≡ whole
ends_here first number rest len whole found is so =
    sym (end_here ends_entries is_ruled first number (take len rest) (text_lines (drop (len + 1) rest)) is)
    ∙ ap (lines_left first number) (sym (first_line rest (drop (len + 1) rest) len found refl)) ∙ so

-- a line before it, which may be ruled
pub ends_later : (first next number : ℕ) (rest after : List ℕ) (len : ℕ) (whole : LetterLines) (t : Bool) → position is_line_end rest ≡ Some len
    → after ≡ drop (len + 1) rest → ends_entries (take len rest) ≡ false → is_ruled (take len rest) ≡ t → next ≡ cond t (number + 1) first
    → lines_left first number (text_lines rest) ≡ whole → lines_left next (number + 1) (text_lines after) ≡ whole
ends_later first next number rest after len whole t found cut is ruled new so =
    let step = end_later ends_entries is_ruled first number (take len rest) (text_lines after) is in
    let same : next ≡ cond (is_ruled (take len rest)) (number + 1) first = new ∙ ap (λ b. cond b (number + 1) first) (sym ruled) in
    ap (λ f. lines_left f (number + 1) (text_lines after)) same ∙ sym step ∙ ap (lines_left first number) (sym (first_line rest after len found cut)) ∙ so
