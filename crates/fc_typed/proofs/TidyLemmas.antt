-- What the loops over the signs and the lines of a text keep.
use Rattle.std.proofs.Common.{◌≡◌, ℕ, zero, suc, ◌+◌, ◌-◌, ◌<◌, ◌≤◌, Bool, true, false, cond, Some, None, List, [], ◌∷◌, ◌++◌, length, take, drop, refl, sym, ◌∙◌, ap, ⊎_elim, arith}
use Rattle.std.specs.Prelude.{nat_lt, position}
use Rattle.std.specs.List.{join_with_byte, position_or_len, slice_split}
use Rattle.std.proofs.lemmas.List.{append_assoc}
use Rattle.std.proofs.lemmas.List.Splits.{slice_split_first, slice_split_none, length-slice_split}
use Rattle.std.proofs.lemmas.List.Sums.{fails_before_first}
use Rattle.std.proofs.lemmas.Bool.{cases_Bool, cond-true, cond-false, ltb-true, ltb-false}
use Rattle.fc_text.specs.Line.{is_line_end}
use Rattle.fc_typed.specs.Tidy.{sign_of, sign_or, without_signs, is_column_line, without_label, without_labels}

-- bytes that are passed over are left out
passed : (n : ℕ) (bytes : List ℕ) → without_signs n bytes ≡ without_signs 0 (drop n bytes)
passed zero bytes = refl
passed (suc n) [] = refl
passed (suc n) (b ∷ bytes) = passed n bytes

-- a sign stands for its byte
sign_next : (rest : List ℕ) (letter len : ℕ) → sign_of rest ≡ Some (letter, len) → 0 < len → len ≤ length rest
    → without_signs 0 rest ≡ letter ∷ without_signs 0 (drop len rest)
sign_next [] letter len e some within = absurd (omega arith)
sign_next (b ∷ bytes) letter zero e some within = absurd (omega arith)
sign_next (b ∷ bytes) letter (suc n) e some within =
    let one : suc n - 1 ≡ n = omega arith in
    ap (λ s. (sign_or b s).0 ∷ without_signs ((sign_or b s).1 - 1) bytes) e
    ∙ ap (λ k. letter ∷ without_signs k bytes) one ∙ ap (λ t. letter ∷ t) (passed n bytes)

-- the text so far, once the byte of a sign was pushed
pub sign_pushed : (whole done rest after new : List ℕ) (letter len : ℕ) → done ++ without_signs 0 rest ≡ whole
    → sign_of rest ≡ Some (letter, len) → 0 < len → len ≤ length rest → new ≡ done ++ letter ∷ [] → after ≡ drop len rest
    → new ++ without_signs 0 after ≡ whole
sign_pushed whole done rest after new letter len so sign some within pushed left =
    ap (λ d. d ++ without_signs 0 after) pushed ∙ append_assoc done (letter ∷ []) (without_signs 0 after)
    ∙ ap (λ r. done ++ letter ∷ without_signs 0 r) left
    ∙ ap (λ t. done ++ t) (sym (sign_next rest letter len sign some within)) ∙ so

-- what a line that so many column lines stand before is made, and how many stand before the next one
abbrev pub told_line : ℕ → List ℕ → List ℕ
told_line before line = cond (is_column_line line) (without_label before line) line

abbrev pub columns_after : ℕ → List ℕ → ℕ
columns_after before line = cond (is_column_line line) (1 + before) before

-- the lines without their labels, one line on
pub labels_next : (before : ℕ) (line : List ℕ) (lines : List (List ℕ))
    → without_labels before (line ∷ lines) ≡ told_line before line ∷ without_labels (columns_after before line) lines
labels_next before line lines =
    elim (is_column_line line) as (λ t. cond t (without_label before line ∷ without_labels (1 + before) lines) (line ∷ without_labels before lines)
    ≡ cond t (without_label before line) line ∷ without_labels (cond t (1 + before) before) lines)
    [ true ↦ refl | false ↦ refl ]

-- there are as many lines as before
pub length-labels : (before : ℕ) (lines : List (List ℕ)) → length (without_labels before lines) ≡ length lines
length-labels before [] = refl
length-labels before (line ∷ lines) =
    let more = length-labels (columns_after before line) lines in
    ap length (labels_next before line lines) ∙ ap (λ n. suc n) more

-- a line before others is joined to them by an LF
pub join-cons : (line : List ℕ) (lines : List (List ℕ)) → 0 < length lines
    → join_with_byte 10 (line ∷ lines) ≡ line ++ 10 ∷ join_with_byte 10 lines
join-cons line [] some = absurd (omega arith)
join-cons line (x ∷ xs) some = refl

-- where the first byte of a kind stands
pub first_at : (p : ℕ → Bool) (rest : List ℕ) (len : ℕ) → position p rest ≡ Some len
    → (position_or_len p rest < length rest) × (position_or_len p rest ≡ len)
first_at p rest len found = ⊎_elim
    (λ yes. let e : Some (position_or_len p rest) ≡ Some len = sym (cond-true _ _ _ yes) ∙ found in
    (ltb-true (position_or_len p rest) (length rest) yes, cc e))
    (λ none. absurd (cc (sym (cond-false _ (Some (position_or_len p rest)) None none) ∙ found)))
    (cases_Bool (nat_lt (position_or_len p rest) (length rest)))

-- where there is none
pub none_at : (p : ℕ → Bool) (rest : List ℕ) → position p rest ≡ None → length rest ≤ position_or_len p rest
none_at p rest none = ⊎_elim
    (λ yes. absurd (cc (sym (cond-true _ (Some (position_or_len p rest)) None yes) ∙ none)))
    (λ no. ltb-false (position_or_len p rest) (length rest) no)
    (cases_Bool (nat_lt (position_or_len p rest) (length rest)))

-- a text that is cut somewhere is a first part, and the parts of what follows it
pub first_part : (p : ℕ → Bool) (rest after : List ℕ) (len : ℕ) → position p rest ≡ Some len → after ≡ drop (len + 1) rest
    → slice_split p rest ≡ take len rest ∷ slice_split p after
first_part p rest after len found left =
    let at = first_at p rest len found in
    slice_split_first p rest 0 at.0
    ∙ ap (λ n. take n rest ∷ slice_split p (drop (n + 1) rest)) at.1
    ∙ ap (λ t. take len rest ∷ slice_split p t) (sym left)

pub first_line : (rest after : List ℕ) (len : ℕ) → position is_line_end rest ≡ Some len → after ≡ drop (len + 1) rest
    → slice_split is_line_end rest ≡ take len rest ∷ slice_split is_line_end after
first_line rest after len found left = first_part is_line_end rest after len found left

-- the text so far, once a line and the LF behind it were pushed
pub line_pushed : (whole done rest after mid new : List ℕ) (before next len : ℕ)
    → done ++ join_with_byte 10 (without_labels before (slice_split is_line_end rest)) ≡ whole
    → position is_line_end rest ≡ Some len → after ≡ drop (len + 1) rest
    → mid ≡ done ++ told_line before (take len rest) → new ≡ mid ++ 10 ∷ []
    → next ≡ columns_after before (take len rest)
    → new ++ join_with_byte 10 (without_labels next (slice_split is_line_end after)) ≡ whole
line_pushed whole done rest after mid new before next len so found left pushed ended count =
    let line = take len rest in
    let others = slice_split is_line_end after in
    let tail = join_with_byte 10 (without_labels next others) in
    let some : 0 < length (without_labels next others) =
    omega (arith, length-labels next others, length-slice_split is_line_end after) in
    let cut : slice_split is_line_end rest ≡ line ∷ others =
    first_line rest after len found left in
    let told : without_labels before (slice_split is_line_end rest) ≡ told_line before line ∷ without_labels next others =
    ap (without_labels before) cut ∙ labels_next before line others
    ∙ ap (λ n. told_line before line ∷ without_labels n others) (sym count) in
    ap (λ t. t ++ tail) (ended ∙ ap (λ t. t ++ 10 ∷ []) pushed)
    ∙ append_assoc (done ++ told_line before line) (10 ∷ []) tail
    ∙ append_assoc done (told_line before line) (10 ∷ tail)
    ∙ ap (λ t. done ++ t) (sym (join-cons (told_line before line) (without_labels next others) some) ∙ sym (ap (join_with_byte 10) told))
    ∙ so

-- a text that is cut nowhere is one part
pub one_part : (p : ℕ → Bool) (rest : List ℕ) → position p rest ≡ None → slice_split p rest ≡ rest ∷ []
one_part p rest none =
    let far = none_at p rest none in
    slice_split_none p rest (λ k d within. fails_before_first p rest k d (omega arith))

pub one_line : (rest : List ℕ) → position is_line_end rest ≡ None → slice_split is_line_end rest ≡ rest ∷ []
one_line rest none = one_part is_line_end rest none

-- the whole text, once its last line was pushed
pub last_pushed : (whole done rest new : List ℕ) (before : ℕ)
    → done ++ join_with_byte 10 (without_labels before (slice_split is_line_end rest)) ≡ whole
    → position is_line_end rest ≡ None → new ≡ done ++ told_line before rest → new ≡ whole
last_pushed whole done rest new before so none pushed =
    let told : without_labels before (slice_split is_line_end rest) ≡ told_line before rest ∷ [] =
    ap (without_labels before) (one_line rest none) ∙ labels_next before rest [] in
    pushed ∙ ap (λ t. done ++ t) (sym (ap (join_with_byte 10) told)) ∙ so
