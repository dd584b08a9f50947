-- Lines and their labels.
use Rattle.std.proofs.Common.{◌≡◌, ◌↔◌, ℕ, suc, ◌+◌, ◌-◌, ◌<◌, ◌==◌, Bool, true, false, not, cond, ◌&&◌, ◌⊎◌, List, [], ◌∷◌, ◌++◌, length, take, drop, refl, sym, ◌∙◌, ap, subst, inl, inr, ⊎_elim, arith}
use Rattle.std.specs.Prelude.{All, IsTrue, slice_index}
use Rattle.std.specs.List.{join_with_byte, onto_first, position_or_len, slice_split}
use Rattle.std.proofs.lemmas.List.{append_assoc, take-append-drop}
use Rattle.std.proofs.lemmas.List.Elements.{All-nil, All-cons, All-head, All-tail, All-append, All-take, All-drop}
use Rattle.std.proofs.lemmas.List.Splits.{slice_split_none, slice_split_at, length-slice_split}
use Rattle.std.proofs.lemmas.Bool.{cases_Bool, and_parts, eqb-true, ltb-true, cond_both, cond-true, cond-false}
use Rattle.std.proofs.lemmas.Bool.Decides.{nat_tests}
use Rattle.fc_text.specs.Line.{after_blanks, begin_part, is_blank, is_line_end, is_token, parts_of, without_return}
use Rattle.fc_typed.specs.Comment.{blanks_of}
use Rattle.fc_typed.specs.Tidy.{is_next_digit, tidy_lines, without_digit, without_label, without_labels}
use Rattle.fc_typed.proofs.AnyLemmas.{AnyOf}
use Rattle.fc_typed.proofs.TidyLemmas.{columns_after, labels_next, length-labels, told_line}

-- a line that loses its label
pub record IsLabelled (before : ℕ) (line : List ℕ) : Type 0 where
  pub blanks : List ℕ
  pub rest : List ℕ
  pub few : before < 8
  pub only_blanks : All (λ b. IsTrue (is_blank b)) blanks
  pub parts : line ≡ blanks ++ (49 + before) ∷ 58 ∷ rest
  pub told : without_label before line ≡ blanks ++ 58 ∷ rest

pub record LosesDigit (before : ℕ) (piece : List ℕ) : Type 0 where
  pub rest : List ℕ
  pub few : before < 8
  pub parts : piece ≡ (49 + before) ∷ 58 ∷ rest
  pub told : without_digit before piece ≡ 58 ∷ rest

digit_or_not : (before : ℕ) (piece : List ℕ) → LosesDigit before piece ⊎ (without_digit before piece ≡ piece)
digit_or_not before [] = inr refl
digit_or_not before (b ∷ []) = inr refl
digit_or_not before (b ∷ c ∷ bytes) = ⊎_elim
    (λ found.
    let tests = and_parts (is_next_digit before b) (c == 58) found in
    let digit = and_parts _ _ tests.0 in
    let here : b ≡ 49 + before = eqb-true b (49 + before) digit.1 in
    let colon : c ≡ 58 = eqb-true c 58 tests.1 in
    inl (record {
      rest = bytes;
      few = ltb-true before 8 digit.0;
      parts = ap (λ x. x ∷ c ∷ bytes) here ∙ ap (λ x. (49 + before) ∷ x ∷ bytes) colon;
      told = cond-true _ (c ∷ bytes) (b ∷ c ∷ bytes) found ∙ ap (λ x. x ∷ bytes) colon;
    }))
    (λ other. inr (cond-false _ (c ∷ bytes) (b ∷ c ∷ bytes) other))
    (cases_Bool (is_next_digit before b && (c == 58)))

-- what a line begins with are blanks
pub blanks_blank : (line : List ℕ) → All (λ b. IsTrue (is_blank b)) (blanks_of line)
blanks_blank [] = All-nil (λ b. IsTrue (is_blank b))
blanks_blank (b ∷ line) =
    let n = position_or_len (λ x. not (is_blank x)) line in
    let e : suc n ≡ 1 + n = omega arith in
    elim (is_blank b) as (λ t. is_blank b ≡ t → All (λ x. IsTrue (is_blank x)) (take (cond (not (not t)) (1 + n) 0) (b ∷ line))) [
      | true ↦ λ blank.
          subst (λ k. All (λ x. IsTrue (is_blank x)) (take k (b ∷ line))) e
          (All-cons (λ x. IsTrue (is_blank x)) b (blanks_of line) blank (blanks_blank line))
      | false ↦ λ _. All-nil (λ x. IsTrue (is_blank x))
    ] refl

-- a line loses its label, or stays
pub label_or_not : (before : ℕ) (line : List ℕ) → IsLabelled before line ⊎ (without_label before line ≡ line)
label_or_not before line =
    let whole : blanks_of line ++ after_blanks line ≡ line =
    take-append-drop (position_or_len (λ b. not (is_blank b)) line) line in
    ⊎_elim
    (λ found. inl (record {
      blanks = blanks_of line;
      rest = found.rest;
      few = found.few;
      only_blanks = blanks_blank line;
      parts = sym whole ∙ ap (λ t. blanks_of line ++ t) found.parts;
      told = ap (λ t. blanks_of line ++ t) found.told;
    }))
    (λ same. inr (ap (λ t. blanks_of line ++ t) same ∙ whole))
    (digit_or_not before (after_blanks line))

-- what stands behind the blanks of a line
pub after_blanks-front : (blanks : List ℕ) (c : ℕ) (rest : List ℕ) → All (λ b. IsTrue (is_blank b)) blanks → is_blank c ≡ false
    → after_blanks (blanks ++ c ∷ rest) ≡ c ∷ rest
after_blanks-front [] c rest blank other = rw other refl
after_blanks-front (b ∷ blanks) c rest blank other =
    let here : is_blank b ≡ true = All-head (λ x. IsTrue (is_blank x)) b blanks blank in
    let n = position_or_len (λ x. not (is_blank x)) (blanks ++ c ∷ rest) in
    let e : 1 + n ≡ suc n = omega arith in
    let size : position_or_len (λ x. not (is_blank x)) (b ∷ (blanks ++ c ∷ rest)) ≡ suc n =
    ap (λ t. cond (not (not t)) (1 + n) 0) here ∙ e in
    ap (λ k. drop k (b ∷ (blanks ++ c ∷ rest))) size
    ∙ after_blanks-front blanks c rest (All-tail (λ x. IsTrue (is_blank x)) b blanks blank) other

-- the CR that may end a line is its last byte
return_at : ℕ → List ℕ → List ℕ
return_at n line = cond (slice_index line n == 13) (take n line) line

return_at-cons : (n x : ℕ) (line : List ℕ) → return_at (suc n) (x ∷ line) ≡ x ∷ return_at n line
unfolding return_at
return_at-cons n x line =
    elim (slice_index line n == 13) as (λ t. cond t (x ∷ take n line) (x ∷ line) ≡ x ∷ cond t (take n line) line)
    [ true ↦ refl | false ↦ refl ]

pub return-cons : (x y : ℕ) (rest : List ℕ) → without_return (x ∷ y ∷ rest) ≡ x ∷ without_return (y ∷ rest)
unfolding return_at
return-cons x y rest =
    let two : length (x ∷ y ∷ rest) - 1 ≡ suc (length rest) = omega arith in
    let one : length rest ≡ length (y ∷ rest) - 1 = omega arith in
    ap (λ n. return_at n (x ∷ y ∷ rest)) two ∙ return_at-cons (length rest) x (y ∷ rest)
    ∙ ap (λ n. x ∷ return_at n (y ∷ rest)) one

pub return-other : (x : ℕ) (rest : List ℕ) → (x == 13) ≡ false → without_return (x ∷ rest) ≡ x ∷ without_return rest
return-other x [] other = cond-false _ [] (x ∷ []) other
return-other x (y ∷ rest) other = return-cons x y rest

pub return-front_of : (front : List ℕ) (c : ℕ) (rest : List ℕ) → (c == 13) ≡ false
    → without_return (front ++ c ∷ rest) ≡ front ++ c ∷ without_return rest
return-front_of [] c rest other = return-other c rest other
return-front_of (x ∷ []) c rest other = return-cons x c rest ∙ ap (λ t. x ∷ t) (return-other c rest other)
return-front_of (x ∷ y ∷ front) c rest other =
    return-cons x y (front ++ c ∷ rest) ∙ ap (λ t. x ∷ t) (return-front_of (y ∷ front) c rest other)

pub return-front : (front rest : List ℕ) → without_return (front ++ 58 ∷ rest) ≡ front ++ 58 ∷ without_return rest
return-front front rest = return-front_of front 58 rest refl

-- a labelled line without the CR that may end it
pub return-label : (before : ℕ) (line : List ℕ) (found : IsLabelled before line)
    → without_return line ≡ found.blanks ++ (49 + before) ∷ 58 ∷ without_return found.rest
return-label before line found =
    let digit = 49 + before in
    let blanks = found.blanks in
    ap without_return (found.parts ∙ sym (append_assoc blanks (digit ∷ []) (58 ∷ found.rest)))
    ∙ return-front (blanks ++ digit ∷ []) found.rest ∙ append_assoc blanks (digit ∷ []) (58 ∷ without_return found.rest)

-- a label's digit is no blank
pub digit_no_blank : (before : ℕ) → is_blank (49 + before) ≡ false
digit_no_blank before = grind (arith, nat_tests)

-- what stands behind the blanks of a labelled line
pub after_blanks-label : (before : ℕ) (line : List ℕ) (found : IsLabelled before line)
    → after_blanks (without_return line) ≡ (49 + before) ∷ 58 ∷ without_return found.rest
after_blanks-label before line found =
    ap after_blanks (return-label before line found)
    ∙ after_blanks-front found.blanks (49 + before) (58 ∷ without_return found.rest) found.only_blanks (digit_no_blank before)

-- the parts of a text are the pieces between its ends, but for an empty last one
pub trimmed : List (List ℕ) → List (List ℕ)
trimmed [] = []
trimmed (x ∷ []) = cond (is_token x) (x ∷ []) []
trimmed (x ∷ y ∷ ys) = x ∷ trimmed (y ∷ ys)

pub trimmed-cons : (x : List ℕ) (ys : List (List ℕ)) → 0 < length ys → trimmed (x ∷ ys) ≡ x ∷ trimmed ys
unfolding trimmed
trimmed-cons x [] some = absurd (omega arith)
trimmed-cons x (y ∷ ys) some = refl

trimmed-onto : (b : ℕ) (pieces : List (List ℕ)) → 0 < length pieces → begin_part b (trimmed pieces) ≡ trimmed (onto_first b pieces)
unfolding trimmed
trimmed-onto b [] some = absurd (omega arith)
trimmed-onto b ([] ∷ []) some = refl
trimmed-onto b ((c ∷ x) ∷ []) some = refl
trimmed-onto b (x ∷ y ∷ ys) some = refl

pub parts-split : (p : ℕ → Bool) (text : List ℕ) → parts_of p text ≡ trimmed (slice_split p text)
unfolding trimmed
parts-split p [] = refl
parts-split p (b ∷ text) =
    let pieces = slice_split p text in
    let some : 0 < length pieces = omega (arith, length-slice_split p text) in
    elim (p b) as (λ t. cond t ([] ∷ parts_of p text) (begin_part b (parts_of p text)) ≡ trimmed (cond t ([] ∷ pieces) (onto_first b pieces))) [
      | true ↦ ap (λ ls. [] ∷ ls) (parts-split p text) ∙ sym (trimmed-cons [] pieces some)
      | false ↦ ap (begin_part b) (parts-split p text) ∙ trimmed-onto b pieces some
    ]

-- lines that hold no LF
abbrev pub NoEnds : List (List ℕ) → Type 0
NoEnds [] = Unit {0}
NoEnds (x ∷ xs) = All (λ b. is_line_end b ≡ false) x × NoEnds xs

no_ends-onto : (b : ℕ) (pieces : List (List ℕ)) → is_line_end b ≡ false → NoEnds pieces → NoEnds (onto_first b pieces)
no_ends-onto b [] other none = (All-cons (λ x. is_line_end x ≡ false) b [] other (All-nil (λ x. is_line_end x ≡ false)), tt)
no_ends-onto b (x ∷ xs) other none = (All-cons (λ y. is_line_end y ≡ false) b x other none.0, none.1)

pub no_ends-split : (text : List ℕ) → NoEnds (slice_split is_line_end text)
no_ends-split [] = (All-nil (λ b. is_line_end b ≡ false), tt)
no_ends-split (b ∷ text) =
    cond_both (is_line_end b) ([] ∷ slice_split is_line_end text) (onto_first b (slice_split is_line_end text)) NoEnds
    (λ _. (All-nil (λ x. is_line_end x ≡ false), no_ends-split text))
    (λ other. no_ends-onto b (slice_split is_line_end text) other (no_ends-split text))

-- lines that are joined are cut again
pub split-joined : (lines : List (List ℕ)) → 0 < length lines → NoEnds lines → slice_split is_line_end (join_with_byte 10 lines) ≡ lines
split-joined [] some none = absurd (omega arith)
split-joined (x ∷ []) some none = slice_split_none is_line_end x none.0
split-joined (x ∷ y ∷ ys) some none =
    slice_split_at is_line_end x 10 (join_with_byte 10 (y ∷ ys)) none.0 refl
    ∙ ap (λ ls. x ∷ ls) (split-joined (y ∷ ys) (omega arith) none.1)

-- what holds of each byte of a line holds of each of what it is made
module _ (P : ℕ → Type 0) where
  digit_keeps : (before : ℕ) (piece : List ℕ) → All P piece → All P (without_digit before piece)
  digit_keeps before [] all = all
  digit_keeps before (b ∷ []) all = all
  digit_keeps before (b ∷ c ∷ bytes) all =
      cond_both (is_next_digit before b && (c == 58)) (c ∷ bytes) (b ∷ c ∷ bytes) (All P) (λ _. All-tail P b (c ∷ bytes) all) (λ _. all)

  told_keeps : (before : ℕ) (line : List ℕ) → All P line → All P (told_line before line)
  told_keeps before line all =
      let n = position_or_len (λ b. not (is_blank b)) line in
      cond_both _ (without_label before line) line (All P)
      (λ _. All-append P (blanks_of line) (without_digit before (after_blanks line)) (All-take P n line all)
      (digit_keeps before (after_blanks line) (All-drop P n line all)))
      (λ _. all)

pub no_ends-labels : (before : ℕ) (lines : List (List ℕ)) → NoEnds lines → NoEnds (without_labels before lines)
no_ends-labels before [] none = tt
no_ends-labels before (x ∷ xs) none =
    subst NoEnds (sym (labels_next before x xs))
    (told_keeps (λ b. is_line_end b ≡ false) before x none.0, no_ends-labels (columns_after before x) xs none.1)

-- a line is not emptied
some_token : (front : List ℕ) (b : ℕ) (rest : List ℕ) → is_token (front ++ b ∷ rest) ≡ true
some_token [] b rest = refl
some_token (x ∷ front) b rest = refl

token-told : (before : ℕ) (line : List ℕ) → is_token (told_line before line) ≡ is_token line
token-told before line =
    cond_both _ (without_label before line) line (λ t. is_token t ≡ is_token line)
    (λ _. ⊎_elim
    (λ found. ap is_token found.told ∙ some_token found.blanks 58 found.rest
    ∙ sym (ap is_token found.parts ∙ some_token found.blanks (49 + before) (58 ∷ found.rest)))
    (λ same. ap is_token same) (label_or_not before line))
    (λ _. refl)

trimmed-labels : (before : ℕ) (lines : List (List ℕ)) → trimmed (without_labels before lines) ≡ without_labels before (trimmed lines)
unfolding trimmed
trimmed-labels before [] = refl
trimmed-labels before (x ∷ []) =
    let told = told_line before x in
    ap trimmed (labels_next before x []) ∙ ap (λ t. cond t (told ∷ []) []) (token-told before x)
    ∙ elim (is_token x) as (λ t. cond t (told ∷ []) [] ≡ without_labels before (cond t (x ∷ []) [])) [
      | true ↦ sym (labels_next before x [])
      | false ↦ refl
    ]
trimmed-labels before (x ∷ y ∷ ys) =
    let after = columns_after before x in
    let some : 0 < length (without_labels after (y ∷ ys)) = omega (arith, length-labels after (y ∷ ys)) in
    ap trimmed (labels_next before x (y ∷ ys)) ∙ trimmed-cons (told_line before x) (without_labels after (y ∷ ys)) some
    ∙ ap (λ ls. told_line before x ∷ ls) (trimmed-labels after (y ∷ ys)) ∙ sym (labels_next before x (trimmed (y ∷ ys)))

-- the parts of a tidy text are the parts of the text without their labels
pub tidy_parts : (text : List ℕ) → parts_of is_line_end (tidy_lines text) ≡ without_labels 0 (parts_of is_line_end text)
tidy_parts text =
    let pieces = slice_split is_line_end text in
    let some : 0 < length (without_labels 0 pieces) =
    omega (arith, length-labels 0 pieces, length-slice_split is_line_end text) in
    parts-split is_line_end (tidy_lines text)
    ∙ ap trimmed (split-joined (without_labels 0 pieces) some (no_ends-labels 0 pieces (no_ends-split text)))
    ∙ trimmed-labels 0 pieces ∙ ap (without_labels 0) (sym (parts-split is_line_end text))

-- what holds of each part, and of the empty line, holds of each piece
pub trimmed-all : (Q : List ℕ → Type 0) (pieces : List (List ℕ)) → Q [] → All Q (trimmed pieces) → All Q pieces
unfolding trimmed
trimmed-all Q [] none all = all
trimmed-all Q ([] ∷ []) none all = All-cons Q [] [] none (All-nil Q)
trimmed-all Q ((b ∷ x) ∷ []) none all = all
trimmed-all Q (x ∷ y ∷ ys) none all =
    All-cons Q x (y ∷ ys) (All-head Q x (trimmed (y ∷ ys)) all) (trimmed-all Q (y ∷ ys) none (All-tail Q x (trimmed (y ∷ ys)) all))

-- what holds of one of the pieces, and not of the empty line, holds of one of the parts
pub trimmed-any : (P : List ℕ → Type 0) (pieces : List (List ℕ)) → (P [] → ⊥) → AnyOf P pieces ↔ AnyOf P (trimmed pieces)
unfolding trimmed
trimmed-any P [] none = (λ any. any, λ any. any)
trimmed-any P ([] ∷ []) none = (⊎_elim (λ here. none here) (λ there. there), λ any. absurd any)
trimmed-any P ((b ∷ x) ∷ []) none = (λ any. any, λ any. any)
trimmed-any P (x ∷ y ∷ ys) none =
    let more = trimmed-any P (y ∷ ys) none in
    (⊎_elim (λ here. inl here) (λ there. inr (more.0 there)), ⊎_elim (λ here. inl here) (λ there. inr (more.1 there)))

-- a line stays, wherever it stands
abbrev pub Stays : List ℕ → Type 0
Stays line = (before : ℕ) → told_line before line ≡ line

-- lines without labels stay
pub labels_stay : (before : ℕ) (lines : List (List ℕ)) → All Stays lines → without_labels before lines ≡ lines
labels_stay before [] all = refl
labels_stay before (x ∷ xs) all =
    labels_next before x xs ∙ ap (λ l. l ∷ without_labels (columns_after before x) xs) (All-head Stays x xs all before)
    ∙ ap (λ ls. x ∷ ls) (labels_stay (columns_after before x) xs (All-tail Stays x xs all))
