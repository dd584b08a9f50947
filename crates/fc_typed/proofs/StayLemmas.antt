-- Texts that are tidy already, and how long tidy texts are.
use Rattle.std.proofs.Common.{◌≡◌, ℕ, zero, suc, ◌+◌, cond, ◌-◌, ◌<◌, ◌≤◌, not, None, List, [], ◌∷◌, length, refl, ◌∙◌, ap, arith}
use Rattle.std.specs.Prelude.{All}
use Rattle.std.specs.List.{join_with_byte, position_or_len, slice_split}
use Rattle.std.proofs.lemmas.List.{length-append, take-append-drop}
use Rattle.std.proofs.lemmas.List.Elements.{All-head, All-tail}
use Rattle.std.proofs.lemmas.List.Splits.{join_with_byte-slice_split}
use Rattle.std.proofs.lemmas.Bool.{ne_eqb, cond_both}
use Rattle.fc_text.specs.Line.{after_blanks, is_blank, is_line_end}
use Rattle.fc_typed.specs.Comment.{blanks_of, without_comments}
use Rattle.fc_typed.specs.Tidy.{after_mark, sign_of, sign_or, without_digit, without_label, without_labels, without_signs}
use Rattle.fc_typed.specs.Laws.{TidyTextsGrowByHalf}
use Rattle.fc_typed.specs.Respelled.{respelled_text}
use Rattle.fc_typed.specs.Title.{has_token, is_title, lines_without_title, without_title}
use Rattle.fc_typed.specs.Unit.{in_bytes}
use Rattle.fc_typed.proofs.CommentLemmas.{comments_long}
use Rattle.fc_typed.proofs.UnitLemmas.{in_bytes_long}
use Rattle.fc_typed.proofs.SortedLemmas.{text_grows}
use Rattle.fc_typed.proofs.TidyLemmas.{columns_after, join-cons, labels_next, length-labels, told_line}

mark_long : (text : List ℕ) → length (after_mark text) ≤ length text
mark_long [] = omega arith
mark_long (a ∷ []) = omega arith
mark_long (a ∷ b ∷ []) = omega arith
mark_long (a ∷ b ∷ c ∷ bytes) =
    cond_both _ bytes (a ∷ b ∷ c ∷ bytes) (λ t. length t ≤ length (a ∷ b ∷ c ∷ bytes)) (λ _. omega arith) (λ _. omega arith)

signs_long : (n : ℕ) (text : List ℕ) → length (without_signs n text) ≤ length text
signs_long n [] = omega arith
signs_long zero (b ∷ bytes) = omega (arith, signs_long ((sign_or b (sign_of (b ∷ bytes))).1 - 1) bytes)
signs_long (suc n) (b ∷ bytes) = omega (arith, signs_long n bytes)

digit_long : (before : ℕ) (piece : List ℕ) → length (without_digit before piece) ≤ length piece
digit_long before [] = omega arith
digit_long before (b ∷ []) = omega arith
digit_long before (b ∷ c ∷ bytes) =
    cond_both _ (c ∷ bytes) (b ∷ c ∷ bytes) (λ t. length t ≤ length (b ∷ c ∷ bytes)) (λ _. omega arith) (λ _. omega arith)

told_long : (before : ℕ) (line : List ℕ) → length (told_line before line) ≤ length line
told_long before line =
    cond_both _ (without_label before line) line (λ t. length t ≤ length line)
    (λ _. omega (
      arith,
      length-append (blanks_of line) (without_digit before (after_blanks line)),
      digit_long before (after_blanks line),
      length-append (blanks_of line) (after_blanks line),
      ap length (take-append-drop (position_or_len (λ b. not (is_blank b)) line) line),
    ))
    (λ _. omega arith)

labels_long : (before : ℕ) (lines : List (List ℕ)) → length (join_with_byte 10 (without_labels before lines)) ≤ length (join_with_byte 10 lines)
labels_long before [] = omega arith
labels_long before (x ∷ []) =
    omega (arith, ap (λ ls. length (join_with_byte 10 ls)) (labels_next before x []), told_long before x)
labels_long before (x ∷ y ∷ ys) =
    let after = columns_after before x in
    let others = without_labels after (y ∷ ys) in
    let some : 0 < length others = omega (arith, length-labels after (y ∷ ys)) in
    omega (
      arith,
      ap (λ ls. length (join_with_byte 10 ls)) (labels_next before x (y ∷ ys)),
      ap length (join-cons (told_line before x) others some),
      length-append (told_line before x) (10 ∷ join_with_byte 10 others),
      length-append x (10 ∷ join_with_byte 10 (y ∷ ys)),
      told_long before x,
      labels_long after (y ∷ ys),
    )

-- a line before others that have no title is joined to them by an LF
pub untitled_some : (lines : List (List ℕ)) → 0 < length lines → 0 < length (lines_without_title lines)
untitled_some [] some' = absurd (omega arith)
untitled_some (x ∷ []) some' = omega arith
untitled_some (x ∷ y ∷ ys) some' =
    cond_both (has_token x) (cond (is_title x) (y ∷ ys) (x ∷ y ∷ ys)) (x ∷ lines_without_title (y ∷ ys)) (λ ls. 0 < length ls)
    (λ _. cond_both (is_title x) (y ∷ ys) (x ∷ y ∷ ys) (λ ls. 0 < length ls) (λ _. omega arith) (λ _. omega arith))
    (λ _. omega arith)

untitled_joined : (x : List ℕ) (lines : List (List ℕ)) → 0 < length lines
    → length (join_with_byte 10 (x ∷ lines_without_title lines)) ≡ length x + (1 + length (join_with_byte 10 (lines_without_title lines)))
untitled_joined x lines some' =
    ap length (join-cons x (lines_without_title lines) (untitled_some lines some')) ∙ length-append x (10 ∷ join_with_byte 10 (lines_without_title lines)) ∙ omega arith

-- nor without its title
title_long : (lines : List (List ℕ)) → length (join_with_byte 10 (lines_without_title lines)) ≤ length (join_with_byte 10 lines)
title_long [] = omega arith
title_long (x ∷ []) = omega arith
title_long (x ∷ y ∷ ys) =
    let most = length (join_with_byte 10 (x ∷ y ∷ ys)) in
    let whole : most ≡ length x + length (10 ∷ join_with_byte 10 (y ∷ ys)) = length-append x (10 ∷ join_with_byte 10 (y ∷ ys)) in
    cond_both (has_token x) (cond (is_title x) (y ∷ ys) (x ∷ y ∷ ys)) (x ∷ lines_without_title (y ∷ ys)) (λ ls. length (join_with_byte 10 ls) ≤ most)
    (λ _. cond_both (is_title x) (y ∷ ys) (x ∷ y ∷ ys) (λ ls. length (join_with_byte 10 ls) ≤ most)
    (λ _. omega (arith, whole)) (λ _. omega arith))
    (λ _. omega (
      arith,
      whole,
      title_long (y ∷ ys),
      untitled_joined x (y ∷ ys) (omega arith),
    ))

-- a tidy text has at most half as many bytes again
pub grow_by_half : TidyTextsGrowByHalf
grow_by_half text =
    let bytes = in_bytes text in
    let spelled = without_signs 0 (after_mark bytes) in
    let said = without_comments spelled in
    let bare = without_title said in
    let told = respelled_text bare in (
      omega (
        arith,
        mark_long bytes,
        signs_long 0 (after_mark bytes),
        comments_long spelled,
        title_long (slice_split is_line_end said),
        ap length (join_with_byte-slice_split 10 said),
        text_grows bare,
        labels_long 0 (slice_split is_line_end told),
        ap length (join_with_byte-slice_split 10 told),
      ),
      in_bytes_long text,
    )

mark_stays : (text : List ℕ) → All (λ b. b < 128) text → after_mark text ≡ text
mark_stays [] ascii = refl
mark_stays (a ∷ []) ascii = refl
mark_stays (a ∷ b ∷ []) ascii = refl
mark_stays (a ∷ b ∷ c ∷ bytes) ascii =
    let below = All-head (λ b. b < 128) a (b ∷ c ∷ bytes) ascii in
    let other = ne_eqb a 239 (λ e. omega (arith, e, below)) in rw other refl

no_sign : (b : ℕ) (bytes : List ℕ) → b < 128 → sign_of (b ∷ bytes) ≡ None
no_sign b [] below = refl
no_sign b (c ∷ []) below = let other = ne_eqb b 194 (λ e. omega (arith, e, below)) in rw other refl
no_sign b (c ∷ d ∷ bytes) below =
    let one = ne_eqb b 226 (λ e. omega (arith, e, below)) in
    let two = ne_eqb b 194 (λ e. omega (arith, e, below)) in rw (one, two) refl

signs_stay : (text : List ℕ) → All (λ b. b < 128) text → without_signs 0 text ≡ text
signs_stay [] ascii = refl
signs_stay (b ∷ bytes) ascii =
    ap (λ s. (sign_or b s).0 ∷ without_signs ((sign_or b s).1 - 1) bytes) (no_sign b bytes (All-head (λ b. b < 128) b bytes ascii))
    ∙ ap (λ t. b ∷ t) (signs_stay bytes (All-tail (λ b. b < 128) b bytes ascii))

-- text of ASCII alone has no signs
pub ascii_stays : (text : List ℕ) → All (λ b. b < 128) text → without_signs 0 (after_mark text) ≡ text
ascii_stays text ascii = ap (without_signs 0) (mark_stays text ascii) ∙ signs_stay text ascii
