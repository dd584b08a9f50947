-- The lines of a tidy text are made of the typed lines.
use Rattle.std.proofs.Common.{◌≡◌, ℕ, zero, suc, ◌+◌, ◌-◌, ◌<◌, ◌≤◌, ◌==◌, ◌||◌, ◌&&◌, Bool, true, false, cond, Option, Some, None, List, [], ◌∷◌, ◌++◌, length, map, refl, sym, ◌∙◌, ap, subst, arith}
use Rattle.std.specs.Prelude.{option_map}
use Rattle.std.specs.List.{join_with_byte, slice_split}
use Rattle.std.proofs.lemmas.List.Splits.{join_with_byte-slice_split, length-slice_split}
use Rattle.std.proofs.lemmas.Bool.{and_parts, cond_both, eqb-true}
use Rattle.fc_text.specs.Line.{is_line_end}
use Rattle.fc_typed.specs.Comment.{is_comment, said_lines, without_comments}
use Rattle.fc_typed.specs.Laws.{TidyLinesAreTyped}
use Rattle.fc_typed.specs.Tidy.{after_mark, tidy, tidy_lines, selector_len, sign_of, sign_or, space_sign, suit_of_symbol, without_labels, without_signs}
use Rattle.fc_typed.specs.Respelled.{respelled_text, respelled_line}
use Rattle.fc_typed.specs.Title.{has_token, is_title, lines_without_title, without_title}
use Rattle.fc_typed.specs.Typed.{beside_title, said_of, lines_without_comments}
use Rattle.fc_typed.proofs.EndLemmas.{NoEnd, each_suit, respelled_keeps, said_keeps, signs_keep}
use Rattle.fc_typed.proofs.LineLemmas.{NoEnds, no_ends-labels, no_ends-split, split-joined}
use Rattle.fc_typed.proofs.TidyLemmas.{length-labels}

-- all three hold
three : (p q r : Bool) → (p && q && r) ≡ true → (p ≡ true) × (q ≡ true) × (r ≡ true)
three true true true so = (refl, refl, refl)
three true true false so = absurd (cc so)
three true false r so = absurd (cc so)
three false q r so = absurd (cc so)

-- a sign ends before an LF
selector_near : (bytes rest : List ℕ) → selector_len (bytes ++ 10 ∷ rest) ≡ selector_len bytes
selector_near [] [] = refl
selector_near [] (x ∷ []) = refl
selector_near [] (x ∷ y ∷ rest) = refl
selector_near (a ∷ []) [] = refl
selector_near (a ∷ []) (x ∷ rest) =
    cond_both _ 3 0 (λ n. n ≡ 0) (λ so. absurd (cc (three (a == 239) (10 == 184) ((x == 142) || (x == 143)) so).1)) (λ _. refl)
selector_near (a ∷ b ∷ []) rest =
    cond_both _ 3 0 (λ n. n ≡ 0) (λ so. absurd (cc (three (a == 239) (b == 184) ((10 == 142) || (10 == 143)) so).2)) (λ _. refl)
selector_near (a ∷ b ∷ c ∷ bytes) rest = refl

space_far : (b : ℕ) (rest : List ℕ) → space_sign (b ∷ 10 ∷ rest) ≡ None
space_far b rest = cond_both _ (Some (32, 2)) None (λ s. s ≡ None) (λ so. absurd (cc (and_parts (b == 194) (10 == 160) so).1)) (λ _. refl)

-- what begins as a symbol is no space
no_space : (b c : ℕ) → (b == 226) ≡ true → None ≡ space_sign (b ∷ c ∷ [])
no_space b c is =
    subst (λ x. ◌≡◌ {A = Option (ℕ × ℕ)} None (cond ((x == 194) && (c == 160)) (Some (32, 2)) None)) (sym (eqb-true b 226 is)) refl

sign_near : (b : ℕ) (bytes rest : List ℕ) → sign_of (b ∷ (bytes ++ 10 ∷ rest)) ≡ sign_of (b ∷ bytes)
sign_near b [] [] = space_far b []
sign_near b [] (x ∷ rest) =
    cond_both _ _ (space_sign (b ∷ 10 ∷ x ∷ rest)) (λ s. s ≡ None) (λ so. absurd (cc (and_parts (b == 226) (10 == 153) so).1))
    (λ _. space_far b (x ∷ rest))
sign_near b (c ∷ []) rest =
    cond_both _ _ (space_sign (b ∷ c ∷ 10 ∷ rest)) (λ s. s ≡ space_sign (b ∷ c ∷ []))
    (λ so. no_space b c (and_parts (b == 226) (c == 153) so).0) (λ _. refl)
sign_near b (c ∷ d ∷ bytes) rest =
    ap (λ n. cond ((b == 226) && (c == 153)) (option_map (λ letter. (letter, 3 + n)) (suit_of_symbol d)) (space_sign (b ∷ c ∷ d ∷ bytes)))
    (selector_near bytes rest)

-- and has no more bytes than are there
selector_within : (bytes : List ℕ) → selector_len bytes ≤ length bytes
selector_within [] = omega arith
selector_within (a ∷ []) = omega arith
selector_within (a ∷ b ∷ []) = omega arith
selector_within (a ∷ b ∷ c ∷ bytes) = cond_both _ 3 0 (λ n. n ≤ length (a ∷ b ∷ c ∷ bytes)) (λ _. omega arith) (λ _. omega arith)

abbrev Within : ℕ → List ℕ → Option (ℕ × ℕ) → Type 0
Within b bytes sign = (sign_or b sign).1 - 1 ≤ length bytes

sign_within : (b : ℕ) (bytes : List ℕ) → Within b bytes (sign_of (b ∷ bytes))
sign_within b [] = omega arith
sign_within b (c ∷ []) = cond_both ((b == 194) && (c == 160)) (Some (32, 2)) None (Within b (c ∷ [])) (λ _. omega arith) (λ _. omega arith)
sign_within b (c ∷ d ∷ bytes) =
    let all = c ∷ d ∷ bytes in
    let told = selector_within bytes in
    let few : 3 + selector_len bytes - 1 ≤ length all = omega (arith, told) in
    cond_both ((b == 226) && (c == 153)) (option_map (λ letter. (letter, 3 + selector_len bytes)) (suit_of_symbol d)) (space_sign (b ∷ all)) (Within b all)
    (λ _. each_suit d (λ suit. Within b all (option_map (λ letter. (letter, 3 + selector_len bytes)) suit)) few few few few (omega arith))
    (λ _. cond_both ((b == 194) && (c == 160)) (Some (32, 2)) None (Within b all) (λ _. omega arith) (λ _. omega arith))

end_itself : (rest : List ℕ) → sign_of (10 ∷ rest) ≡ None
end_itself [] = refl
end_itself (x ∷ []) = refl
end_itself (x ∷ y ∷ rest) = refl

-- so a line loses its signs by itself
signs_cut : (n : ℕ) (line rest : List ℕ) → n ≤ length line
    → without_signs n (line ++ 10 ∷ rest) ≡ without_signs n line ++ 10 ∷ without_signs 0 rest
signs_cut zero [] rest few = ap (λ s. (sign_or 10 s).0 ∷ without_signs ((sign_or 10 s).1 - 1) rest) (end_itself rest)
signs_cut (suc n) [] rest few = absurd (omega (arith, few))
signs_cut (suc n) (b ∷ bytes) rest few = signs_cut n bytes rest (omega (arith, few))
signs_cut zero (b ∷ bytes) rest few =
    let sign = sign_of (b ∷ bytes) in
    ap (λ s. (sign_or b s).0 ∷ without_signs ((sign_or b s).1 - 1) (bytes ++ 10 ∷ rest)) (sign_near b bytes rest)
    ∙ ap (λ t. (sign_or b sign).0 ∷ t) (signs_cut ((sign_or b sign).1 - 1) bytes rest (sign_within b bytes))

signs_joined : (lines : List (List ℕ)) → 0 < length lines
    → without_signs 0 (join_with_byte 10 lines) ≡ join_with_byte 10 (map (without_signs 0) lines)
signs_joined [] some' = absurd (omega arith)
signs_joined (x ∷ []) some' = refl
signs_joined (x ∷ y ∷ ys) some' =
    signs_cut 0 x (join_with_byte 10 (y ∷ ys)) (omega arith) ∙ ap (λ t. without_signs 0 x ++ 10 ∷ t) (signs_joined (y ∷ ys) (omega arith))

-- what lines say, and which of them is a title
said_typed : (lines : List (List ℕ)) → said_lines (map (without_signs 0) lines) ≡ map said_of (lines_without_comments lines)
said_typed [] = refl
said_typed (x ∷ []) = refl
said_typed (x ∷ y ∷ ys) =
    let others = said_typed (y ∷ ys) in
    elim (is_comment (without_signs 0 x)) as (λ b. cond b (said_lines (map (without_signs 0) (y ∷ ys)))
    (said_of x ∷ said_lines (map (without_signs 0) (y ∷ ys))) ≡ map said_of (cond b (lines_without_comments (y ∷ ys)) (x ∷ lines_without_comments (y ∷ ys)))) [
      | true ↦ others
      | false ↦ ap (λ t. said_of x ∷ t) others
    ]

title_typed : (lines : List (List ℕ)) → lines_without_title (map said_of lines) ≡ map said_of (beside_title lines)
title_typed [] = refl
title_typed (x ∷ []) = refl
title_typed (x ∷ y ∷ ys) =
    let said = map said_of (y ∷ ys) in
    elim (has_token (said_of x)) as (λ b. cond b (cond (is_title (said_of x)) said (said_of x ∷ said)) (said_of x ∷ lines_without_title said)
    ≡ map said_of (cond b (cond (is_title (said_of x)) (y ∷ ys) (x ∷ y ∷ ys)) (x ∷ beside_title (y ∷ ys)))) [
      | true ↦ elim (is_title (said_of x)) as (λ b. cond b said (said_of x ∷ said) ≡ map said_of (cond b (y ∷ ys) (x ∷ y ∷ ys))) [
        | true ↦ refl
        | false ↦ refl
      ]
      | false ↦ ap (λ t. said_of x ∷ t) (title_typed (y ∷ ys))
    ]

-- lines are there, without LFs
pub record AreLines (lines : List (List ℕ)) : Type 0 where
  pub some' : 0 < length lines
  pub none : NoEnds lines

lines_cut : (text : List ℕ) → AreLines (slice_split is_line_end text)
lines_cut text = record { some' = omega (arith, length-slice_split is_line_end text); none = no_ends-split text }

lines_map : (f : List ℕ → List ℕ) → ((line : List ℕ) → NoEnd line → NoEnd (f line)) → (lines : List (List ℕ)) → AreLines lines
    → AreLines (map f lines)
lines_map f keeps [] are = absurd (omega (arith, are.some'))
lines_map f keeps (x ∷ []) are = record { some' = omega arith; none = (keeps x are.none.0, tt) }
lines_map f keeps (x ∷ y ∷ ys) are = record {
  some' = omega arith;
  none = (keeps x are.none.0, (lines_map f keeps (y ∷ ys) (record { some' = omega arith; none = are.none.1 })).none);
}

lines_uncommented : (lines : List (List ℕ)) → AreLines lines → AreLines (lines_without_comments lines)
lines_uncommented [] are = are
lines_uncommented (x ∷ []) are = are
lines_uncommented (x ∷ y ∷ ys) are =
    let others = lines_uncommented (y ∷ ys) (record { some' = omega arith; none = are.none.1 }) in
    cond_both (is_comment (without_signs 0 x)) (lines_without_comments (y ∷ ys)) (x ∷ lines_without_comments (y ∷ ys)) AreLines (λ _. others)
    (λ _. record { some' = omega arith; none = (are.none.0, others.none) })

lines_beside : (lines : List (List ℕ)) → AreLines lines → AreLines (beside_title lines)
lines_beside [] are = are
lines_beside (x ∷ []) are = are
lines_beside (x ∷ y ∷ ys) are =
    let behind : AreLines (y ∷ ys) = record { some' = omega arith; none = are.none.1 } in
    let others = lines_beside (y ∷ ys) behind in
    cond_both (has_token (said_of x)) _ _ AreLines
    (λ _. cond_both (is_title (said_of x)) (y ∷ ys) (x ∷ y ∷ ys) AreLines (λ _. behind) (λ _. are))
    (λ _. record { some' = omega arith; none = (are.none.0, others.none) })

cut_again : (lines : List (List ℕ)) → AreLines lines → slice_split is_line_end (join_with_byte 10 lines) ≡ lines
cut_again lines are = split-joined lines are.some' are.none

-- the steps that make a text tidy, line by line
pub tidy_typed : TidyLinesAreTyped
tidy_typed text bytes =
    let typed = slice_split is_line_end (after_mark text) in
    let are = lines_cut (after_mark text) in
    let bare = map (without_signs 0) typed in
    let left = lines_without_comments typed in
    let are_left = lines_uncommented typed are in
    let board = beside_title left in
    let said = map said_of board in
    let are_said : AreLines said =
    lines_map said_of (λ line none. said_keeps (without_signs 0 line) (signs_keep 0 line none)) board (lines_beside left are_left) in
    let told = map respelled_line said in
    let are_told = lines_map respelled_line respelled_keeps said are_said in
    let signs : without_signs 0 (after_mark text) ≡ join_with_byte 10 bare =
    ap (without_signs 0) (sym (join_with_byte-slice_split 10 (after_mark text))) ∙ signs_joined typed are.some' in
    let comments : without_comments (without_signs 0 (after_mark text)) ≡ join_with_byte 10 (map said_of left) =
    ap without_comments signs
    ∙ ap (λ ls. join_with_byte 10 (said_lines ls)) (cut_again bare (lines_map (without_signs 0) (signs_keep 0) typed are))
    ∙ ap (join_with_byte 10) (said_typed typed) in
    let title : without_title (without_comments (without_signs 0 (after_mark text))) ≡ join_with_byte 10 said =
    ap without_title comments
    ∙ ap (λ ls. join_with_byte 10 (lines_without_title ls)) (cut_again (map said_of left)
    (lines_map said_of (λ line none. said_keeps (without_signs 0 line) (signs_keep 0 line none)) left are_left))
    ∙ ap (join_with_byte 10) (title_typed left) in
    let tokens : respelled_text (without_title (without_comments (without_signs 0 (after_mark text)))) ≡ join_with_byte 10 told =
    ap respelled_text title ∙ ap (λ ls. join_with_byte 10 (map respelled_line ls)) (cut_again said are_said) in
    let labels : tidy text ≡ join_with_byte 10 (without_labels 0 told) =
    ap (λ t. tidy_lines (respelled_text (without_title (without_comments (without_signs 0 (after_mark t)))))) bytes
    ∙ ap tidy_lines tokens ∙ ap (λ ls. join_with_byte 10 (without_labels 0 ls)) (cut_again told are_told) in
    ap (slice_split is_line_end) labels
    ∙ cut_again (without_labels 0 told) (record {
      some' = omega (arith, length-labels 0 told, are_told.some');
      none = no_ends-labels 0 told are_told.none;
    })
