-- What the loop over the lines keeps that leaves comments out, and how long what is left is.
use Rattle.std.proofs.Common.{◌≡◌, ℕ, ◌+◌, ◌<◌, ◌≤◌, Bool, true, false, cond, ◌&&◌, Option, Some, None, List, [], ◌∷◌, ◌++◌, length, map, take, drop, codes, refl, sym, ◌∙◌, ap, arith}
use Rattle.std.specs.Prelude.{nat_lt, position}
use Rattle.std.specs.Char.{to_ascii_lowercase}
use Rattle.std.specs.List.{join_with_byte, position_or_len, slice_split}
use Rattle.std.proofs.lemmas.List.{append_assoc, length-append, length-drop, length-map, length-take}
use Rattle.std.proofs.lemmas.List.Splits.{join_with_byte-slice_split, length-slice_split}
use Rattle.std.proofs.lemmas.Bool.{and_parts, cond_both, ltb-true}
use Rattle.std.proofs.lemmas.Slice.Eq.{bytes_eq-Decides}
use Rattle.fc_text.specs.Line.{after_blanks, after_name, begins_with, is_line_end}
use Rattle.fc_typed.specs.Comment.{before_comment, blanks_of, comma_blank, is_comment, is_column_digit, is_comment_mark, is_number_mark, more_cell_names, more_home_names, mark_colon, renamed_line_by, renamed_line, said_line, said_lines, without_comments}
use Rattle.fc_typed.proofs.TidyLemmas.{first_line, join-cons, one_line}
use Rattle.fc_typed.proofs.SortedLemmas.{blanks_parts}

-- what lines say, one line on
said_next : (line : List ℕ) (lines : List (List ℕ)) → 0 < length lines
    → said_lines (line ∷ lines) ≡ cond (is_comment line) (said_lines lines) (said_line line ∷ said_lines lines)
said_next line [] some = absurd (omega arith)
said_next line (x ∷ xs) some = refl

-- a last line stays, if only as an empty one
said_some : (lines : List (List ℕ)) → 0 < length lines → 0 < length (said_lines lines)
said_some [] some = absurd (omega arith)
said_some (x ∷ []) some = omega arith
said_some (x ∷ y ∷ ys) some =
    cond_both (is_comment x) (said_lines (y ∷ ys)) (said_line x ∷ said_lines (y ∷ ys)) (λ ls. 0 < length ls)
    (λ _. said_some (y ∷ ys) (omega arith)) (λ _. omega arith)

-- what a line gives that an LF ends
abbrev pub said_ended : List ℕ → List ℕ
said_ended line = cond (is_comment line) [] (said_line line ++ 10 ∷ [])

said_joined : (line : List ℕ) (lines : List (List ℕ)) → 0 < length lines
    → join_with_byte 10 (said_lines (line ∷ lines)) ≡ said_ended line ++ join_with_byte 10 (said_lines lines)
said_joined line lines some =
    let others = said_lines lines in
    ap (join_with_byte 10) (said_next line lines some)
    ∙ elim (is_comment line) as (λ t. join_with_byte 10 (cond t others (said_line line ∷ others)) ≡ cond t [] (said_line line ++ 10 ∷ []) ++ join_with_byte 10 others) [
      | true ↦ refl
      | false ↦
          join-cons (said_line line) others (said_some lines some)
          ∙ sym (append_assoc (said_line line) (10 ∷ []) (join_with_byte 10 others))
    ]

-- the text so far, once a line was pushed
pub said_pushed : (whole done rest after new : List ℕ) (len : ℕ) → done ++ without_comments rest ≡ whole
    → position is_line_end rest ≡ Some len → after ≡ drop (len + 1) rest → new ≡ done ++ said_ended (take len rest)
    → new ++ without_comments after ≡ whole
said_pushed whole done rest after new len so found left pushed =
    let line = take len rest in
    let others = slice_split is_line_end after in
    let some : 0 < length others = omega (arith, length-slice_split is_line_end after) in
    let cut : without_comments rest ≡ said_ended line ++ without_comments after =
    ap (λ ls. join_with_byte 10 (said_lines ls)) (first_line rest after len found left) ∙ said_joined line others some in
    ap (λ t. t ++ without_comments after) pushed ∙ append_assoc done (said_ended line) (without_comments after)
    ∙ ap (λ t. done ++ t) (sym cut) ∙ so

-- the whole text, once its last line was pushed
pub last_said : (whole done rest new : List ℕ) → done ++ without_comments rest ≡ whole → position is_line_end rest ≡ None
    → new ≡ done ++ said_line rest → new ≡ whole
last_said whole done rest new so none pushed =
    pushed ∙ ap (λ t. done ++ t) (sym (ap (λ ls. join_with_byte 10 (said_lines ls)) (one_line rest none))) ∙ so

-- a piece that begins with a name is as long as the name at least
pub fits_long : (piece name : List ℕ) → begins_with piece name ≡ true → length name ≤ length piece
fits_long piece name fits =
    let front = take (length name) piece in
    let same = (bytes_eq-Decides (map to_ascii_lowercase front) (map to_ascii_lowercase name)).0 fits in
    omega (arith, ap length same, length-map front to_ascii_lowercase, length-map name to_ascii_lowercase, length-take (length name) piece)

-- names of more bytes than these
abbrev are_long : ℕ → List (List ℕ) → Bool
are_long n [] = true
are_long n (name ∷ names) = nat_lt n (length name) && are_long n names

name_long : (n : ℕ) (names : List (List ℕ)) (rest piece : List ℕ) → are_long n names ≡ true → after_name names rest ≡ Some piece
    → n + 1 + length piece ≤ length rest
name_long n [] rest piece long found = absurd (cc found)
name_long n (name ∷ names) rest piece long found =
    let both = and_parts (nat_lt n (length name)) (are_long n names) long in
    elim (begins_with rest name) as (λ t. begins_with rest name ≡ t → cond t (Some (drop (length name) rest)) (after_name names rest) ≡ Some piece → n + 1 + length piece ≤ length rest) [
      | true ↦ λ fits e.
          let same : drop (length name) rest ≡ piece = cc e in
          omega (arith, ltb-true n (length name) both.0, fits_long rest name fits, ap length same, length-drop (length name) rest)
      | false ↦ λ _ e. name_long n names rest piece both.1 e
    ] refl found

cells_are_long : are_long 2 more_cell_names ≡ true
cells_are_long = refl

homes_are_long : are_long 4 more_home_names ≡ true
homes_are_long = refl

-- a further name of the cells is no shorter than `FC:`
pub cells_long : (rest piece : List ℕ) → after_name more_cell_names rest ≡ Some piece → 3 + length piece ≤ length rest
cells_long rest piece found =
    let long = name_long 2 more_cell_names rest piece cells_are_long found in omega (arith, long)

-- one of the foundations no shorter than `Deck:`
pub homes_long : (rest piece : List ℕ) → after_name more_home_names rest ≡ Some piece → 5 + length piece ≤ length rest
homes_long rest piece found =
    let long = name_long 4 more_home_names rest piece homes_are_long found in omega (arith, long)

-- a number keeps its size
pub length-mark_colon : (piece : List ℕ) → length (mark_colon piece) ≡ length piece
length-mark_colon [] = refl
length-mark_colon (b ∷ []) = refl
length-mark_colon (b ∷ c ∷ bytes) =
    cond_both (is_column_digit b && is_number_mark c) (b ∷ 58 ∷ bytes) (b ∷ c ∷ bytes) (λ t. length t ≡ length (b ∷ c ∷ bytes))
    (λ _. refl) (λ _. refl)

-- nothing grows
renamed_long : (line : List ℕ) (cells homes : Option (List ℕ)) → after_name more_cell_names (after_blanks line) ≡ cells
    → after_name more_home_names (after_blanks line) ≡ homes → length (renamed_line_by cells homes line) ≤ length line
renamed_long line None None none other =
    omega (
      arith,
      length-map (blanks_of line ++ mark_colon (after_blanks line)) comma_blank,
      length-append (blanks_of line) (mark_colon (after_blanks line)),
      length-mark_colon (after_blanks line),
      ap length (blanks_parts line),
      length-append (blanks_of line) (after_blanks line),
    )
renamed_long line None (Some piece) none found =
    let size : length (renamed_line_by None (Some piece) line) ≡ length (blanks_of line) + length (codes "Deck:" ++ map comma_blank piece) =
    length-append (blanks_of line) (codes "Deck:" ++ map comma_blank piece) in
    omega (
      arith,
      size,
      length-append (codes "Deck:") (map comma_blank piece),
      length-map piece comma_blank,
      homes_long (after_blanks line) piece found,
      ap length (blanks_parts line),
      length-append (blanks_of line) (after_blanks line),
    )
renamed_long line (Some piece) homes found other =
    let size : length (renamed_line_by (Some piece) homes line) ≡ length (blanks_of line) + length (codes "FC:" ++ map comma_blank piece) =
    length-append (blanks_of line) (codes "FC:" ++ map comma_blank piece) in
    omega (
      arith,
      size,
      length-append (codes "FC:") (map comma_blank piece),
      length-map piece comma_blank,
      cells_long (after_blanks line) piece found,
      ap length (blanks_parts line),
      length-append (blanks_of line) (after_blanks line),
    )

said_long : (line : List ℕ) → length (said_line line) ≤ length line
said_long line =
    let body = before_comment line in
    cond_both (is_comment line) [] (renamed_line body) (λ t. length t ≤ length line)
    (λ _. omega arith)
    (λ _. omega (
      arith,
      renamed_long body (after_name more_cell_names (after_blanks body)) (after_name more_home_names (after_blanks body)) refl refl,
      length-take (position_or_len is_comment_mark line) line,
    ))

lines_long : (lines : List (List ℕ)) → length (join_with_byte 10 (said_lines lines)) ≤ length (join_with_byte 10 lines)
lines_long [] = omega arith
lines_long (x ∷ []) = said_long x
lines_long (x ∷ y ∷ ys) =
    let ended : length (said_ended x) ≤ length x + 1 =
    cond_both (is_comment x) [] (said_line x ++ 10 ∷ []) (λ t. length t ≤ length x + 1) (λ _. omega arith)
    (λ _. omega (arith, length-append (said_line x) (10 ∷ []), said_long x)) in
    omega (
      arith,
      ap length (said_joined x (y ∷ ys) (omega arith)),
      length-append (said_ended x) (join_with_byte 10 (said_lines (y ∷ ys))),
      length-append x (10 ∷ join_with_byte 10 (y ∷ ys)),
      ended,
      lines_long (y ∷ ys),
    )

-- a text without its comments is no longer
pub comments_long : (text : List ℕ) → length (without_comments text) ≤ length text
comments_long text =
    omega (arith, lines_long (slice_split is_line_end text), ap length (join_with_byte-slice_split 10 text))
