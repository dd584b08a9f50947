-- Lines that the reader accepts have no comments, no commas and no further names of the cells.
use Rattle.std.proofs.Common.{◌≡◌, ℕ, ◌+◌, ◌<◌, false, None, List, [], ◌∷◌, ◌++◌, length, map, take, get_or, refl, sym, ◌∙◌, ap, subst, ⊎_elim, arith}
use Rattle.std.specs.Prelude.{All, slice_index}
use Rattle.std.proofs.lemmas.List.{drop_at, take_all}
use Rattle.std.proofs.lemmas.List.Elements.{All-head, All-tail, All-append, All-cons, All-drop, All-same}
use Rattle.std.proofs.lemmas.List.Sums.{position_or_len_is}
use Rattle.std.proofs.lemmas.Bool.{cases_Bool, cond-true, cond-false}
use Rattle.std.proofs.lemmas.Bool.Decides.{nat_tests}
use Rattle.fc_text.specs.Line.{after_blanks, after_name, line_of, without_return}
use Rattle.fc_typed.specs.Comment.{before_comment, blanks_of, comma_blank, is_comment, is_comment_mark, more_cell_names, more_home_names, mark_colon, renamed_line_by, renamed_line, said_line, said_lines}
use Rattle.fc_typed.specs.Tidy.{is_column_line, without_label}
use Rattle.fc_typed.proofs.LineLemmas.{label_or_not}
use Rattle.fc_typed.proofs.MarkLemmas.{no_mark}
use Rattle.fc_typed.proofs.NameLemmas.{no_cell_name, no_home_name}
use Rattle.fc_typed.proofs.TidyLemmas.{told_line}
use Rattle.fc_typed.proofs.ReadLemmas.{IsLow, blank_low, line_ascii, return_ascii}
use Rattle.fc_typed.proofs.SortedLemmas.{blanks_parts}
use Rattle.fc_typed.proofs.SpelledLemmas.{IsClean}

-- such bytes are no marks of comments, and no commas
low_mark : (b : ℕ) → IsLow b → is_comment_mark b ≡ false
low_mark b low = grind (arith, nat_tests)

low_comma : (b : ℕ) → IsLow b → comma_blank b ≡ b
low_comma b low = grind (arith, nat_tests)

no_comma : (line : List ℕ) → All IsLow line → map comma_blank line ≡ line
no_comma [] low = refl
no_comma (b ∷ line) low =
    ap (λ x. x ∷ map comma_blank line) (low_comma b (All-head IsLow b line low))
    ∙ ap (λ t. b ∷ t) (no_comma line (All-tail IsLow b line low))

no_comment : (line : List ℕ) → All IsLow line → before_comment line ≡ line
no_comment line low =
    ap (λ n. take n line) (position_or_len_is is_comment_mark line (length line) 0 (omega arith) (λ k h. low_mark _ (low k 0 h)) (λ h. absurd (omega arith)))
    ∙ take_all (length line) line (omega arith)

first_mark : (piece : List ℕ) → All IsLow piece → is_comment_mark (slice_index piece 0) ≡ false
first_mark [] low = refl
first_mark (b ∷ piece) low = low_mark b (All-head IsLow b piece low)

-- a line of such bytes says itself
abbrev pub SaysItself : List ℕ → Type 0
SaysItself line = (is_comment line ≡ false) × (said_line line ≡ line)

pub says_itself : (line : List ℕ) → All IsLow line → after_name more_cell_names (after_blanks line) ≡ None
    → after_name more_home_names (after_blanks line) ≡ None → mark_colon (after_blanks line) ≡ after_blanks line → SaysItself line
says_itself line low none other number =
    let body = before_comment line in
    let mark : is_comment line ≡ false = first_mark (after_blanks line) (All-drop IsLow _ line low) in (
      mark,
      cond-false (is_comment line) [] (renamed_line body) mark ∙ ap renamed_line (no_comment line low)
          ∙ ap (λ o. renamed_line_by o (after_name more_home_names (after_blanks line)) line) none ∙ ap (λ o. renamed_line_by None o line) other
          ∙ ap (λ t. map comma_blank (blanks_of line ++ t)) number ∙ ap (map comma_blank) (sym (blanks_parts line)) ∙ no_comma line low,
    )

-- a line is of such bytes where it is without its label
label_low : (before : ℕ) → before < 8 → IsLow (49 + before)
label_low before few = grind (arith, nat_tests)

told_low : (before : ℕ) (part : List ℕ) → All IsLow (told_line before part) → All IsLow part
told_low before part low = ⊎_elim
    (λ is.
    let told : told_line before part ≡ without_label before part = cond-true _ (without_label before part) part is in
    ⊎_elim
    (λ found.
    let rest = 58 ∷ found.rest in
    let shown : All IsLow (found.blanks ++ rest) = subst (All IsLow) (told ∙ found.told) low in
    let others : All IsLow rest =
    subst (All IsLow) (drop_at found.blanks rest (length found.blanks) refl) (All-drop IsLow (length found.blanks) (found.blanks ++ rest) shown) in
    let blanks : All IsLow found.blanks = λ k d within. blank_low (get_or found.blanks k d) (found.only_blanks k d within) in
    All-same IsLow part (found.blanks ++ (49 + before) ∷ rest) found.parts
    (All-append IsLow found.blanks ((49 + before) ∷ rest) blanks (All-cons IsLow (49 + before) rest (label_low before found.few) others)))
    (λ same. subst (All IsLow) (told ∙ same) low)
    (label_or_not before part))
    (λ other. subst (All IsLow) (cond-false _ (without_label before part) part other) low)
    (cases_Bool (is_column_line part))

-- a clean line is of such bytes
pub low_part : (before : ℕ) (part : List ℕ) → IsClean (line_of (without_return (told_line before part))) → All IsLow part
low_part before part clean =
    let told = told_line before part in
    told_low before part (return_ascii told (line_ascii (without_return told) clean))

-- and says itself
pub says_all : (before : ℕ) (part : List ℕ) → IsClean (line_of (without_return (told_line before part))) → SaysItself part
says_all before part clean =
    says_itself part (low_part before part clean) (no_cell_name before part clean) (no_home_name before part clean) (no_mark before part clean)

-- lines that say themselves stay
pub said_stay : (lines : List (List ℕ)) → All SaysItself lines → said_lines lines ≡ lines
said_stay [] all = refl
said_stay (x ∷ []) all = ap (λ l. l ∷ []) (All-head SaysItself x [] all).1
said_stay (x ∷ y ∷ ys) all =
    let here = All-head SaysItself x (y ∷ ys) all in
    let others = said_lines (y ∷ ys) in
    cond-false (is_comment x) others (said_line x ∷ others) here.0 ∙ ap (λ l. l ∷ others) here.1
    ∙ ap (λ ls. x ∷ ls) (said_stay (y ∷ ys) (All-tail SaysItself x (y ∷ ys) all))
