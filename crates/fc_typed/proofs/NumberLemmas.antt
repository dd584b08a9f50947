-- A line that is numbered is the column of its number.
use Rattle.std.proofs.Common.{◌≡◌, ℕ, suc, ◌+◌, ◌-◌, ◌≤◌, true, false, cond, List, [], ◌∷◌, ◌++◌, map, refl, sym, ◌∙◌, ap, subst, ⊎_elim, arith}
use Rattle.std.specs.Prelude.{count_by, filter, slice_index_or}
use Rattle.std.specs.List.{AllZip}
use Rattle.std.proofs.lemmas.List.{map-append}
use Rattle.std.proofs.lemmas.List.Sums.{sum_by-cons}
use Rattle.std.proofs.lemmas.Bool.{cases_Bool, cond-true, cond-false}
use Rattle.std.proofs.lemmas.Bool.Decides.{nat_tests}
use Rattle.fc_position.specs.Board.{Board, column}
use Rattle.fc_text.specs.Board.{Spells}
use Rattle.fc_text.specs.Line.{Line, after_blanks, board_lines, is_blank, is_line_end, line_of, parts_of, tokens_of, without_return}
use Rattle.fc_text.specs.Spelling.{SpellsCard, is_column}
use Rattle.fc_typed.specs.Tidy.{after_mark, is_column_line, tidy_lines, without_label, without_labels, without_signs}
use Rattle.fc_typed.specs.Comment.{without_comments}
use Rattle.fc_typed.specs.Respelled.{respelled_text}
use Rattle.fc_typed.specs.Title.{without_title}
use Rattle.fc_typed.specs.Unit.{in_bytes}
use Rattle.fc_typed.specs.Laws.{NumbersAreColumns}
use Rattle.fc_typed.proofs.LineLemmas.{IsLabelled, after_blanks-label, label_or_not, tidy_parts, return-front}
use Rattle.fc_typed.proofs.TidyLemmas.{columns_after, labels_next, told_line}
use Rattle.fc_typed.proofs.SpelledLemmas.{clean_line, colon_column, colon_tokens, label_bad, told_lines}

-- how many of the lines are columns
abbrev columns_of : List Line → ℕ
columns_of lines = count_by (λ line. is_column line.kind) lines

-- a line without its label is still a column's
shown_line : (before : ℕ) (line : List ℕ) (found : IsLabelled before line) → is_column_line line ≡ true
    → without_return (told_line before line) ≡ found.blanks ++ 58 ∷ without_return found.rest
shown_line before line found column =
    ap without_return (cond-true _ (without_label before line) line column ∙ found.told) ∙ return-front found.blanks found.rest

column-told : (before : ℕ) (line : List ℕ) → is_column_line (told_line before line) ≡ is_column_line line
column-told before line = ⊎_elim
    (λ is. ⊎_elim
    (λ found. ap (λ t. is_column (line_of t).kind) (shown_line before line found is)
    ∙ colon_column found.blanks (without_return found.rest) found.only_blanks ∙ sym is)
    (λ same. ap is_column_line (cond-true _ (without_label before line) line is ∙ same))
    (label_or_not before line))
    (λ no. ap is_column_line (cond-false _ (without_label before line) line no))
    (cases_Bool (is_column_line line))

-- so there are as many columns among the lines as before
columns-labels : (before : ℕ) (parts : List (List ℕ)) → columns_of (told_lines (without_labels before parts)) ≡ columns_of (told_lines parts)
columns-labels before [] = refl
columns-labels before (x ∷ xs) =
    let weight : Line → ℕ = λ line. cond (is_column line.kind) 1 0 in
    let told = line_of (without_return (told_line before x)) in
    let line = line_of (without_return x) in
    let others = told_lines (without_labels (columns_after before x) xs) in
    ap (λ parts. columns_of (told_lines parts)) (labels_next before x xs) ∙ sum_by-cons weight told others
    ∙ ap (λ t. cond t 1 0 + columns_of others) (column-told before x)
    ∙ ap (λ n. weight line + n) (columns-labels (columns_after before x) xs) ∙ sym (sum_by-cons weight line (told_lines xs))

-- how many columns stand before what follows some parts
columns_past : ℕ → List (List ℕ) → ℕ
columns_past before [] = before
columns_past before (x ∷ xs) = columns_past (columns_after before x) xs

columns_past-count : (before : ℕ) (parts : List (List ℕ)) → columns_past before parts ≡ before + columns_of (told_lines parts)
unfolding columns_past
columns_past-count before [] = omega arith
columns_past-count before (x ∷ xs) =
    let weight : Line → ℕ = λ line. cond (is_column line.kind) 1 0 in
    let line = line_of (without_return x) in
    let after : columns_after before x ≡ before + weight line =
    elim (is_column_line x) as (λ t. cond t (1 + before) before ≡ before + cond t 1 0) [ true ↦ omega arith | false ↦ omega arith ] in
    let size = sum_by-cons weight line (told_lines xs) in
    let more = columns_past-count (columns_after before x) xs in
    omega (arith, after, size, more)

-- the labels of lines, of which one is looked at
labels-parted : (before : ℕ) (above : List (List ℕ)) (part : List ℕ) (below : List (List ℕ))
    → without_labels before (above ++ part ∷ below)
    ≡ without_labels before above ++ told_line (columns_past before above) part ∷ without_labels (columns_after (columns_past before above) part) below
unfolding columns_past
labels-parted before [] part below = labels_next before part below
labels-parted before (x ∷ xs) part below =
    let after = columns_after before x in
    labels_next before x (xs ++ part ∷ below) ∙ ap (λ ls. told_line before x ∷ ls) (labels-parted after xs part below)
    ∙ ap (λ ls. ls ++ told_line (columns_past after xs) part ∷ without_labels (columns_after (columns_past after xs) part) below)
    (sym (labels_next before x xs))

told_lines-append : (xs ys : List (List ℕ)) → told_lines (xs ++ ys) ≡ told_lines xs ++ told_lines ys
told_lines-append xs ys =
    ap (map line_of) (map-append without_return xs ys) ∙ map-append line_of (map without_return xs) (map without_return ys)

-- the tokens of the column lines among the lines
abbrev column_tokens : List Line → ℕ → List (List ℕ)
column_tokens lines n = slice_index_or (map (λ line. line.tokens) (filter (λ line. is_column line.kind) lines)) n []

column_here : (front rest : List Line) (line : Line) → is_column line.kind ≡ true
    → column_tokens (front ++ line ∷ rest) (columns_of front) ≡ line.tokens
column_here [] rest line column = rw column refl
column_here (x ∷ xs) rest line column =
    let weight : Line → ℕ = λ l. cond (is_column l.kind) 1 0 in
    let size : columns_of (x ∷ xs) ≡ weight x + columns_of xs = sum_by-cons weight x xs in
    let here = column_here xs rest line column in
    let others = filter (λ l. is_column l.kind) (xs ++ line ∷ rest) in
    let one : 1 + columns_of xs ≡ suc (columns_of xs) = omega arith in
    let none : 0 + columns_of xs ≡ columns_of xs = omega arith in
    ap (column_tokens (x ∷ (xs ++ line ∷ rest))) size
    ∙ elim (is_column x.kind) as (λ t. slice_index_or (map (λ l. l.tokens) (cond t (x ∷ others) others)) (cond t 1 0 + columns_of xs) [] ≡ line.tokens) [
      | true ↦ ap (λ n. slice_index_or (map (λ l. l.tokens) (x ∷ others)) n []) one ∙ here
      | false ↦ ap (λ n. slice_index_or (map (λ l. l.tokens) others) n []) none ∙ here
    ]

-- what parts a mapped list parts the list
pub record IsParted (f : List ℕ → List ℕ) (parts above : List (List ℕ)) (line : List ℕ) : Type 0 where
  pub before : List (List ℕ)
  pub part : List ℕ
  pub behind : List (List ℕ)
  pub whole : parts ≡ before ++ part ∷ behind
  pub mapped : map f before ≡ above
  pub here : f part ≡ line

parted : (f : List ℕ → List ℕ) (parts above below : List (List ℕ)) (line : List ℕ) → map f parts ≡ above ++ line ∷ below
    → IsParted f parts above line
parted f [] [] below line e = absurd (cc e)
parted f [] (a ∷ above) below line e = absurd (cc e)
parted f (x ∷ xs) [] below line e =
    record { before = []; part = x; behind = xs; whole = refl; mapped = refl; here = cc e }
parted f (x ∷ xs) (a ∷ above) below line e =
    let tail : map f xs ≡ above ++ line ∷ below = cc e in
    let head : f x ≡ a = cc e in
    let more = parted f xs above below line tail in
    record {
      before = x ∷ more.before;
      part = more.part;
      behind = more.behind;
      whole = cc more.whole;
      mapped = cc (head, more.mapped);
      here = more.here;
    }

no_blank : (n : ℕ) → is_blank (48 + n) ≡ false
no_blank n = grind (arith, nat_tests)

-- what a part is that loses its label
digit_is : (before n : ℕ) (line rest : List ℕ) (found : IsLabelled before line) → after_blanks (without_return line) ≡ (48 + n) ∷ 58 ∷ rest
    → (49 + before ≡ 48 + n) × (without_return found.rest ≡ rest)
digit_is before n line rest found begins =
    let same : (49 + before) ∷ 58 ∷ without_return found.rest ≡ (48 + n) ∷ 58 ∷ rest = sym (after_blanks-label before line found) ∙ begins in
    (cc same, cc same)

abbrev IsColumn : Board → ℕ → ℕ → List ℕ → Type 0
IsColumn b n above rest = (n ≤ 8) × (above + 1 ≡ n) × AllZip SpellsCard (tokens_of rest) (column b (n - 1))

numbered : (cells : ℕ) (text : List ℕ) (b : Board) (n : ℕ) (rest : List ℕ) (above below : List (List ℕ)) (part : List ℕ)
    → Spells cells (tidy_lines text) b → parts_of is_line_end text ≡ above ++ part ∷ below → is_column_line part ≡ true
    → after_blanks (without_return part) ≡ (48 + n) ∷ 58 ∷ rest → IsColumn b n (columns_of (told_lines above)) rest
numbered cells text b n rest above below part spells whole is begins =
    let before = columns_past 0 above in
    let front = told_lines (without_labels 0 above) in
    let line = line_of (without_return (told_line before part)) in
    let behind = told_lines (without_labels (columns_after before part) below) in
    let lines : board_lines (tidy_lines text) ≡ front ++ line ∷ behind =
    ap told_lines (tidy_parts text ∙ ap (without_labels 0) whole ∙ labels-parted 0 above part below)
    ∙ told_lines-append (without_labels 0 above) (told_line before part ∷ without_labels (columns_after before part) below) in
    let count : before ≡ columns_of (told_lines above) = columns_past-count 0 above ∙ omega arith in
    let place : before ≡ columns_of front = count ∙ sym (columns-labels 0 above) in
    ⊎_elim
    (λ found.
    let digit = digit_is before n part rest found begins in
    let few = found.few in
    let shown = shown_line before part found is in
    let column_is : is_column line.kind ≡ true =
    ap (λ t. is_column (line_of t).kind) shown ∙ colon_column found.blanks (without_return found.rest) found.only_blanks in
    let tokens : line.tokens ≡ tokens_of rest =
    ap (λ t. (line_of t).tokens) shown ∙ colon_tokens found.blanks (without_return found.rest) found.only_blanks
    ∙ ap tokens_of digit.1 in
    let here : column_tokens (board_lines (tidy_lines text)) before ≡ tokens_of rest =
    ap (λ ls. column_tokens ls before) lines ∙ ap (column_tokens (front ++ line ∷ behind)) place
    ∙ column_here front behind line column_is ∙ tokens in
    let least : before ≡ n - 1 = omega (arith, digit.0) in
    let spelled : AllZip SpellsCard (column_tokens (board_lines (tidy_lines text)) before) (column b before) =
    spells.spelled.columns before few in (
      omega (arith, digit.0),
      omega (arith, digit.0, count),
      subst (λ k. AllZip SpellsCard (tokens_of rest) (column b k)) least
          (subst (λ ts. AllZip SpellsCard ts (column b before)) here spelled),
    ))
    (λ same.
    let stays : line ≡ line_of (without_return part) =
    ap (λ t. line_of (without_return t)) (cond-true _ (without_label before part) part is ∙ same) in
    absurd (label_bad (without_return part) (48 + n) rest is begins (no_blank n)
    (clean_line cells (tidy_lines text) b spells front behind (line_of (without_return part)) (lines ∙ ap (λ l. front ++ l ∷ behind) stays))))
    (label_or_not before part)

-- a line that is numbered is the column of its number
pub numbers : NumbersAreColumns
numbers cells text b n rest spells line =
    let whole = respelled_text (without_title (without_comments (without_signs 0 (after_mark (in_bytes text))))) in
    let cut = parted without_return (parts_of is_line_end whole) line.above line.below line.line line.parts in
    let is : is_column_line cut.part ≡ true = ap (λ t. is_column (line_of t).kind) cut.here ∙ line.column in
    subst (λ above. IsColumn b n (columns_of (map line_of above)) rest) cut.mapped
    (numbered cells whole b n rest cut.before cut.behind cut.part spells cut.whole is (ap after_blanks cut.here ∙ line.begins))
