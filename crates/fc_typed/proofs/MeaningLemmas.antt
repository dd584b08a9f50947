-- A text that spells a position stays as it is.
use Rattle.std.proofs.Common.{◌≡◌, ℕ, ◌+◌, ◌<◌, ◌==◌, ◌&&◌, true, false, ◌⊎◌, Option, Some, None, List, [], ◌∷◌, ◌++◌, length, map, drop, inl, inr, refl, sym, ◌∙◌, ap, subst, ⊎_elim, arith}
use Rattle.std.specs.Prelude.{All, IsTrue, nat_lt}
use Rattle.std.specs.List.{join_with_byte, slice_split}
use Rattle.std.proofs.lemmas.List.Elements.{All-nil, All-cons, All-head, All-tail}
use Rattle.std.proofs.lemmas.List.Splits.{join_with_byte-slice_split}
use Rattle.std.proofs.lemmas.Bool.{and_parts, cases_Bool, cond-true, cond-false, eqb-true, ltb-true}
use Rattle.std.proofs.lemmas.Bool.Decides.{nat_tests}
use Rattle.fc_position.specs.Board.{Board}
use Rattle.fc_text.specs.Board.{Spells}
use Rattle.fc_text.specs.Line.{Line, after_blanks, after_colon, after_name, cell_names, foundation_names, is_blank, is_line_end, line_of, parts_of, sorted_line, without_return}
use Rattle.fc_text.specs.Spelling.{is_column}
use Rattle.fc_typed.specs.Tidy.{is_column_line, tidy_lines, without_label, without_labels}
use Rattle.fc_typed.specs.Comment.{without_comments}
use Rattle.fc_typed.specs.Respelled.{after_label, line_spelling, respelled_text, respelled_column, respelled_line}
use Rattle.fc_typed.proofs.KeptLemmas.{homes_stay, cells_stay, column_stays}
use Rattle.fc_typed.proofs.LineLemmas.{IsLabelled, after_blanks-front, after_blanks-label, label_or_not, parts-split, tidy_parts, return-front, trimmed-all}
use Rattle.fc_typed.proofs.TidyLemmas.{columns_after, labels_next, told_line}
use Rattle.fc_typed.proofs.ReadLemmas.{each_clean}
use Rattle.fc_typed.proofs.SaidLemmas.{SaysItself, said_stay, says_all}
use Rattle.fc_typed.proofs.SortedLemmas.{EndsWith, by_kind, return_parts}
use Rattle.fc_typed.proofs.SpelledLemmas.{IsClean, clean_line, label_bad}

-- a line as it is sorted
abbrev sorted : List ℕ → Line
sorted rest = sorted_line (after_name foundation_names rest) (after_name cell_names rest) rest

sorted_homes : (rest piece : List ℕ) → after_name foundation_names rest ≡ Some piece
    → sorted rest ≡ sorted_line (Some piece) (after_name cell_names rest) rest
sorted_homes rest piece found = ap (λ o. sorted_line o (after_name cell_names rest) rest) found

sorted_cells : (rest : List ℕ) (cells : Option (List ℕ)) → after_name foundation_names rest ≡ None → after_name cell_names rest ≡ cells
    → sorted rest ≡ sorted_line None cells rest
sorted_cells rest cells none found =
    ap (λ o. sorted_line o (after_name cell_names rest) rest) none ∙ ap (λ o. sorted_line None o rest) found

-- a line is its front and a piece that stays
pub line_stays : (line piece new : List ℕ) (ends : EndsWith line piece) → new ≡ piece → ends.front ++ new ≡ line
line_stays line piece new ends same = ap (λ t. ends.front ++ t) same ∙ sym ends.parts

-- a piece begins with a label, or is read behind its colon
pub label_or_colon : (rest : List ℕ) → (after_label rest ≡ after_colon rest)
    ⊎ ((b : ℕ) × (bytes : List ℕ) × (rest ≡ b ∷ 58 ∷ bytes) × (is_blank b ≡ false))
label_or_colon [] = inl refl
label_or_colon (b ∷ []) = inl refl
label_or_colon (b ∷ c ∷ bytes) = ⊎_elim
    (λ is.
    let one = and_parts (nat_lt 48 b) _ is in
    let two = and_parts (nat_lt b 57) (c == 58) one.1 in
    let colon : c ≡ 58 = eqb-true c 58 two.1 in
    let above : 48 < b = ltb-true 48 b one.0 in
    inr (b, bytes, ap (λ x. b ∷ x ∷ bytes) colon, grind (arith, nat_tests)))
    (λ no. inl (cond-false _ bytes (after_colon (b ∷ c ∷ bytes)) no))
    (cases_Bool (nat_lt 48 b && (nat_lt b 57 && (c == 58))))

-- a clean line stays
clean_kept : (line : List ℕ) → IsClean (line_of line) → line_spelling line ≡ line
clean_kept line clean =
    let rest = after_blanks line in
    by_kind line (λ t. t ≡ line)
    (λ piece found ends. line_stays line piece _ ends (homes_stay piece (after_name cell_names rest) rest
    (subst IsClean (sorted_homes rest piece found) clean)))
    (λ piece none found ends. line_stays line piece _ ends (cells_stay piece rest
    (subst IsClean (sorted_cells rest (Some piece) none found) clean)))
    (λ none other ends.
    let same = sorted_cells rest None none other in
    let here = subst IsClean same clean in
    line_stays line (after_label rest) _ ends (⊎_elim
    (λ colon. subst (λ t. respelled_column t ≡ t) (sym colon) (column_stays rest here))
    (λ label. absurd (label_bad line label.0 label.1 (ap (λ l. is_column l.kind) same) label.2 label.3 clean))
    (label_or_colon rest)))

-- a line that has lost its label
pub colon_sorted : (blanks rest : List ℕ) → All (λ b. IsTrue (is_blank b)) blanks
    → line_of (blanks ++ 58 ∷ rest) ≡ sorted_line None None (58 ∷ rest)
colon_sorted blanks rest blank = ap sorted (after_blanks-front blanks 58 rest blank refl)

pub label_after : (before : ℕ) (rest : List ℕ) → before < 8 → after_label ((49 + before) ∷ 58 ∷ rest) ≡ rest
label_after before rest few =
    cond-true _ rest (after_colon ((49 + before) ∷ 58 ∷ rest)) (grind (arith, nat_tests))

-- stays where it is clean
label_kept : (before : ℕ) (line : List ℕ) (found : IsLabelled before line) → is_column_line line ≡ true
    → IsClean (line_of (without_return (without_label before line))) → line_spelling (without_return line) ≡ without_return line
label_kept before line found is clean =
    let body = without_return line in
    let rest = without_return found.rest in
    let piece : after_label (after_blanks body) ≡ rest =
    ap after_label (after_blanks-label before line found) ∙ label_after before rest found.few in
    let shown : line_of (without_return (without_label before line)) ≡ sorted_line None None (58 ∷ rest) =
    ap (λ t. line_of (without_return t)) found.told ∙ ap line_of (return-front found.blanks found.rest)
    ∙ colon_sorted found.blanks rest found.only_blanks in
    let here = subst IsClean shown clean in
    by_kind body (λ t. t ≡ body)
    (λ piece other ends. absurd (cc (sym is ∙ ap (λ l. is_column l.kind) (sorted_homes (after_blanks body) piece other))))
    (λ piece none other ends. absurd (cc (sym is ∙ ap (λ l. is_column l.kind) (sorted_cells (after_blanks body) (Some piece) none other))))
    (λ none other ends. line_stays body (after_label (after_blanks body)) _ ends
    (subst (λ t. respelled_column t ≡ t) (sym piece) (column_stays (58 ∷ rest) here)))

-- a part is not respelled
abbrev pub Kept : List ℕ → Type 0
Kept part = respelled_line part ≡ part

pub kept_line : (part : List ℕ) → line_spelling (without_return part) ≡ without_return part → Kept part
kept_line part same = ap (λ t. t ++ drop (length (without_return part)) part) same ∙ return_parts part

kept_part : (before : ℕ) (part : List ℕ) → IsClean (line_of (without_return (told_line before part))) → Kept part
kept_part before part clean = ⊎_elim
    (λ is.
    let told : told_line before part ≡ without_label before part = cond-true _ (without_label before part) part is in
    let here = subst (λ t. IsClean (line_of (without_return t))) told clean in
    kept_line part (⊎_elim
    (λ found. label_kept before part found is here)
    (λ same. clean_kept (without_return part) (subst (λ t. IsClean (line_of (without_return t))) same here))
    (label_or_not before part)))
    (λ other.
    let told : told_line before part ≡ part = cond-false _ (without_label before part) part other in
    kept_line part (clean_kept (without_return part) (subst (λ t. IsClean (line_of (without_return t))) told clean)))
    (cases_Bool (is_column_line part))

abbrev pub IsCleanPart : List ℕ → Type 0
IsCleanPart part = IsClean (line_of (without_return part))

-- what holds of each line that is clean once it has lost its label holds of the lines of a text that spells a position
module _ (K : List ℕ → Type 0) (keeps : (before : ℕ) (part : List ℕ) → IsCleanPart (told_line before part) → K part) where
  parts_keep : (before : ℕ) (parts : List (List ℕ)) → All IsCleanPart (without_labels before parts) → All K parts
  parts_keep before [] clean = All-nil K
  parts_keep before (x ∷ xs) clean =
      let others = without_labels (columns_after before x) xs in
      let here = subst (All IsCleanPart) (labels_next before x xs) clean in
      All-cons K x xs (keeps before x (All-head IsCleanPart (told_line before x) others here))
      (parts_keep (columns_after before x) xs (All-tail IsCleanPart (told_line before x) others here))

  pub text_keeps : (cells : ℕ) (text : List ℕ) (b : Board) → Spells cells (tidy_lines text) b → All K (parts_of is_line_end text)
  text_keeps cells text b spells =
      let clean = each_clean (parts_of is_line_end (tidy_lines text))
      (λ front rest line e. clean_line cells (tidy_lines text) b spells front rest line e) in
      parts_keep 0 (parts_of is_line_end text) (subst (All IsCleanPart) (tidy_parts text) clean)

  pub pieces_keep : (cells : ℕ) (text : List ℕ) (b : Board) → Spells cells (tidy_lines text) b → K [] → All K (slice_split is_line_end text)
  pieces_keep cells text b spells none =
      trimmed-all K (slice_split is_line_end text) none
      (subst (All K) (parts-split is_line_end text) (text_keeps cells text b spells))

-- pieces that stay are the text again
pub pieces_stay : (pieces : List (List ℕ)) → All Kept pieces → map respelled_line pieces ≡ pieces
pieces_stay [] all = refl
pieces_stay (x ∷ xs) all =
    ap (λ l. l ∷ map respelled_line xs) (All-head Kept x xs all) ∙ ap (λ ls. x ∷ ls) (pieces_stay xs (All-tail Kept x xs all))

-- a text that spells a position once its columns have lost their numbers has no comments, and is not respelled
pub text_stays : (cells : ℕ) (text : List ℕ) (b : Board) → Spells cells (tidy_lines text) b → respelled_text text ≡ text
text_stays cells text b spells =
    let pieces = slice_split is_line_end text in
    ap (join_with_byte 10) (pieces_stay pieces (pieces_keep Kept kept_part cells text b spells refl)) ∙ join_with_byte-slice_split 10 text

pub text_says : (cells : ℕ) (text : List ℕ) (b : Board) → Spells cells (tidy_lines text) b → without_comments text ≡ text
text_says cells text b spells =
    let pieces = slice_split is_line_end text in
    ap (join_with_byte 10) (said_stay pieces (pieces_keep SaysItself says_all cells text b spells (refl, refl)))
    ∙ join_with_byte-slice_split 10 text
