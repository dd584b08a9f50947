-- A file's lines, one after the other, and the parts that they make.
use Rattle.std.proofs.Common.{◌≡◌, ℕ, zero, suc, ◌+◌, ◌-◌, ◌≤◌, ◌<◌, true, false, not, cond, List, [], ◌∷◌, ◌++◌, Some, None, length, take, drop, refl, sym, ◌∙◌, ap, append_assoc, length-append, arith}
use Rattle.std.specs.Prelude.{All, filter, position}
use Rattle.std.specs.List.{concat, position_or_len, slice_split}
use Rattle.std.proofs.lemmas.List.{append-nil}
use Rattle.std.proofs.lemmas.List.Elements.{All-append}
use Rattle.std.proofs.lemmas.List.Folds.{concat-append}
use Rattle.std.proofs.lemmas.List.Splits.{slice_split_at, slice_split_none}
use Rattle.std.proofs.Math.Seq.{take-append_seam}
use Rattle.fc_text.specs.Line.{begin_part, is_line_end}
use Rattle.fc_typed.proofs.TidyLemmas.{first_at, none_at}
use Rattle.fc_notes.specs.File.{boards_below, ended_lines, is_blank_text, is_board_part, is_rule, placed_parts}
use Rattle.fc_notes.specs.inner.File.{one_board}
use Rattle.fc_notes.specs.inner.Passed.{Passes}

-- the first line ends with the first LF
line_at : (text : List ℕ) → position_or_len is_line_end text < length text
    → let n = position_or_len is_line_end text in
    ended_lines text ≡ take (n + 1) text ∷ ended_lines (drop (n + 1) text)
line_at [] within = absurd (omega arith)
line_at (b ∷ bytes) within =
    let m = position_or_len is_line_end bytes in
    elim (is_line_end b) as (λ t. is_line_end b ≡ t → (cond (not t) (1 + m) 0 < 1 + length bytes)
    → cond t ((b ∷ []) ∷ ended_lines bytes) (begin_part b (ended_lines bytes))
    ≡ take (cond (not t) (1 + m) 0 + 1) (b ∷ bytes) ∷ ended_lines (drop (cond (not t) (1 + m) 0 + 1) (b ∷ bytes))) [
      | true ↦ λ _ _. refl
      | false ↦ λ _ inside.
          let e : suc (m + 1) ≡ 1 + m + 1 = omega arith in
          let here : m < length bytes = omega arith in
          ap (begin_part b) (line_at bytes here)
          ∙ ap (λ k. take k (b ∷ bytes) ∷ ended_lines (drop k (b ∷ bytes))) e
    ] refl (omega (arith, within))

-- a text without an LF is one line
one_line : (b : ℕ) (bytes : List ℕ) → length (b ∷ bytes) ≤ position_or_len is_line_end (b ∷ bytes)
    → ended_lines (b ∷ bytes) ≡ (b ∷ bytes) ∷ []
one_line b [] none =
    elim (is_line_end b) as (λ t. (1 ≤ cond (not t) (1 + 0) 0) → cond t ((b ∷ []) ∷ []) ((b ∷ []) ∷ []) ≡ (b ∷ []) ∷ [])
    [ true ↦ λ _. refl | false ↦ λ _. refl ] none
one_line b (d ∷ bytes) none =
    let m = position_or_len is_line_end (d ∷ bytes) in
    elim (is_line_end b) as (λ t. (1 + length (d ∷ bytes) ≤ cond (not t) (1 + m) 0)
    → cond t ((b ∷ []) ∷ ended_lines (d ∷ bytes)) (begin_part b (ended_lines (d ∷ bytes))) ≡ (b ∷ d ∷ bytes) ∷ []) [
      | true ↦ λ h. absurd (omega arith)
      | false ↦ λ h.
          let rest : length (d ∷ bytes) ≤ m = omega arith in
          ap (begin_part b) (one_line d bytes rest)
    ] (omega (arith, none))

-- a text is cut behind the LF at which its first line ends
pub line_cut : (text line below : List ℕ) (n : ℕ) → position is_line_end text ≡ Some n
    → line ≡ take (n + 1) text → below ≡ drop (n + 1) text → ended_lines text ≡ line ∷ ended_lines below
line_cut text line below n at front back =
    let found = first_at is_line_end text n at in
    line_at text found.0
    ∙ ap (λ k. take (k + 1) text ∷ ended_lines (drop (k + 1) text)) found.1
    ∙ ap (λ l. l ∷ ended_lines (drop (n + 1) text)) (sym front)
    ∙ ap (λ r. line ∷ ended_lines r) (sym back)

-- a text without an LF is cut behind its end
pub line_uncut : (text line below : List ℕ) → 0 < length text → position is_line_end text ≡ None
    → line ≡ text → below ≡ [] → ended_lines text ≡ line ∷ ended_lines below
line_uncut [] line below some at front back = absurd (omega arith)
line_uncut (b ∷ bytes) line below some at front back =
    one_line b bytes (none_at is_line_end (b ∷ bytes) at)
    ∙ ap (λ l. l ∷ []) (sym front)
    ∙ ap (λ r. line ∷ ended_lines r) (sym back)

-- nothing is passed at first
pub passes_none : (text : List ℕ) → Passes text text 0
passes_none text = record { lines = []; parts = refl; none = λ k d within. absurd (omega arith); number = refl; joined = refl }

all_one : (line : List ℕ) → is_rule line ≡ false → All (λ l. is_rule l ≡ false) (line ∷ [])
all_one line plain zero d within = plain
all_one line plain (suc k) d within = absurd (omega arith)

-- a line that parts nothing is passed too
pub passes_more : (text rest line below : List ℕ) (n m : ℕ) → Passes text rest n → ended_lines rest ≡ line ∷ ended_lines below
    → rest ≡ line ++ below → is_rule line ≡ false → m ≡ n + 1 → Passes text below m
passes_more text rest line below n m passed first cut plain more = record {
  lines = passed.lines ++ line ∷ [];
  parts =
      passed.parts ∙ ap (λ x. passed.lines ++ x) first ∙ sym (append_assoc passed.lines (line ∷ []) (ended_lines below));
  none = All-append (λ l. is_rule l ≡ false) passed.lines (line ∷ []) passed.none (all_one line plain);
  number = omega (arith, more, passed.number, length-append passed.lines (line ∷ []));
  joined =
      passed.joined ∙ ap (λ x. concat passed.lines ++ x) cut ∙ sym (append_assoc (concat passed.lines) line below)
      ∙ ap (λ x. concat passed.lines ++ x ++ below) (sym (append-nil line))
      ∙ ap (λ x. x ++ below) (sym (concat-append passed.lines (line ∷ [])));
}

-- the first of placed parts, if it is a board, and the others
first_placed : (above : ℕ) (text : List ℕ) (parts : List (List ℕ × ℕ))
    → filter is_board_part ((text, above) ∷ parts) ≡ one_board above text ++ filter is_board_part parts
first_placed above text parts =
    elim (is_blank_text text) as (λ t. cond (not t) ((text, above) ∷ filter is_board_part parts) (filter is_board_part parts)
    ≡ cond t [] ((text, above) ∷ []) ++ filter is_board_part parts) [ true ↦ refl | false ↦ refl ]

-- what stands above the rest is what the passed lines have
passed_front : (text rest : List ℕ) (n : ℕ) (passed : Passes text rest n)
    → take (length text - length rest) text ≡ concat passed.lines
passed_front text rest n passed =
    let front = concat passed.lines in
    let size : length text - length rest ≡ length front =
    omega (arith, ap length passed.joined, length-append front rest) in
    ap (λ k. take k text) size ∙ ap (take (length front)) passed.joined ∙ take-append_seam front rest

-- a line of dashes ends the first part
pub part_at : (text rest line below part : List ℕ) (n m above : ℕ) → Passes text rest n → ended_lines rest ≡ line ∷ ended_lines below
    → is_rule line ≡ true → part ≡ take (length text - length rest) text → m ≡ n + 1
    → boards_below above text ≡ one_board above part ++ boards_below (above + m) below
part_at text rest line below part n m above passed first ends cut more =
    let split : slice_split is_rule (ended_lines text) ≡ passed.lines ∷ slice_split is_rule (ended_lines below) =
    ap (slice_split is_rule) (passed.parts ∙ ap (λ x. passed.lines ++ x) first)
    ∙ slice_split_at is_rule passed.lines line (ended_lines below) passed.none ends in
    let count : above + length passed.lines + 1 ≡ above + m = omega (arith, more, passed.number) in
    ap (λ parts. filter is_board_part (placed_parts above parts)) split
    ∙ first_placed above (concat passed.lines)
    (placed_parts (above + length passed.lines + 1) (slice_split is_rule (ended_lines below)))
    ∙ ap (λ x. one_board above x ++ boards_below (above + length passed.lines + 1) below)
    (sym (passed_front text rest n passed) ∙ sym cut)
    ∙ ap (λ k. one_board above part ++ boards_below k below) count

-- where no line of dashes is left, all is one part
pub part_last : (text rest : List ℕ) (n above : ℕ) → Passes text rest n → rest ≡ []
    → boards_below above text ≡ one_board above text ++ boards_below (above + n) rest
part_last text rest n above passed none =
    let lines : ended_lines text ≡ passed.lines =
    passed.parts ∙ ap (λ x. passed.lines ++ ended_lines x) none ∙ append-nil passed.lines in
    let whole : text ≡ concat passed.lines =
    passed.joined ∙ ap (λ x. concat passed.lines ++ x) none ∙ append-nil (concat passed.lines) in
    let split : slice_split is_rule (ended_lines text) ≡ passed.lines ∷ [] =
    ap (slice_split is_rule) lines ∙ slice_split_none is_rule passed.lines passed.none in
    ap (λ parts. filter is_board_part (placed_parts above parts)) split
    ∙ first_placed above (concat passed.lines) []
    ∙ ap (λ x. one_board above x ++ []) (sym whole)
    ∙ ap (λ x. one_board above text ++ boards_below (above + n) x) (sym none)
