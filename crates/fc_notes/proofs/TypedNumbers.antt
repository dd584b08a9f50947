-- The first lines of a typed text, and how many of them stay.
use Rattle.std.proofs.Common.{◌≡◌, ℕ, ◌+◌, ◌-◌, ◌≤◌, ◌==◌, ◌||◌, ◌&&◌, Bool, true, false, cond, List, [], ◌∷◌, ◌++◌, length, take, drop, map, refl, sym, ◌∙◌, ap, append_assoc, length-append, arith}
use Rattle.std.specs.Prelude.{count_by}
use Rattle.std.specs.List.{concat, slice_split}
use Rattle.std.proofs.lemmas.List.{append-nil, length-map, take_all, take-append-drop}
use Rattle.std.proofs.lemmas.List.Folds.{concat-append}
use Rattle.std.proofs.lemmas.List.Splits.{length-slice_split}
use Rattle.std.proofs.Math.Seq.{take-append_seam}
use Rattle.fc_text.specs.Line.{begin_part, is_line_end}
use Rattle.fc_typed.specs.Respelled.{respelled_line}
use Rattle.fc_typed.specs.Tidy.{tidy, without_labels}
use Rattle.fc_typed.specs.Typed.{said_of, typed_lines}
use Rattle.fc_typed.specs.Unit.{in_bytes}
use Rattle.fc_typed.proofs.TidyLemmas.{length-labels}
use Rattle.fc_typed.proofs.TypedTexts.{tidy_typed}
use Rattle.fc_notes.specs.File.{ended_lines}
use Rattle.fc_notes.specs.FileLine.{first_lines, is_in_units, staying_count}
use Rattle.fc_notes.specs.inner.Taken.{Takes}

-- nothing is taken at first
pub takes_none : (text : List ℕ) → Takes text text 0
takes_none text = record { lines = []; parts = refl; number = refl; joined = refl }

-- one line more
pub takes_more : (text rest line below : List ℕ) (n : ℕ) → Takes text rest n → ended_lines rest ≡ line ∷ ended_lines below
    → rest ≡ line ++ below → Takes text below (n + 1)
takes_more text rest line below n taken first cut = record {
  lines = taken.lines ++ line ∷ [];
  parts = taken.parts ∙ ap (λ x. taken.lines ++ x) first ∙ sym (append_assoc taken.lines (line ∷ []) (ended_lines below));
  number = omega (arith, taken.number, length-append taken.lines (line ∷ []));
  joined =
      taken.joined ∙ ap (λ x. concat taken.lines ++ x) cut ∙ sym (append_assoc (concat taken.lines) line below)
      ∙ ap (λ x. concat taken.lines ++ x ++ below) (sym (append-nil line))
      ∙ ap (λ x. x ++ below) (sym (concat-append taken.lines (line ∷ [])));
}

-- what stands above the rest
taken_front : (text rest : List ℕ) (n : ℕ) (taken : Takes text rest n) → take (length text - length rest) text ≡ concat taken.lines
taken_front text rest n taken =
    let front = concat taken.lines in
    let size : length text - length rest ≡ length front = omega (arith, ap length taken.joined, length-append front rest) in
    ap (λ k. take k text) size ∙ ap (take (length front)) taken.joined ∙ take-append_seam front rest

-- so many lines are taken
pub taken_all : (text rest : List ℕ) (n count : ℕ) → Takes text rest n → n ≡ count
    → take (length text - length rest) text ≡ first_lines count text
taken_all text rest n count taken same =
    let size : length taken.lines ≡ count = omega (arith, taken.number, same) in
    taken_front text rest n taken
    ∙ ap concat (sym (take-append_seam taken.lines (ended_lines rest)))
    ∙ ap (λ k. concat (take k (taken.lines ++ ended_lines rest))) size
    ∙ ap (λ lines. concat (take count lines)) (sym taken.parts)

-- all lines are taken, and more are wanted
pub taken_fewer : (text rest : List ℕ) (n count : ℕ) → Takes text rest n → rest ≡ [] → n ≤ count
    → take (length text - length rest) text ≡ first_lines count text
taken_fewer text rest n count taken none more =
    let all : ended_lines text ≡ taken.lines =
    taken.parts ∙ ap (λ x. taken.lines ++ ended_lines x) none ∙ append-nil taken.lines in
    let size : length taken.lines ≤ count = omega (arith, taken.number) in
    taken_front text rest n taken
    ∙ ap concat (sym (take_all count taken.lines size))
    ∙ ap (λ lines. concat (take count lines)) (sym all)

neither : (p q : Bool) (x y z : List ℕ) → (p || q) ≡ false → cond p x (cond q y z) ≡ z
neither true q x y z plainly = absurd (cc)
neither false true x y z plainly = absurd (cc)
neither false false x y z plainly = refl

none_of : (p q : Bool) → ((p && false) || (q && false)) ≡ false
none_of true true = refl
none_of true false = refl
none_of false true = refl
none_of false false = refl

-- a text that isn't in units is in bytes
plain : (text : List ℕ) → is_in_units text ≡ false → in_bytes text ≡ text
plain [] plainly = refl
plain (a ∷ []) plainly = refl
plain (a ∷ b ∷ bytes) plainly =
    neither ((a == 255) && (b == 254)) ((a == 254) && (b == 255)) _ _ (a ∷ b ∷ bytes) plainly

-- nor is its front in units, above another line
plain_front : (front rest : List ℕ) → is_in_units (front ++ rest) ≡ false → is_in_units (front ++ 45 ∷ []) ≡ false
plain_front [] rest plainly = refl
plain_front (a ∷ []) rest plainly = none_of (a == 255) (a == 254)
plain_front (a ∷ b ∷ bytes) rest plainly = plainly

-- a text's lines are all of it
begun : (b : ℕ) (parts : List (List ℕ)) → concat (begin_part b parts) ≡ b ∷ concat parts
begun b [] = refl
begun b (part ∷ parts) = refl

joined_lines : (text : List ℕ) → concat (ended_lines text) ≡ text
joined_lines [] = refl
joined_lines (b ∷ bytes) =
    elim (is_line_end b) as (λ t. concat (cond t ((b ∷ []) ∷ ended_lines bytes) (begin_part b (ended_lines bytes))) ≡ b ∷ bytes) [
      | true ↦ ap (λ x. b ∷ x) (joined_lines bytes)
      | false ↦ begun b (ended_lines bytes) ∙ ap (λ x. b ∷ x) (joined_lines bytes)
    ]

-- the first lines, and those behind them
first_and_others : (text : List ℕ) (count : ℕ) → first_lines count text ++ concat (drop count (ended_lines text)) ≡ text
first_and_others text count =
    sym (concat-append (take count (ended_lines text)) (drop count (ended_lines text)))
    ∙ ap concat (take-append-drop count (ended_lines text)) ∙ joined_lines text

-- the LFs of the first lines' tidy text, above another line, are as many as the lines that stay
pub staying_is : (text bytes : List ℕ) (count n : ℕ) → is_in_units text ≡ false
    → bytes ≡ tidy (first_lines count text ++ 45 ∷ []) → n ≡ count_by is_line_end bytes → n ≡ staying_count text count
staying_is text bytes count n plainly made counted =
    let front = first_lines count text in
    let line : List ℕ = front ++ 45 ∷ [] in
    let bare = plain line (plain_front front (concat (drop count (ended_lines text))) (ap is_in_units (first_and_others text count) ∙ plainly)) in
    let lines = map respelled_line (map said_of (typed_lines line)) in
    let told : length (slice_split is_line_end (tidy line)) ≡ length (without_labels 0 lines) = ap length (tidy_typed line bare) in
    let ends : count_by is_line_end bytes ≡ count_by is_line_end (tidy line) = ap (count_by is_line_end) made in
    omega (
      arith,
      counted,
      ends,
      length-slice_split is_line_end (tidy line),
      told,
      length-labels 0 lines,
      length-map (map said_of (typed_lines line)) respelled_line,
      length-map (typed_lines line) said_of,
    )
