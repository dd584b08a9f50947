-- What a loop over lines or tokens has passed, and what is left.
use Rattle.std.proofs.Common.{◌≡◌, ℕ, ◌+◌, ◌≤◌, Option, Some, None, MatchOption, IfSome, IfNone, List, [], ◌∷◌, ◌++◌, length, map, refl, sym, ◌∙◌, ap, subst, arith}
use Rattle.std.proofs.lemmas.List.{append_assoc, append-nil, length-append, length-map}
use Rattle.fc_text.specs.Line.{Line, parts_of, is_line_end, without_return, line_of, lines_of, board_lines}
use Rattle.fc_text.specs.Spot.{HasLine}
use Rattle.fc_text.proofs.LineLoop.{lines_left}
use Rattle.fc_text.proofs.PartLemmas.{length-parts_of}

-- a loop over a list passed so many of its elements, of which a fact holds; the others are left
pub record Passed {A : Type 0} (P : List A → Type 0) (all left : List A) (count : ℕ) : Type 0 where
  pub front : List A
  pub parts : front ++ left ≡ all
  pub size : count ≡ length front
  pub so : P front

-- at first nothing is passed
pub pass_none : {A : Type 0} (P : List A → Type 0) (all left : List A) → left ≡ all → P [] → Passed P all left 0
pass_none P all left same so = record {
  front = [];
  parts = same;
  size = refl;
  so = so;
}

-- the next element is passed
pub pass_next : {A : Type 0} (P Q : List A → Type 0) (all left after : List A) (x : A) (count : ℕ) → Passed P all left count
    → left ≡ x ∷ after → ((front : List A) → count ≡ length front → P front → Q (front ++ x ∷ [])) → Passed Q all after (count + 1)
pass_next P Q all left after x count p first more = record {
  front = p.front ++ x ∷ [];
  parts = append_assoc p.front (x ∷ []) after ∙ ap (λ xs. p.front ++ xs) (sym first) ∙ p.parts;
  size = ap (λ k. k + 1) p.size ∙ sym (length-append p.front (x ∷ []));
  so = more p.front p.size p.so;
}

-- the next element stands behind those that were passed
pub pass_here : {A : Type 0} (P : List A → Type 0) (all left after : List A) (x : A) (count : ℕ) (p : Passed P all left count)
    → left ≡ x ∷ after → all ≡ p.front ++ x ∷ after
pass_here P all left after x count p first = sym p.parts ∙ ap (λ xs. p.front ++ xs) first

-- there is room to count the next element
pub pass_room : {A : Type 0} (P : List A → Type 0) (all left after : List A) (x : A) (count : ℕ) → Passed P all left count
    → left ≡ x ∷ after → count + 1 ≤ length all
pass_room P all left after x count p first =
    let size = ap length (pass_here P all left after x count p first) in
    omega (arith, size, length-append p.front (x ∷ after), p.size)

-- all elements are passed
pub pass_all : {A : Type 0} (P : List A → Type 0) (all left : List A) (count : ℕ) → Passed P all left count → left ≡ []
    → P all × (count ≡ length all)
pass_all P all left count p none =
    let whole : p.front ≡ all = sym (append-nil p.front) ∙ ap (λ xs. p.front ++ xs) (sym none) ∙ p.parts in
    (subst P whole p.so, p.size ∙ ap length whole)

-- a text has at most as many lines as bytes
pub lines_few : (text : List ℕ) → length (board_lines text) ≤ length text
lines_few text =
    let one = length-map (lines_of text) line_of in
    let two = length-map (parts_of is_line_end text) without_return in
    omega (arith, length-parts_of is_line_end text, one, two)

-- the first of the lines that are left
pub left_first : (rest after piece : List ℕ) → parts_of is_line_end rest ≡ piece ∷ parts_of is_line_end after
    → lines_left rest ≡ line_of (without_return piece) ∷ lines_left after
left_first rest after piece first = ap (λ ps. map line_of (map without_return ps)) first

-- the next line has the next number
pub line_here : (P : List Line → Type 0) (lines left after : List Line) (line : Line) (count : ℕ) → Passed P lines left count
    → left ≡ line ∷ after → (there : HasLine lines (count + 1) line) × P there.above
line_here P lines left after line count p first = (
  record {
    above = p.front;
    below = after;
    parts = pass_here P lines left after line count p first;
    place = ap (λ k. k + 1) p.size;
  },
  p.so,
)

-- what holds of each case of an option
pub cases_then : {A : Type 0} (r : Option A) (P Q : Type 0) (R S : A → Type 0) → MatchOption r P R → (P → Q) → ((x : A) → R x → S x)
    → MatchOption r Q S
cases_then None P Q R S given f g = f given
cases_then (Some x) P Q R S given f g = g x given

-- what holds of the value, where there is one
pub some_case : {A : Type 0} (r : Option A) (P : Type 0) (R : A → Type 0) → MatchOption r P R → IfSome r R
some_case None P R given = tt
some_case (Some x) P R given = given

-- what holds where there is no value
pub none_case : {A : Type 0} (r : Option A) (P : Type 0) (R : A → Type 0) → MatchOption r P R → IfNone r P
none_case None P R given = given
none_case (Some x) P R given = tt

-- no line is left
pub left_none : (rest : List ℕ) → parts_of is_line_end rest ≡ [] → lines_left rest ≡ []
left_none rest none = ap (λ ps. map line_of (map without_return ps)) none
