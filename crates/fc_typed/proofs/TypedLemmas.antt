-- Typed lines, and the pieces of a line.
use Rattle.std.proofs.Common.{◌≡◌, ℕ, suc, ◌+◌, ◌<◌, ◌||◌, ◌&&◌, Bool, true, false, not, cond, Option, Some, None, List, [], ◌∷◌, length, take, drop, refl, sym, ◌∙◌, ap, arith}
use Rattle.std.specs.Prelude.{position}
use Rattle.std.specs.List.{find, slice_get, slice_split}
use Rattle.std.proofs.lemmas.List.Splits.{length-slice_split}
use Rattle.std.proofs.lemmas.Option.{slice_get_past}
use Rattle.std.proofs.lemmas.Bool.{cond-true, cond-false}
use Rattle.fc_text.specs.Line.{is_line_end}
use Rattle.fc_typed.specs.Comment.{is_comment}
use Rattle.fc_typed.specs.Tidy.{without_signs}
use Rattle.fc_typed.specs.Title.{has_token, is_title}
use Rattle.fc_typed.specs.Typed.{beside_title, is_word_gap, is_made_of, said_of, lines_without_comments}
use Rattle.fc_typed.proofs.TidyLemmas.{first_line, first_part, one_line, one_part}

-- the lines that stay of those that are left, below nothing but blank ones or not
abbrev pub left_lines : Bool → List (List ℕ) → List (List ℕ)
left_lines top lines = cond top (beside_title (lines_without_comments lines)) (lines_without_comments lines)

-- whether a line vanishes that stands above others
abbrev does_vanish : Bool → List ℕ → Bool
does_vanish top line = is_comment (without_signs 0 line) || (top && (has_token (said_of line) && is_title (said_of line)))

uncommented_next : (line : List ℕ) (lines : List (List ℕ)) → 0 < length lines
    → lines_without_comments (line ∷ lines) ≡ cond (is_comment (without_signs 0 line)) (lines_without_comments lines) (line ∷ lines_without_comments lines)
uncommented_next line [] some' = absurd (omega arith)
uncommented_next line (x ∷ xs) some' = refl

beside_next : (line : List ℕ) (lines : List (List ℕ)) → 0 < length lines
    → beside_title (line ∷ lines) ≡ cond (has_token (said_of line)) (cond (is_title (said_of line)) lines (line ∷ lines)) (line ∷ beside_title lines)
beside_next line [] some' = absurd (omega arith)
beside_next line (x ∷ xs) some' = refl

-- a line is left
some_left : (lines : List (List ℕ)) → 0 < length lines → 0 < length (lines_without_comments lines)
some_left [] some' = some'
some_left (x ∷ []) some' = omega arith
some_left (x ∷ y ∷ ys) some' =
    elim (is_comment (without_signs 0 x)) as (λ b. 0 < length (cond b (lines_without_comments (y ∷ ys)) (x ∷ lines_without_comments (y ∷ ys)))) [
      | true ↦ some_left (y ∷ ys) (omega arith)
      | false ↦ omega arith
    ]

-- what has nothing but a comment says nothing
comment_blank : (line : List ℕ) → is_comment (without_signs 0 line) ≡ true → has_token (said_of line) ≡ false
comment_blank line so = ap has_token (cond-true _ _ _ so)

-- one line on
module _ (line : List ℕ) (lines : List (List ℕ)) (some' : 0 < length lines) where
  gone : is_comment (without_signs 0 line) ≡ true → lines_without_comments (line ∷ lines) ≡ lines_without_comments lines
  gone so = uncommented_next line lines some' ∙ cond-true _ _ _ so

  stays : is_comment (without_signs 0 line) ≡ false → lines_without_comments (line ∷ lines) ≡ line ∷ lines_without_comments lines
  stays so = uncommented_next line lines some' ∙ cond-false _ _ _ so

  beside : is_comment (without_signs 0 line) ≡ false → beside_title (lines_without_comments (line ∷ lines))
      ≡ cond (has_token (said_of line)) (cond (is_title (said_of line)) (lines_without_comments lines) (line ∷ lines_without_comments lines)) (line ∷ beside_title (lines_without_comments lines))
  beside so = ap beside_title (stays so) ∙ beside_next line (lines_without_comments lines) (some_left lines some')

  left_cases : (top comment token title : Bool) → is_comment (without_signs 0 line) ≡ comment → has_token (said_of line) ≡ token
      → is_title (said_of line) ≡ title
      → left_lines top (line ∷ lines) ≡ cond (comment || (top && (token && title))) (left_lines (top && not token) lines) (line ∷ left_lines (top && not token) lines)
  left_cases top true true title c t i = absurd (cc (sym t ∙ comment_blank line c))
  left_cases true true false title c t i = ap beside_title (gone c)
  left_cases false true false title c t i = gone c
  left_cases false false token title c t i = stays c
  left_cases true false true true c t i = beside c ∙ cond-true _ _ _ t ∙ cond-true _ _ _ i
  left_cases true false true false c t i = beside c ∙ cond-true _ _ _ t ∙ cond-false _ _ _ i
  left_cases true false false title c t i = beside c ∙ cond-false _ _ _ t

  left_next : (top : Bool) → left_lines top (line ∷ lines)
      ≡ cond (does_vanish top line) (left_lines (top && not (has_token (said_of line))) lines) (line ∷ left_lines (top && not (has_token (said_of line))) lines)
  left_next top = left_cases top (is_comment (without_signs 0 line)) (has_token (said_of line)) (is_title (said_of line)) refl refl refl

-- whether a line vanishes that says this
abbrev pub Vanishes : Bool → List ℕ → List ℕ → Bool → Type 0
Vanishes top line said v =
    (said ≡ said_of line) × (v ≡ (is_comment (without_signs 0 line) || (top && (has_token said && is_title said))))

vanish_same : (top : Bool) (line said : List ℕ) (v : Bool) → Vanishes top line said v → v ≡ does_vanish top line
vanish_same top line said v is =
    is.1 ∙ ap (λ s. is_comment (without_signs 0 line) || (top && (has_token s && is_title s))) is.0

-- a text whose first line ends with an LF, and the line sought among those that are left
module _ (rest after said : List ℕ) (len : ℕ) (top v : Bool) (sought : Option (List ℕ)) (found : position is_line_end rest ≡ Some len)
    (left : after ≡ drop (len + 1) rest) (is : Vanishes top (take len rest) said v) where
  abbrev first : List ℕ
  first = take len rest

  abbrev below : Bool
  below = top && not (has_token (said_of first))

  cut : left_lines top (slice_split is_line_end rest)
      ≡ cond v (left_lines below (slice_split is_line_end after)) (first ∷ left_lines below (slice_split is_line_end after))
  cut = ap (left_lines top) (first_line rest after len found left)
      ∙ left_next first (slice_split is_line_end after) (omega (arith, length-slice_split is_line_end after)) top
      ∙ ap (λ b. cond b (left_lines below (slice_split is_line_end after)) (first ∷ left_lines below (slice_split is_line_end after)))
      (sym (vanish_same top first said v is))

  -- it is the first one
  pub line_here : (n : ℕ) → n ≡ 0 → v ≡ false → slice_get (left_lines top (slice_split is_line_end rest)) n ≡ sought → Some first ≡ sought
  line_here n none stays so = sym (ap (slice_get (left_lines top (slice_split is_line_end rest))) none ∙ ap (λ ls. slice_get ls 0) (cut ∙ cond-false _ _ _ stays)) ∙ so

  -- or one behind it
  module _ (next : Bool) (n m : ℕ) (turned : next ≡ (top && not (has_token said)))
      (so : slice_get (left_lines top (slice_split is_line_end rest)) n ≡ sought) where
    same : left_lines next (slice_split is_line_end after) ≡ left_lines below (slice_split is_line_end after)
    same = ap (λ b. left_lines b (slice_split is_line_end after)) (turned ∙ ap (λ s. top && not (has_token s)) is.0)

    pub line_gone : v ≡ true → m ≡ n → slice_get (left_lines next (slice_split is_line_end after)) m ≡ sought
    line_gone gone' count =
        ap (slice_get (left_lines next (slice_split is_line_end after))) count
        ∙ ap (λ ls. slice_get ls n) (same ∙ sym (cut ∙ cond-true _ _ _ gone')) ∙ so

    pub line_passed : v ≡ false → n ≡ suc m → slice_get (left_lines next (slice_split is_line_end after)) m ≡ sought
    line_passed stays' count =
        ap (λ ls. slice_get ls m) same
        ∙ ap (λ ls. slice_get ls (suc m)) (sym (cut ∙ cond-false _ _ _ stays'))
        ∙ ap (slice_get (left_lines top (slice_split is_line_end rest))) (sym count) ∙ so

-- the last line stays
line_last : (rest : List ℕ) (top : Bool) → position is_line_end rest ≡ None → left_lines top (slice_split is_line_end rest) ≡ rest ∷ []
line_last rest true none = ap (left_lines true) (one_line rest none)
line_last rest false none = ap (left_lines false) (one_line rest none)

pub last_here : (rest : List ℕ) (top : Bool) (n : ℕ) (sought : Option (List ℕ)) → position is_line_end rest ≡ None → n ≡ 0
    → slice_get (left_lines top (slice_split is_line_end rest)) n ≡ sought → Some rest ≡ sought
last_here rest top n sought none first so =
    sym (ap (slice_get (left_lines top (slice_split is_line_end rest))) first ∙ ap (λ ls. slice_get ls 0) (line_last rest top none)) ∙ so

pub none_left : (rest : List ℕ) (top : Bool) (n : ℕ) (sought : Option (List ℕ)) → position is_line_end rest ≡ None → (n ≡ 0 → ⊥)
    → slice_get (left_lines top (slice_split is_line_end rest)) n ≡ sought → None ≡ sought
none_left rest top n sought none more so =
    sym (ap (λ ls. slice_get ls n) (line_last rest top none) ∙ slice_get_past (rest ∷ []) n (omega (arith, more))) ∙ so

-- the piece sought among those that are left: the first, or one behind it
module _ (word rest after : List ℕ) (len : ℕ) (v : Bool) (sought : Option (List ℕ)) (found : position is_word_gap rest ≡ Some len)
    (left : after ≡ drop (len + 1) rest) (is : v ≡ is_made_of word (take len rest))
    (so : find (is_made_of word) (slice_split is_word_gap rest) ≡ sought) where
  parted : cond v (Some (take len rest)) (find (is_made_of word) (slice_split is_word_gap after)) ≡ sought
  parted = ap (λ b. cond b (Some (take len rest)) (find (is_made_of word) (slice_split is_word_gap after))) is
      ∙ sym (ap (find (is_made_of word)) (first_part is_word_gap rest after len found left)) ∙ so

  pub piece_here : v ≡ true → Some (take len rest) ≡ sought
  piece_here made = sym (cond-true _ _ _ made) ∙ parted

  pub piece_behind : v ≡ false → find (is_made_of word) (slice_split is_word_gap after) ≡ sought
  piece_behind other = sym (cond-false _ _ _ other) ∙ parted

-- the last piece, or none
pub piece_last : (word rest : List ℕ) (v : Bool) (sought : Option (List ℕ)) → position is_word_gap rest ≡ None → v ≡ is_made_of word rest
    → find (is_made_of word) (slice_split is_word_gap rest) ≡ sought → cond v (Some rest) None ≡ sought
piece_last word rest v sought none is so =
    ap (λ b. cond b (Some rest) None) is ∙ sym (ap (find (is_made_of word)) (one_part is_word_gap rest none)) ∙ so
