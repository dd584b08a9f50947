-- Titles: what the loops keep that look for one, and that no line is one that the reader accepts.
use Rattle.std.proofs.Common.{◌≡◌, ℕ, suc, ◌+◌, ◌<◌, ◌≤◌, ◌||◌, Bool, true, false, cond, Option, Some, None, List, [], ◌∷◌, ◌++◌, length, take, drop, refl, sym, ◌∙◌, ap, subst, ⊎_elim, arith}
use Rattle.std.specs.Prelude.{All, Contains, position}
use Rattle.std.specs.List.{join_with_byte, slice_split}
use Rattle.std.proofs.lemmas.List.{append_assoc, length-append}
use Rattle.std.proofs.lemmas.List.Elements.{All-head, All-tail}
use Rattle.std.proofs.lemmas.List.Splits.{join_with_byte-slice_split, length-slice_split}
use Rattle.std.proofs.lemmas.Bool.{and_parts, cases_Bool, cond_both, cond-true, cond-false}
use Rattle.fc_text.specs.Fault.{IsNoCard}
use Rattle.fc_text.specs.Line.{after_blanks, after_colon, after_name, cell_names, foundation_names, is_line_end, line_of, sorted_line, tokens_of, without_return}
use Rattle.fc_text.specs.Spelling.{is_column}
use Rattle.fc_typed.specs.Tidy.{is_column_line, without_label}
use Rattle.fc_typed.specs.Respelled.{after_label}
use Rattle.fc_typed.specs.Title.{any_token, begins_word, has_token, has_word, is_title, title_in, lines_without_title, without_title}
use Rattle.fc_typed.proofs.LineLemmas.{after_blanks-label, label_or_not, return-front}
use Rattle.fc_typed.proofs.MeaningLemmas.{IsCleanPart, colon_sorted, label_after, label_or_colon}
use Rattle.fc_typed.proofs.TidyLemmas.{first_line, join-cons, one_line, told_line}
use Rattle.fc_typed.proofs.SpelledLemmas.{IsClean, label_bad}
use Rattle.fc_typed.proofs.StayLemmas.{untitled_some}

-- the lines without a title, one line on
untitled_next : (line : List ℕ) (lines : List (List ℕ)) → 0 < length lines
    → lines_without_title (line ∷ lines) ≡ cond (has_token line) (cond (is_title line) lines (line ∷ lines)) (line ∷ lines_without_title lines)
untitled_next line [] some' = absurd (omega arith)
untitled_next line (x ∷ xs) some' = refl

title_next : (line : List ℕ) (lines : List (List ℕ)) → 0 < length lines
    → title_in (line ∷ lines) ≡ cond (has_token line) (cond (is_title line) (Some line) None) (title_in lines)
title_next line [] some' = absurd (omega arith)
title_next line (x ∷ xs) some' = refl

-- a text whose first line ends with an LF
module _ (rest after : List ℕ) (len : ℕ) (found : position is_line_end rest ≡ Some len) (left : after ≡ drop (len + 1) rest) where
  abbrev first : List ℕ
  first = take len rest

  abbrev others : List (List ℕ)
  others = slice_split is_line_end after

  some_others : 0 < length others
  some_others = omega (arith, length-slice_split is_line_end after)

  cut : slice_split is_line_end rest ≡ first ∷ others
  cut = first_line rest after len found left

  title_cut : title_in (slice_split is_line_end rest) ≡ cond (has_token first) (cond (is_title first) (Some first) None) (title_in others)
  title_cut = ap title_in cut ∙ title_next first others some_others

  untitled_cut : lines_without_title (slice_split is_line_end rest) ≡ cond (has_token first) (cond (is_title first) others (first ∷ others)) (first ∷ lines_without_title others)
  untitled_cut = ap lines_without_title cut ∙ untitled_next first others some_others

  -- the title, or none, where the first line has more than blanks
  pub title_here : has_token first ≡ true → is_title first ≡ true → title_in (slice_split is_line_end rest) ≡ Some first
  title_here token title = title_cut ∙ cond-true _ _ _ token ∙ cond-true _ _ _ title

  pub no_title_here : has_token first ≡ true → is_title first ≡ false → title_in (slice_split is_line_end rest) ≡ None
  no_title_here token title = title_cut ∙ cond-true _ _ _ token ∙ cond-false _ _ _ title

  -- else the lines behind it decide
  pub title_behind : has_token first ≡ false → title_in (slice_split is_line_end rest) ≡ title_in others
  title_behind token = title_cut ∙ cond-false _ _ _ token

  -- the text so far, once a line of blanks was pushed
  pub blanks_pushed : (whole done mid new : List ℕ) → done ++ without_title rest ≡ whole → has_token first ≡ false → mid ≡ done ++ first
      → new ≡ mid ++ 10 ∷ [] → new ++ without_title after ≡ whole
  blanks_pushed whole done mid new so token pushed ended =
      let tail = without_title after in
      let told : without_title rest ≡ first ++ 10 ∷ tail =
      ap (join_with_byte 10) (untitled_cut ∙ cond-false _ _ _ token) ∙ join-cons first (lines_without_title others) (untitled_some others some_others) in
      ap (λ t. t ++ tail) (ended ∙ ap (λ t. t ++ 10 ∷ []) pushed) ∙ append_assoc (done ++ first) (10 ∷ []) tail
      ∙ append_assoc done first (10 ∷ tail) ∙ ap (λ t. done ++ t) (sym told) ∙ so

  -- the whole text, once what stands behind its title was pushed
  pub title_left : (whole done new : List ℕ) → done ++ without_title rest ≡ whole → has_token first ≡ true → is_title first ≡ true
      → new ≡ done ++ after → new ≡ whole
  title_left whole done new so token title pushed =
      let told : without_title rest ≡ after =
      ap (join_with_byte 10) (untitled_cut ∙ cond-true _ _ _ token ∙ cond-true _ _ _ title) ∙ join_with_byte-slice_split 10 after in
      pushed ∙ ap (λ t. done ++ t) (sym told) ∙ so

  -- or the whole rest where there is none
  pub no_title_left : (whole done new : List ℕ) → done ++ without_title rest ≡ whole → has_token first ≡ true → is_title first ≡ false
      → new ≡ done ++ rest → new ≡ whole
  no_title_left whole done new so token title pushed =
      let told : without_title rest ≡ rest =
      ap (join_with_byte 10) (untitled_cut ∙ cond-true _ _ _ token ∙ cond-false _ _ _ title ∙ sym cut) ∙ join_with_byte-slice_split 10 rest in
      pushed ∙ ap (λ t. done ++ t) (sym told) ∙ so

-- a text without an LF has no title
pub last_title : (rest : List ℕ) → position is_line_end rest ≡ None → title_in (slice_split is_line_end rest) ≡ None
last_title rest none = ap title_in (one_line rest none)

pub last_untitled : (whole done rest new : List ℕ) → done ++ without_title rest ≡ whole → position is_line_end rest ≡ None
    → new ≡ done ++ rest → new ≡ whole
last_untitled whole done rest new so none pushed =
    pushed ∙ ap (λ t. done ++ t) (sym (ap (λ ls. join_with_byte 10 (lines_without_title ls)) (one_line rest none))) ∙ so

-- the tokens that are left decide whether one is so
pub any_skips : (is : List ℕ → Bool) (left after : List (List ℕ)) (token : List ℕ) (b : Bool) → left ≡ token ∷ after → is token ≡ false
    → any_token is left ≡ b → any_token is after ≡ b
any_skips is left after token b first other so = sym (ap (λ t. t || any_token is after) other) ∙ sym (ap (any_token is) first) ∙ so

pub any_found : (is : List ℕ → Bool) (left after : List (List ℕ)) (token : List ℕ) (b : Bool) → left ≡ token ∷ after → is token ≡ true
    → any_token is left ≡ b → true ≡ b
any_found is left after token b first here so = sym (ap (λ t. t || any_token is after) here) ∙ sym (ap (any_token is) first) ∙ so

pub any_ended : (is : List ℕ → Bool) (left : List (List ℕ)) (b : Bool) → left ≡ [] → any_token is left ≡ b → false ≡ b
any_ended is left b none so = sym (ap (any_token is) none) ∙ so

-- the bytes that are left decide whether there is a word
pub word_skips : (rest others : List ℕ) (x : ℕ) (b : Bool) → rest ≡ x ∷ others → begins_word rest ≡ false → has_word rest ≡ b → has_word others ≡ b
word_skips rest others x b first other so =
    sym (ap (λ t. t || has_word others) (sym (ap begins_word first) ∙ other)) ∙ sym (ap has_word first) ∙ so

pub word_found : (rest others : List ℕ) (x : ℕ) (b : Bool) → rest ≡ x ∷ others → begins_word rest ≡ true → has_word rest ≡ b → true ≡ b
word_found rest others x b first here so =
    sym (ap (λ t. t || has_word others) (sym (ap begins_word first) ∙ here)) ∙ sym (ap has_word first) ∙ so

-- one of the tokens is so
any_one : (is : List ℕ → Bool) (tokens : List (List ℕ)) → any_token is tokens ≡ true
    → (token : List ℕ) × Contains tokens token × (is token ≡ true)
any_one is [] e = absurd (cc e)
any_one is (t ∷ ts) e =
    elim (is t) as (λ b. is t ≡ b → (b || any_token is ts) ≡ true → (token : List ℕ) × Contains (t ∷ ts) token × (is token ≡ true)) [
      | true ↦ λ here _. (t, (0, omega arith, refl), here)
      | false ↦ λ _ f.
          let more = any_one is ts f in
          let at = more.1 in
          let below = at.1 in
          (more.0, (suc at.0, omega arith, at.2), more.2)
    ] refl e

-- no card has a word
begun_long : (t : List ℕ) → begins_word t ≡ true → 4 ≤ length t
begun_long [] e = absurd (cc e)
begun_long (a ∷ []) e = absurd (cc e)
begun_long (a ∷ b ∷ []) e = absurd (cc e)
begun_long (a ∷ b ∷ c ∷ []) e = absurd (cc e)
begun_long (a ∷ b ∷ c ∷ d ∷ bytes) e = omega arith

pub word_long : (t : List ℕ) → has_word t ≡ true → 4 ≤ length t
word_long [] e = absurd (cc e)
word_long (b ∷ bytes) e =
    elim (begins_word (b ∷ bytes)) as (λ x. begins_word (b ∷ bytes) ≡ x → (x || has_word bytes) ≡ true → 4 ≤ length (b ∷ bytes)) [
      | true ↦ λ here _. begun_long (b ∷ bytes) here
      | false ↦ λ _ f. omega (arith, word_long bytes f)
    ] refl e

word_no_card : (t : List ℕ) → has_word t ≡ true → IsNoCard t
word_no_card t word c card =
    let text = card.text in
    let size = ap length text.parts ∙ length-append text.rank_part (text.suit_part ∷ []) in
    ⊎_elim
    (λ one. omega (arith, size, ap length one.1, word_long t word))
    (λ ten. omega (arith, size, ap length ten.1, word_long t word))
    text.spells_rank

-- no token of a clean column line is bad
abbrev NoBadToken : List ℕ → Type 0
NoBadToken piece = (token : List ℕ) → Contains (tokens_of piece) token → IsNoCard token → ⊥

column_clean : (homes cells : Option (List ℕ)) (rest : List ℕ) → is_column (sorted_line homes cells rest).kind ≡ true
    → IsClean (sorted_line homes cells rest) → IsClean (sorted_line None None rest)
column_clean None None rest is clean = clean
column_clean None (Some piece) rest is clean = absurd (cc is)
column_clean (Some piece) cells rest is clean = absurd (cc is)

none_bad : (rest : List ℕ) → IsClean (sorted_line None None rest) → NoBadToken (after_colon rest)
none_bad rest clean token found other = clean.card (token, found, other)

body_clean : (line : List ℕ) → is_column (line_of line).kind ≡ true → IsClean (line_of line) → NoBadToken (after_label (after_blanks line))
body_clean line is clean =
    let rest = after_blanks line in
    let here = none_bad rest (column_clean (after_name foundation_names rest) (after_name cell_names rest) rest is clean) in
    ⊎_elim
    (λ colon. subst NoBadToken (sym colon) here)
    (λ label. absurd (label_bad line label.0 label.1 is label.2 label.3 clean))
    (label_or_colon rest)

part_clean : (before : ℕ) (part : List ℕ) → is_column_line part ≡ true → IsCleanPart (told_line before part)
    → NoBadToken (after_label (after_blanks (without_return part)))
part_clean before part is clean =
    let told : told_line before part ≡ without_label before part = cond-true _ (without_label before part) part is in
    let here = subst IsCleanPart told clean in
    ⊎_elim
    (λ found.
    let rest = without_return found.rest in
    let piece : after_label (after_blanks (without_return part)) ≡ rest =
    ap after_label (after_blanks-label before part found) ∙ label_after before rest found.few in
    let shown : line_of (without_return (without_label before part)) ≡ sorted_line None None (58 ∷ rest) =
    ap (λ t. line_of (without_return t)) found.told ∙ ap line_of (return-front found.blanks found.rest)
    ∙ colon_sorted found.blanks rest found.only_blanks in
    subst NoBadToken (sym piece) (none_bad (58 ∷ rest) (subst IsClean shown here)))
    (λ same. body_clean (without_return part) is (subst IsCleanPart same here))
    (label_or_not before part)

-- so it is no title
abbrev pub Untitled : List ℕ → Type 0
Untitled line = is_title line ≡ false

pub untitled_part : (before : ℕ) (part : List ℕ) → IsCleanPart (told_line before part) → Untitled part
untitled_part before part clean = ⊎_elim
    (λ title.
    let both = and_parts (is_column_line part) _ title in
    let tokens = tokens_of (after_label (after_blanks (without_return part))) in
    let word = any_one has_word tokens (and_parts (any_token has_word tokens) _ both.1).0 in
    absurd (part_clean before part both.0 clean word.0 word.1 (word_no_card word.0 word.2)))
    (λ other. other)
    (cases_Bool (is_title part))

-- lines without a title stay
pub untitled_stay : (lines : List (List ℕ)) → All Untitled lines → lines_without_title lines ≡ lines
untitled_stay [] all = refl
untitled_stay (x ∷ []) all = refl
untitled_stay (x ∷ y ∷ ys) all =
    cond_both (has_token x) (cond (is_title x) (y ∷ ys) (x ∷ y ∷ ys)) (x ∷ lines_without_title (y ∷ ys)) (λ ls. ls ≡ x ∷ y ∷ ys)
    (λ _. cond-false (is_title x) (y ∷ ys) (x ∷ y ∷ ys) (All-head Untitled x (y ∷ ys) all))
    (λ _. ap (λ ls. x ∷ ls) (untitled_stay (y ∷ ys) (All-tail Untitled x (y ∷ ys) all)))
