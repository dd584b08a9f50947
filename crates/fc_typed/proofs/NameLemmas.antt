-- Further names of lines, and numbers that are marked otherwise: no line that the reader accepts begins so.
use Rattle.std.proofs.Common.{◌≡◌, ℕ, ◌+◌, ◌<◌, ◌==◌, ◌||◌, ◌&&◌, Bool, true, false, not, cond, Option, Some, None, List, [], ◌∷◌, ◌++◌, length, map, take, drop, inl, inr, refl, sym, ◌∙◌, ap, subst, ⊎_elim, arith}
use Rattle.std.specs.Prelude.{filter}
use Rattle.std.specs.Char.{to_ascii_lowercase, to_ascii_uppercase}
use Rattle.std.proofs.lemmas.List.{take-append-le}
use Rattle.std.proofs.lemmas.Bool.{and_parts, cases_Bool, cond-true, cond-false}
use Rattle.std.proofs.lemmas.Bool.Decides.{nat_tests}
use Rattle.std.proofs.lemmas.Slice.Eq.{bytes_eq-Decides}
use Rattle.fc_cards.specs.Card.{rank}
use Rattle.fc_cards.specs.Texts.{IsRank, rank_letter}
use Rattle.fc_cards.proofs.EachRank.{by_rank}
use Rattle.fc_text.specs.Fault.{IsNoCard}
use Rattle.fc_text.specs.Line.{after_blanks, after_colon, after_name, begin_part, begins_with, cell_names, foundation_names, is_blank, is_token, line_of, parts_of, sorted_line, tokens_of, without_return}
use Rattle.fc_typed.specs.Comment.{blanks_of, is_column_digit, more_cell_names, more_home_names}
use Rattle.fc_typed.specs.Tidy.{is_column_line, without_label}
use Rattle.fc_typed.proofs.AnyLemmas.{AnyOf}
use Rattle.fc_typed.proofs.CommentLemmas.{fits_long}
use Rattle.fc_typed.proofs.LineLemmas.{IsLabelled, after_blanks-front, after_blanks-label, blanks_blank, label_or_not, return-front_of}
use Rattle.fc_typed.proofs.TidyLemmas.{told_line}
use Rattle.fc_typed.proofs.SortedLemmas.{blanks_parts, return_parts}
use Rattle.fc_typed.proofs.SpelledLemmas.{IsClean, first_contained, one_begun}

-- two names differ where both have a letter
abbrev differ : List ℕ → List ℕ → Bool
differ [] m = false
differ (a ∷ n) [] = false
differ (a ∷ n) (b ∷ m) = not (to_ascii_lowercase a == to_ascii_lowercase b) || differ n m

abbrev differ_from : List ℕ → List (List ℕ) → Bool
differ_from n [] = true
differ_from n (m ∷ names) = differ n m && differ_from n names

abbrev all_differ : List (List ℕ) → List (List ℕ) → Bool
all_differ [] names = true
all_differ (n ∷ more) names = differ_from n names && all_differ more names

-- the piece begins with a name, in the letters of one case
abbrev Fits : List ℕ → List ℕ → Type 0
Fits rest name = map to_ascii_lowercase (take (length name) rest) ≡ map to_ascii_lowercase name

fits : (rest name : List ℕ) → begins_with rest name ≡ true → Fits rest name
fits rest name e = (bytes_eq-Decides (map to_ascii_lowercase (take (length name) rest)) (map to_ascii_lowercase name)).0 e

apart : (rest n m : List ℕ) → differ n m ≡ true → Fits rest n → Fits rest m → ⊥
apart rest [] m e p q = cc e
apart rest (a ∷ n) [] e p q = cc e
apart [] (a ∷ n) (b ∷ m) e p q = cc p
apart (x ∷ rest) (a ∷ n) (b ∷ m) e p q =
    let one : to_ascii_lowercase x ≡ to_ascii_lowercase a = cc p in
    let two : to_ascii_lowercase x ≡ to_ascii_lowercase b = cc q in
    let ones : Fits rest n = cc p in
    let twos : Fits rest m = cc q in
    elim (differ n m) as (λ t. differ n m ≡ t → (not (to_ascii_lowercase a == to_ascii_lowercase b) || t) ≡ true → ⊥) [
      | true ↦ λ d _. apart rest n m d ones twos
      | false ↦ λ _ f.
          let same : to_ascii_lowercase a ≡ to_ascii_lowercase b = sym one ∙ two in grind (arith, nat_tests)
    ] refl e

-- the piece begins with one of the names
abbrev BeginsOne : List (List ℕ) → List ℕ → Type 0
BeginsOne names rest = AnyOf (λ name. begins_with rest name ≡ true) names

begins_one : (names : List (List ℕ)) (rest piece : List ℕ) → after_name names rest ≡ Some piece → BeginsOne names rest
begins_one [] rest piece found = absurd (cc found)
begins_one (n ∷ names) rest piece found =
    elim (begins_with rest n) as (λ t. begins_with rest n ≡ t → cond t (Some (drop (length n) rest)) (after_name names rest) ≡ Some piece → BeginsOne (n ∷ names) rest) [
      | true ↦ λ e _. inl e
      | false ↦ λ _ f. inr (begins_one names rest piece f)
    ] refl found

none_of : (n : List ℕ) (names : List (List ℕ)) (rest : List ℕ) → differ_from n names ≡ true → Fits rest n → BeginsOne names rest → ⊥
none_of n [] rest e p any = any
none_of n (m ∷ names) rest e p any =
    let both = and_parts (differ n m) (differ_from n names) e in
    ⊎_elim (λ here. apart rest n m both.0 p (fits rest m here)) (λ there. none_of n names rest both.1 p there) any

no_two : (more names : List (List ℕ)) (rest : List ℕ) → all_differ more names ≡ true → BeginsOne more rest → BeginsOne names rest → ⊥
no_two [] names rest e any other = any
no_two (n ∷ more) names rest e any other =
    let both = and_parts (differ_from n names) (all_differ more names) e in
    ⊎_elim (λ here. none_of n names rest both.0 (fits rest n here) other) (λ there. no_two more names rest both.1 there other) any

-- with more behind it, a piece still begins so
begins_longer : (names : List (List ℕ)) (rest more : List ℕ) → BeginsOne names rest → BeginsOne names (rest ++ more)
begins_longer [] rest more any = any
begins_longer (n ∷ names) rest more any = ⊎_elim
    (λ here.
    let long = fits_long rest n here in
    let same : take (length n) (rest ++ more) ≡ take (length n) rest = take-append-le (length n) rest more long in
    inl ((bytes_eq-Decides (map to_ascii_lowercase (take (length n) (rest ++ more))) (map to_ascii_lowercase n)).1
    (ap (map to_ascii_lowercase) same ∙ fits rest n here)))
    (λ there. inr (begins_longer names rest more there)) any

-- a further name is none that the reader knows
cells_differ_homes : all_differ more_cell_names foundation_names ≡ true
cells_differ_homes = refl

cells_differ : all_differ more_cell_names cell_names ≡ true
cells_differ = refl

homes_differ : all_differ more_home_names foundation_names ≡ true
homes_differ = refl

homes_differ_cells : all_differ more_home_names cell_names ≡ true
homes_differ_cells = refl

is_none : {A : Type 0} (o : Option A) → ((x : A) → o ≡ Some x → ⊥) → o ≡ None
is_none None none = refl
is_none (Some x) none = absurd (none x refl)

other_name : (more names : List (List ℕ)) (rest behind : List ℕ) → all_differ more names ≡ true → BeginsOne more (rest ++ behind)
    → after_name names rest ≡ None
other_name more names rest behind e any =
    is_none (after_name names rest)
    (λ piece found. no_two more names (rest ++ behind) e any (begins_longer names rest behind (begins_one names rest piece found)))

-- names that begin with one of some letters
abbrev begin_so : (ℕ → Bool) → List (List ℕ) → Bool
begin_so p [] = true
begin_so p ([] ∷ names) = false
begin_so p ((n ∷ name) ∷ names) = p (to_ascii_lowercase n) && begin_so p names

pub record BeginsSo (p : ℕ → Bool) (rest : List ℕ) : Type 0 where
  pub letter : ℕ
  pub more : List ℕ
  pub parts : rest ≡ letter ∷ more
  pub so : p (to_ascii_lowercase letter) ≡ true

fits_so : (p : ℕ → Bool) (rest : List ℕ) (n : ℕ) (name : List ℕ) → p (to_ascii_lowercase n) ≡ true
    → begins_with rest (n ∷ name) ≡ true → BeginsSo p rest
fits_so p [] n name so e = absurd (cc (fits [] (n ∷ name) e))
fits_so p (x ∷ rest) n name so e =
    let same = fits (x ∷ rest) (n ∷ name) e in
    let here : to_ascii_lowercase x ≡ to_ascii_lowercase n = cc same in
    record { letter = x; more = rest; parts = refl; so = ap p here ∙ so }

begins_so : (p : ℕ → Bool) (names : List (List ℕ)) (rest : List ℕ) → begin_so p names ≡ true → BeginsOne names rest → BeginsSo p rest
begins_so p [] rest so any = absurd any
begins_so p ([] ∷ names) rest so any = absurd (cc so)
begins_so p ((n ∷ name) ∷ names) rest so any =
    let both = and_parts (p (to_ascii_lowercase n)) (begin_so p names) so in
    ⊎_elim (λ here. fits_so p rest n name both.0 here) (λ there. begins_so p names rest both.1 there) any

-- the letters C, F and H, in either case, begin further names, and no card
is_name_letter : ℕ → Bool
is_name_letter b = (b == 99) || ((b == 102) || (b == 104))

cells_so : begin_so is_name_letter more_cell_names ≡ true
unfolding is_name_letter
cells_so = refl

homes_so : begin_so is_name_letter more_home_names ≡ true
unfolding is_name_letter
homes_so = refl

-- names that the reader knows begin with D and F
is_known_letter : ℕ → Bool
is_known_letter b = (b == 100) || (b == 102)

foundations_known : begin_so is_known_letter foundation_names ≡ true
unfolding is_known_letter
foundations_known = refl

cells_known : begin_so is_known_letter cell_names ≡ true
unfolding is_known_letter
cells_known = refl

abbrev IsNameLetter : ℕ → Type 0
IsNameLetter x = is_name_letter (to_ascii_lowercase x) ≡ true

letter_no_blank : (x : ℕ) → IsNameLetter x → is_blank x ≡ false
unfolding is_name_letter
letter_no_blank x so = grind (arith, nat_tests)

letter_no_return : (x : ℕ) → IsNameLetter x → (x == 13) ≡ false
unfolding is_name_letter
letter_no_return x so = grind (arith, nat_tests)

letter_no_colon : (x : ℕ) → IsNameLetter x → (x == 58) ≡ false
unfolding is_name_letter
letter_no_colon x so = grind (arith, nat_tests)

letter_no_digit : (n : ℕ) → n < 8 → IsNameLetter (49 + n) → ⊥
unfolding is_name_letter
letter_no_digit n few so = grind (arith, nat_tests)

letter_no_one : (x : ℕ) → IsNameLetter x → x ≡ 49 → ⊥
unfolding is_name_letter
letter_no_one x so e = grind (arith, nat_tests)

letter_upper : (x : ℕ) → IsNameLetter x → is_name_letter (to_ascii_lowercase (to_ascii_uppercase x)) ≡ true
unfolding is_name_letter
letter_upper x so = grind (arith, nat_tests)

rank_no_name : (r : ℕ) → IsRank r → is_name_letter (to_ascii_lowercase (rank_letter r)) ≡ false
unfolding is_name_letter
rank_no_name =
    by_rank (λ r. is_name_letter (to_ascii_lowercase (rank_letter r)) ≡ false) refl refl refl refl refl refl refl refl refl refl refl refl refl

letter_no_card : (x : ℕ) (more : List ℕ) → IsNameLetter x → IsNoCard (x ∷ more)
letter_no_card x more so c card =
    let below = card.below in
    let text = card.text in
    ⊎_elim
    (λ one.
    let same : x ∷ more ≡ one.0 ∷ text.suit_part ∷ [] = text.parts ∙ ap (λ r. r ++ text.suit_part ∷ []) one.1 in
    let here : x ≡ one.0 = cc same in
    let none = rank_no_name (rank c) (record { least = omega arith; greatest = omega arith }) in
    absurd (cc (sym (letter_upper x so) ∙ ap (λ b. is_name_letter (to_ascii_lowercase (to_ascii_uppercase b))) here
    ∙ ap (λ b. is_name_letter (to_ascii_lowercase b)) one.2 ∙ none)))
    (λ ten.
    let same : x ∷ more ≡ 49 ∷ 48 ∷ text.suit_part ∷ [] = text.parts ∙ ap (λ r. r ++ text.suit_part ∷ []) ten.1 in
    let here : x ≡ 49 = cc same in
    absurd (letter_no_one x so here))
    text.spells_rank

-- a line without a name that begins with such a letter isn't clean
letter_bad : (x : ℕ) (rest : List ℕ) → IsNameLetter x → IsClean (sorted_line None None (x ∷ rest)) → ⊥
letter_bad x rest so clean =
    let parts = parts_of is_blank rest in
    let begun = one_begun x parts in
    let token = x ∷ begun.0 in
    let tokens : tokens_of (after_colon (x ∷ rest)) ≡ token ∷ begun.1 =
    ap tokens_of (cond-false (x == 58) rest (x ∷ rest) (letter_no_colon x so))
    ∙ ap (λ t. filter is_token (cond t ([] ∷ parts) (begin_part x parts))) (letter_no_blank x so) ∙ begun.2 in
    clean.card (token, first_contained (tokens_of (after_colon (x ∷ rest))) begun.1 token tokens, letter_no_card x begun.0 so)

-- a line without the names that the reader knows is sorted as a column
unnamed_clean : (homes cells : Option (List ℕ)) (rest : List ℕ) → homes ≡ None → cells ≡ None → IsClean (sorted_line homes cells rest)
    → IsClean (sorted_line None None rest)
unnamed_clean homes cells rest none other clean =
    subst (λ o. IsClean (sorted_line None o rest)) other (subst (λ o. IsClean (sorted_line o cells rest)) none clean)

pub line_unnamed : (line rest : List ℕ) → after_blanks line ≡ rest → after_name foundation_names rest ≡ None → after_name cell_names rest ≡ None
    → IsClean (line_of line) → IsClean (sorted_line None None rest)
line_unnamed line rest begins none other clean =
    unnamed_clean (after_name foundation_names rest) (after_name cell_names rest) rest none other
    (subst (λ t. IsClean (sorted_line (after_name foundation_names t) (after_name cell_names t) t)) begins clean)

-- a line that is clean once it has lost its label, and has none, is clean
pub clean_itself : (before : ℕ) (part : List ℕ) → IsClean (line_of (without_return (told_line before part)))
    → (IsLabelled before part → ⊥) → IsClean (line_of (without_return part))
clean_itself before part clean other = ⊎_elim
    (λ is.
    let told : told_line before part ≡ without_label before part = cond-true _ (without_label before part) part is in
    ⊎_elim
    (λ found. absurd (other found))
    (λ same. subst (λ t. IsClean (line_of (without_return t))) (told ∙ same) clean)
    (label_or_not before part))
    (λ no'. subst (λ t. IsClean (line_of (without_return t))) (cond-false _ (without_label before part) part no') clean)
    (cases_Bool (is_column_line part))

-- a clean line begins with no further name
named_unclean : (more : List (List ℕ)) (before : ℕ) (part : List ℕ) → begin_so is_name_letter more ≡ true
    → all_differ more foundation_names ≡ true → all_differ more cell_names ≡ true
    → IsClean (line_of (without_return (told_line before part))) → BeginsOne more (after_blanks part) → ⊥
named_unclean more before part letters one two clean any =
    let begins = begins_so is_name_letter more (after_blanks part) letters any in
    let x = begins.letter in
    let so : IsNameLetter x = begins.so in
    let front = blanks_of part in
    let rest = without_return begins.more in
    let whole : part ≡ front ++ x ∷ begins.more = blanks_parts part ∙ ap (λ t. front ++ t) begins.parts in
    let body : without_return part ≡ front ++ x ∷ rest =
    ap without_return whole ∙ return-front_of front x begins.more (letter_no_return x so) in
    let from : after_blanks (without_return part) ≡ x ∷ rest =
    ap after_blanks body ∙ after_blanks-front front x rest (blanks_blank part) (letter_no_blank x so) in
    let behind = drop (length rest) begins.more in
    let longer : (x ∷ rest) ++ behind ≡ after_blanks part = ap (λ t. x ∷ t) (return_parts begins.more) ∙ sym begins.parts in
    let any' : BeginsOne more ((x ∷ rest) ++ behind) = subst (BeginsOne more) (sym longer) any in
    let itself = clean_itself before part clean
    (λ found.
    let same = sym (after_blanks-label before part found) ∙ from in
    let here : 49 + before ≡ x = cc same in
    letter_no_digit before found.few (subst IsNameLetter (sym here) so)) in
    letter_bad x rest so (line_unnamed (without_return part) (x ∷ rest) from
    (other_name more foundation_names (x ∷ rest) behind one any') (other_name more cell_names (x ∷ rest) behind two any') itself)

pub no_cell_name : (before : ℕ) (part : List ℕ) → IsClean (line_of (without_return (told_line before part)))
    → after_name more_cell_names (after_blanks part) ≡ None
no_cell_name before part clean =
    is_none (after_name more_cell_names (after_blanks part))
    (λ piece found. named_unclean more_cell_names before part cells_so cells_differ_homes cells_differ clean (begins_one more_cell_names (after_blanks part) piece found))

pub no_home_name : (before : ℕ) (part : List ℕ) → IsClean (line_of (without_return (told_line before part)))
    → after_name more_home_names (after_blanks part) ≡ None
no_home_name before part clean =
    is_none (after_name more_home_names (after_blanks part))
    (λ piece found. named_unclean more_home_names before part homes_so homes_differ homes_differ_cells clean (begins_one more_home_names (after_blanks part) piece found))

-- nor does a name begin with a digit
digit_unknown : (b : ℕ) → is_column_digit b ≡ true → is_known_letter (to_ascii_lowercase b) ≡ false
unfolding is_known_letter
digit_unknown b is = grind (arith, nat_tests)

digit_unnamed : (names : List (List ℕ)) (b : ℕ) (rest : List ℕ) → begin_so is_known_letter names ≡ true → is_column_digit b ≡ true
    → after_name names (b ∷ rest) ≡ None
digit_unnamed names b rest known digit =
    is_none (after_name names (b ∷ rest))
    (λ piece found.
    let begins = begins_so is_known_letter names (b ∷ rest) known (begins_one names (b ∷ rest) piece found) in
    let here : begins.letter ≡ b = cc begins.parts in
    absurd (cc (sym begins.so ∙ ap (λ x. is_known_letter (to_ascii_lowercase x)) here ∙ digit_unknown b digit)))

pub digit_no_homes : (b : ℕ) (rest : List ℕ) → is_column_digit b ≡ true → after_name foundation_names (b ∷ rest) ≡ None
digit_no_homes b rest digit = digit_unnamed foundation_names b rest foundations_known digit

pub digit_no_cells : (b : ℕ) (rest : List ℕ) → is_column_digit b ≡ true → after_name cell_names (b ∷ rest) ≡ None
digit_no_cells b rest digit = digit_unnamed cell_names b rest cells_known digit
