-- The cards that a board text lacks.
use Rattle.std.proofs.Common.{◌≡◌, ◌↔◌, ℕ, ◌+◌, ◌*◌, ◌<◌, ◌≤◌, Bool, true, false, not, Option, Some, None, IsTrue, IfSome, IfNone, is_some, List, [], ◌∷◌, ◌++◌, length, map, refl, sym, subst, ⊎_elim, arith}
use Rattle.std.specs.Prelude.{Contains, leb, slice_index}
use Rattle.std.specs.List.{slice_split}
use Rattle.std.proofs.lemmas.List.{get_or_append_left, get_or_at, length-append}
use Rattle.std.proofs.lemmas.List.Elements.{Contains-append_left, Contains-append_right, Contains-push, Contains-push_cases, Contains-get_or}
use Rattle.std.proofs.lemmas.Bool.{cases_eq, cases_lt, le-leb, leb-true}
use Rattle.fc_cards.specs.Card.{rank, suit}
use Rattle.fc_cards.specs.Texts.{IsRank, IsRankText}
use Rattle.fc_cards.proofs.TextLemmas.{rank_text_once}
use Rattle.fc_text.specs.Line.{after_blanks, after_name, board_lines, cell_names, foundation_names, is_line_end, line_of, parts_of, sorted_line, tokens_of, without_return}
use Rattle.fc_text.specs.Spot.{IsFirstSpot, TellsNowhere}
use Rattle.fc_typed.specs.Guess.{AreMissingBelow, AnyTellsHome, IsMissing, TellsHome, TellsHomeIn}
use Rattle.fc_typed.proofs.AnyLemmas.{AnyOf, any_contained, any_map, contained_any}
use Rattle.fc_typed.proofs.LineLemmas.{parts-split, trimmed, trimmed-any}

-- a card that is found stands somewhere
pub spot_stands : (text : List ℕ) (c number place : ℕ) (token : List ℕ) → IsFirstSpot text c number place token → TellsNowhere text c → ⊥
spot_stands text c number place token (line, first, (there, none)) nowhere =
    let spot = first.1.0 in
    nowhere line
    (subst (λ ls. Contains ls line) (sym there.parts) (Contains-append_right there.above (line ∷ there.below) line (0, omega arith, refl))) (
      first.0,
      (
        token,
        subst (λ ts. Contains ts token) (sym spot.parts) (Contains-append_right spot.before (token ∷ spot.behind) token (0, omega arith, refl)),
        spot.here,
      ),
    )

-- a card stands nowhere where none is found
pub nowhere_is : {A : Type 0} (r : Option A) (P : A → Type 0) (Q : Type 0) (b : Bool) → is_some r ≡ not b → IfSome r P → IfNone r Q
    → ((x : A) → P x → Q → ⊥) → IsTrue b ↔ Q
nowhere_is None P Q true e found none apart = (λ _. none, λ _. refl)
nowhere_is None P Q false e found none apart = absurd (cc e)
nowhere_is (Some x) P Q true e found none apart = absurd (cc e)
nowhere_is (Some x) P Q false e found none apart = (λ t. absurd (cc t), λ q. absurd (apart x found q))

-- the number of a card that has so many of its suit below it
pub card_is : (d s n : ℕ) → suit d ≡ s → rank d ≡ n + 1 → d ≡ 4 * n + s
card_is d s n same up = omega arith

-- a rank that is no less than the card's
pub enough_is : (c r : ℕ) (text : List ℕ) → IsRank r × IsRankText r text
    → IsTrue (leb (rank c) r) ↔ ((n : ℕ) × IsRank n × IsRankText n text × (rank c ≤ n))
enough_is c r text read = (
  λ t. (r, read.0, read.1, leb-true (rank c) r t),
  λ (n, is, spelled, enough). let same : n ≡ r = rank_text_once n r text is read.0 spelled read.1 in
      le-leb (rank c) r (omega arith),
)

-- lines of which one tells that the card is home
abbrev pub PartTellsHome : ℕ → List ℕ → Type 0
PartTellsHome c part = TellsHome c (line_of (without_return part))

empty_tells : (c : ℕ) → PartTellsHome c [] → ⊥
empty_tells c tells = cc tells.0

pub lines_tell : (c : ℕ) (text : List ℕ) → AnyOf (PartTellsHome c) (slice_split is_line_end text) ↔ TellsHomeIn c (board_lines text)
lines_tell c text =
    let pieces = slice_split is_line_end text in
    let parts = parts_of is_line_end text in
    let cut : parts ≡ trimmed pieces = parts-split is_line_end text in
    let same = trimmed-any (PartTellsHome c) pieces (empty_tells c) in
    let lines = any_map (TellsHome c) line_of (map without_return parts) in
    let bodies = any_map (λ l. TellsHome c (line_of l)) without_return parts in (
      λ any. any_contained (TellsHome c) (board_lines text) (lines.1 (bodies.1 (subst (AnyOf (PartTellsHome c)) (sym cut) (same.0 any)))),
      λ (line, found, tells).
          same.1 (subst (AnyOf (PartTellsHome c)) cut (bodies.0 (lines.0 (contained_any (TellsHome c) (board_lines text) line found tells)))),
    )

-- one more card is missing
pub missing_push : (text : List ℕ) (n : ℕ) (cards : List ℕ) → AreMissingBelow text n cards → IsMissing text n
    → AreMissingBelow text (n + 1) (cards ++ n ∷ [])
missing_push text n cards so is = record {
  rising = λ i j less within.
      let size : length (cards ++ n ∷ []) ≡ length cards + 1 = length-append cards (n ∷ []) in
      let front : i < length cards = omega arith in
      let left : slice_index (cards ++ n ∷ []) i ≡ slice_index cards i = get_or_append_left cards (n ∷ []) 0 i front in
      ⊎_elim
      (λ (lt : j < length cards).
      let right : slice_index (cards ++ n ∷ []) j ≡ slice_index cards j = get_or_append_left cards (n ∷ []) 0 j lt in
      omega (arith, so.rising i j less lt))
      (λ (le : length cards ≤ j).
      let right : slice_index (cards ++ n ∷ []) j ≡ n = get_or_at cards n [] 0 j (omega arith) in
      omega (arith, (so.missing (slice_index cards i) (Contains-get_or cards i 0 front)).0))
      (cases_lt j (length cards));
  missing = λ c found. ⊎_elim
      (λ f. let old = so.missing c f in let below = old.0 in (omega arith, old.1))
      (λ e. (omega (arith, e), subst (IsMissing text) e is))
      (Contains-push_cases cards n c found);
  whole = λ c less there. ⊎_elim
      (λ e. subst (Contains (cards ++ n ∷ [])) (sym e) (Contains-push cards n))
      (λ other. Contains-append_left cards (n ∷ []) c (so.whole c (omega arith) there))
      (cases_eq c n);
}

-- or isn't
pub missing_pass : (text : List ℕ) (n : ℕ) (cards : List ℕ) → AreMissingBelow text n cards → (IsMissing text n → ⊥)
    → AreMissingBelow text (n + 1) cards
missing_pass text n cards so other = record {
  rising = so.rising;
  missing = λ c found. let old = so.missing c found in let below = old.0 in (omega arith, old.1);
  whole = λ c less there. ⊎_elim
      (λ e. absurd (other (subst (IsMissing text) e there)))
      (λ apart. so.whole c (omega arith) there)
      (cases_eq c n);
}

-- a card is missing where it stands nowhere and isn't told to be home
pub missing_is : (text : List ℕ) (c : ℕ) (b : Bool) → TellsNowhere text c → IsTrue b ↔ TellsHomeIn c (board_lines text)
    → IsTrue (not b) ↔ IsMissing text c
missing_is text c true nowhere told = (λ t. absurd (cc t), λ is. absurd (is.not_home (told.0 refl)))
missing_is text c false nowhere told = (λ t. record { nowhere = nowhere; not_home = λ home. cc (told.1 home) }, λ is. refl)

-- a line by its name
abbrev tells_by : Option (List ℕ) → Option (List ℕ) → ℕ → List ℕ → Type 0
tells_by homes cells c rest = TellsHome c (sorted_line homes cells rest)

named_by : (homes cells : Option (List ℕ)) (c : ℕ) (rest piece : List ℕ) → homes ≡ Some piece
    → tells_by homes cells c rest ↔ AnyTellsHome c (tokens_of piece)
named_by None cells c rest piece e = absurd (cc e)
named_by (Some x) cells c rest piece e =
    let same : x ≡ piece = cc e in
    (λ tells. subst (λ p. AnyTellsHome c (tokens_of p)) same tells.1, λ any. (refl, subst (λ p. AnyTellsHome c (tokens_of p)) (sym same) any))

unnamed_by : (homes cells : Option (List ℕ)) (c : ℕ) (rest : List ℕ) → homes ≡ None → tells_by homes cells c rest → ⊥
unnamed_by None None c rest e tells = cc tells.0
unnamed_by None (Some x) c rest e tells = cc tells.0
unnamed_by (Some x) cells c rest e tells = cc e

pub line_named : (c : ℕ) (line piece : List ℕ) → after_name foundation_names (after_blanks line) ≡ Some piece
    → TellsHome c (line_of line) ↔ AnyTellsHome c (tokens_of piece)
line_named c line piece found =
    named_by (after_name foundation_names (after_blanks line)) (after_name cell_names (after_blanks line)) c (after_blanks line) piece found

pub line_unnamed : (c : ℕ) (line : List ℕ) → after_name foundation_names (after_blanks line) ≡ None → TellsHome c (line_of line) → ⊥
line_unnamed c line none =
    unnamed_by (after_name foundation_names (after_blanks line)) (after_name cell_names (after_blanks line)) c (after_blanks line) none
