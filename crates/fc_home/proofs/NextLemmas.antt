-- Looking at one place after the other for the next cards, and taking the first of them that goes home.
use Rattle.std.proofs.Common.{◌≡◌, ◌≢◌, ℕ, Bool, true, ◌+◌, ◌<◌, ◌⊎◌, Option, Some, None, List, length, set, refl, sym, ◌∙◌, ap, subst, inl, inr, ⊎_elim, arith}
use Rattle.std.specs.Prelude.{slice_set}
use Rattle.std.proofs.lemmas.List.{get_or-set_same, get_or-set_other, length-set}
use Rattle.std.proofs.lemmas.Bool.{cases_lt, cases_eq}
use Rattle.fc_cards.specs.Card.{rank, suit}
use Rattle.fc_cards.specs.declared.places.Place.{Place}
use Rattle.fc_position.specs.Board.{Board, IsNext, playable}
use Rattle.fc_position.specs.Position.{IsPosition}
use Rattle.fc_position.proofs.BoardLemmas.{homes-lifted}
use Rattle.fc_moves.specs.GameRules.{GameRules}
use Rattle.fc_moves.specs.MoveText.{IsThere}
use Rattle.fc_moves.specs.Step.{place_number}
use Rattle.fc_moves.proofs.StepLemmas.{place_once, source_there, source_is_there, source_most}
use Rattle.fc_home.specs.declared.settling.Goer.{Goer}
use Rattle.fc_home.specs.HomeRule.{GoesHome}
use Rattle.fc_home.specs.inner.Known.{answer_of, IsKnown}
use Rattle.fc_home.specs.inner.Nexts.{goer_of, HasNexts, IsLeastBelow}
use Rattle.fc_home.specs.Settles.{IsFirstHome, NoneGoesHome, sent_home}
use Rattle.fc_home.proofs.KnownLemmas.{next_once, known_send}
use Rattle.fc_home.proofs.SettleLemmas.{goes_next}

-- a place up to this one is an earlier one or this one
up_to : (b : Board) (from other : Place) (d : ℕ) → IsPosition b → IsThere from → playable b other ≡ Some d
    → place_number other < place_number from + 1 → (place_number other < place_number from) ⊎ (other ≡ from)
up_to b from other d p at there below =
    ⊎_elim (λ lt. inl lt)
    (λ le. inr (place_once other from (source_is_there other (source_there b other d p there)) at (omega arith)))
    (cases_lt (place_number other) (place_number from))

-- the card of a place isn't next, or there is none
pub nexts_pass : (P : ℕ → Type 0) (b : Board) (from : Place) (nexts : List (Option Goer)) → IsPosition b → IsThere from
    → HasNexts P b (place_number from) nexts → ((c : ℕ) → playable b from ≡ Some c → P c → ⊥)
    → HasNexts P b (place_number from + 1) nexts
nexts_pass P b from nexts p at has stuck = record {
  four = has.four;
  lies = has.lies;
  next = has.next;
  suits = has.suits;
  each = λ other c below there holds.
      ⊎_elim (λ lt. has.each other c lt there holds) (λ e. absurd (stuck c (sym (ap (playable b) e) ∙ there) holds))
      (up_to b from other c p at there below);
}

-- what a list has for a suit after a change
goer_same : (nexts : List (Option Goer)) (s t : ℕ) (x : Option Goer) → s < length nexts → t ≡ s → goer_of (set nexts s x) t ≡ x
goer_same nexts s t x inside e = ap (goer_of (set nexts s x)) e ∙ get_or-set_same nexts s x None inside

goer_other : (nexts : List (Option Goer)) (s t : ℕ) (x : Option Goer) → (t ≡ s → ⊥) → goer_of (set nexts s x) t ≡ goer_of nexts t
goer_other nexts s t x ne = get_or-set_other nexts s t x None ne

-- what holds of each element for its suit, kept by a change
changed : (R : ℕ → Goer → Type 0) (nexts : List (Option Goer)) (s : ℕ) (x : Option Goer) → s < length nexts
    → ((goer : Goer) → x ≡ Some goer → R s goer) → ((t : ℕ) (goer : Goer) → goer_of nexts t ≡ Some goer → R t goer)
    → (t : ℕ) (goer : Goer) → goer_of (set nexts s x) t ≡ Some goer → R t goer
changed R nexts s x inside here each t goer e =
    ⊎_elim (λ same. subst (λ k. R k goer) (sym same) (here goer (sym (goer_same nexts s t x inside same) ∙ e)))
    (λ ne. each t goer (sym (goer_other nexts s t x ne) ∙ e)) (cases_eq t s)

-- the card of a place is next
pub nexts_more : (P : ℕ → Type 0) (b : Board) (from : Place) (nexts : List (Option Goer)) (goer : Goer) → IsPosition b → IsThere from
    → HasNexts P b (place_number from) nexts → goer.from ≡ from → playable b from ≡ Some goer.card → IsNext b.homes goer.card
    → HasNexts P b (place_number from + 1) (slice_set nexts (suit goer.card) (Some goer))
nexts_more P b from nexts goer p at has place lies next =
    let inside : suit goer.card < length nexts = omega (arith, has.four) in
    let one : (other : Goer) → Some goer ≡ Some other → goer ≡ other = λ other e. cc in
    record {
      four = length-set nexts (suit goer.card) (Some goer) ∙ has.four;
      lies =
          changed (λ s x. playable b x.from ≡ Some x.card) nexts (suit goer.card) (Some goer) inside
          (λ other e. subst (λ x. playable b x.from ≡ Some x.card) (one other e) (ap (playable b) place ∙ lies)) has.lies;
      next =
          changed (λ s x. IsNext b.homes x.card) nexts (suit goer.card) (Some goer) inside
          (λ other e. subst (λ x. IsNext b.homes x.card) (one other e) next) has.next;
      suits =
          changed (λ s x. suit x.card ≡ s) nexts (suit goer.card) (Some goer) inside
          (λ other e. subst (λ x. suit x.card ≡ suit goer.card) (one other e) refl) has.suits;
      each = λ other c below there holds.
          ⊎_elim (λ e. (goer, goer_same nexts (suit goer.card) (suit c) (Some goer) inside e))
          (λ ne. ⊎_elim
          (λ lt. let old = has.each other c lt there holds in
          (old.0, goer_other nexts (suit goer.card) (suit c) (Some goer) ne ∙ old.1))
          (λ e. let card : c ≡ goer.card = let x = ap (playable b) e in cc in absurd (ne (ap (λ (k : ℕ). suit k) card)))
          (up_to b from other c p at there below))
          (cases_eq (suit c) (suit goer.card));
    }

-- a card of the list doesn't go home, and is struck off
pub nexts_struck : (rule : ℕ) (g : GameRules) (b : Board) (n : ℕ) (nexts : List (Option Goer)) (goer : Goer)
    → HasNexts (GoesHome rule g b.homes) b n nexts → IsLeastBelow 4 nexts (Some goer) → (GoesHome rule g b.homes goer.card → ⊥)
    → HasNexts (GoesHome rule g b.homes) b n (slice_set nexts (suit goer.card) None)
nexts_struck rule g b n nexts goer has ((s, here), least) stuck =
    let inside : suit goer.card < length nexts = omega (arith, has.four) in
    let gone : (R : ℕ → Goer → Type 0) (other : Goer) → None ≡ Some other → R (suit goer.card) other = λ R other e. absurd (cc e) in
    record {
      four = length-set nexts (suit goer.card) None ∙ has.four;
      lies =
          changed (λ t x. playable b x.from ≡ Some x.card) nexts (suit goer.card) None inside
          (gone (λ t x. playable b x.from ≡ Some x.card)) has.lies;
      next =
          changed (λ t x. IsNext b.homes x.card) nexts (suit goer.card) None inside (gone (λ t x. IsNext b.homes x.card)) has.next;
      suits = changed (λ t x. suit x.card ≡ t) nexts (suit goer.card) None inside (gone (λ t x. suit x.card ≡ t)) has.suits;
      each = λ from c below there goes.
          ⊎_elim
          (λ e. let card : c ≡ goer.card = next_once b.homes c goer.card (goes_next rule g b.homes c goes) (has.next s goer here) e in
          absurd (stuck (subst (GoesHome rule g b.homes) card goes)))
          (λ ne. let old = has.each from c below there goes in
          (old.0, goer_other nexts (suit goer.card) (suit c) None ne ∙ old.1))
          (cases_eq (suit c) (suit goer.card));
    }

-- the least of the list is the first card that goes home, if it goes
pub least_first : (rule : ℕ) (g : GameRules) (b : Board) (nexts : List (Option Goer)) (goer : Goer) → IsPosition b
    → HasNexts (GoesHome rule g b.homes) b 12 nexts → IsLeastBelow 4 nexts (Some goer) → GoesHome rule g b.homes goer.card
    → IsFirstHome rule g b goer.from goer.card
least_first rule g b nexts goer p has ((s, here), least) goes = record {
  there = has.lies s goer here;
  goes = goes;
  least = λ other d there also.
      let found = has.each other d (source_most other (source_there b other d p there)) there also in
      let card : found.0.card ≡ d =
      next_once b.homes found.0.card d (has.next (suit d) found.0 found.1) (goes_next rule g b.homes d also)
      (has.suits (suit d) found.0 found.1) in
      omega (arith, card, least (suit d) found.0 (omega arith) found.1);
}

-- and where the list is empty none goes
pub least_none : (rule : ℕ) (g : GameRules) (b : Board) (nexts : List (Option Goer)) → IsPosition b
    → HasNexts (GoesHome rule g b.homes) b 12 nexts → IsLeastBelow 4 nexts None → NoneGoesHome rule g b
least_none rule g b nexts p has none other d there goes =
    let found = has.each other d (source_most other (source_there b other d p there)) there goes in
    absurd (let x = none (suit d) (omega arith) in cc (sym x ∙ found.1))

-- one turn: of what was known, what stays known once the card is home
pub turn_known : (rule : ℕ) (g : GameRules) (b next : Board) (from : Place) (c s : ℕ) (old new : List (Option Bool)) → IsPosition b
    → IsFirstHome rule g b from c → next ≡ sent_home b from c → s ≡ suit c → IsKnown g b.homes old
    → ((k : ℕ) (t : Bool) → answer_of new k ≡ Some t → (t ≡ true) × (answer_of old k ≡ Some true) × (k ≢ s))
    → IsKnown g next.homes new
turn_known rule g b next from c s old new p first e place known left =
    let homes : next.homes ≡ slice_set b.homes (suit c) (rank c) =
    ap (λ x. x.homes) e ∙ ap (λ h. slice_set h (suit c) (rank c)) (homes-lifted b from) in
    subst (λ h. IsKnown g h new) (sym homes)
    (known_send g b.homes old new c p.homes (goes_next rule g b.homes c first.goes) known
    (λ k t found. let (free, was, ne) = left k t found in (free, was, λ same. ne (same ∙ sym place))))
