-- What the tests of the bound tell.
use Rattle.std.proofs.Common.{◌≡◌, ℕ, ◌<◌, ◌≤◌, ◌↔◌, zero, suc, Bool, true, false, List, [], ◌∷◌, Some, length, get_or, refl, sym, ◌∙◌, ap, ⊎_elim, arith}
use Rattle.std.specs.Prelude.{◌==◌, ◌&&◌, ◌||◌, IsTrue, nat_lt, slice_get, slice_index}
use Rattle.std.proofs.lemmas.Bool.{cases_eq, cases_lt}
use Rattle.std.proofs.lemmas.Bool.Decides.{nat_tests}
use Rattle.std.proofs.lemmas.List.{get_or_past}
use Rattle.std.proofs.lemmas.List.Folds.{list_any_at}
use Rattle.fc_cards.specs.Card.{rank, suit}
use Rattle.fc_bound.specs.Bound.{is_held_back, is_above_lower, is_lower, stands_in, StandsAboveLower}
use Rattle.fc_bound.specs.Laws.{TestsTellTheCards}
use Rattle.fc_bound.proofs.AboveLemmas.{or-true}
use Rattle.fc_bound.proofs.HeldLemmas.{found}

-- two places of a column, of which the deeper one has a lower card of the suit
record Above (c : ℕ) (cards : List ℕ) : Type 0 where
  place : ℕ
  deeper : ℕ
  lower : ℕ
  order : deeper < place
  card : slice_get cards place ≡ Some c
  below : slice_get cards deeper ≡ Some lower
  suits : suit lower ≡ suit c
  ranks : rank lower < rank c

-- where a card stands
place_of : (cards : List ℕ) (c : ℕ) → stands_in cards c ≡ true → (k : ℕ) × (slice_get cards k ≡ Some c)
place_of [] c stands = absurd (cc)
place_of (d ∷ cards) c stands =
    ⊎_elim
    (λ e. (0, ap (λ (n : ℕ). Some n) e))
    (λ ne. let test : (d == c) ≡ false = grind (arith, nat_tests) in
    let later = place_of cards c (sym (ap (λ t. t || stands_in cards c) test) ∙ stands) in
    (suc later.0, later.1))
    (cases_eq d c)

stands_at : (cards : List ℕ) (c k : ℕ) → slice_get cards k ≡ Some c → stands_in cards c ≡ true
stands_at [] c k at = absurd (cc)
stands_at (d ∷ cards) c zero at =
    let e : d ≡ c = cc in
    let test : (d == c) ≡ true = grind (arith, nat_tests) in
    ap (λ t. t || stands_in cards c) test
stands_at (d ∷ cards) c (suc k) at = ap (λ t. (d == c) || t) (stands_at cards c k at) ∙ or-true (d == c)

lower_tells : (c d : ℕ) → is_lower c d ≡ true → (suit d ≡ suit c) × (rank d < rank c)
lower_tells c d low = go (suit d) (suit c) (rank d) (rank c) low
  where
    go : (s t q r : ℕ) → ((s == t) && nat_lt q r) ≡ true → (s ≡ t) × (q < r)
    go s t q r low = (grind (arith, nat_tests), grind (arith, nat_tests))

lower_told : (c d : ℕ) → suit d ≡ suit c → rank d < rank c → is_lower c d ≡ true
lower_told c d suits ranks = go (suit d) (suit c) (rank d) (rank c) suits ranks
  where
    go : (s t q r : ℕ) → s ≡ t → q < r → ((s == t) && nat_lt q r) ≡ true
    go s t q r suits ranks = grind (arith, nat_tests)

above_tells : (c : ℕ) (cards : List ℕ) → is_above_lower c cards ≡ true → Above c cards
above_tells c [] above = absurd (cc)
above_tells c (d ∷ cards) above =
    let later : is_above_lower c cards ≡ true → Above c (d ∷ cards) = λ h.
    let one = above_tells c cards h in
    record {
      place = suc one.place;
      deeper = suc one.deeper;
      lower = one.lower;
      order = omega (arith, one.order);
      card = one.card;
      below = one.below;
      suits = one.suits;
      ranks = one.ranks;
    } in
    elim (is_lower c d) as (λ t. is_lower c d ≡ t → ((t && stands_in cards c) || is_above_lower c cards) ≡ true → Above c (d ∷ cards)) [
      | true ↦ λ low here. elim (stands_in cards c) as (λ t. stands_in cards c ≡ t → (t || is_above_lower c cards) ≡ true → Above c (d ∷ cards)) [
        | true ↦ λ stands _.
            let at = place_of cards c stands in
            let told = lower_tells c d low in
            record {
              place = suc at.0;
              deeper = 0;
              lower = d;
              order = omega arith;
              card = at.1;
              below = refl;
              suits = told.0;
              ranks = told.1;
            }
        | false ↦ λ _ h. later h
      ] refl here
      | false ↦ λ _ h. later h
    ] refl above

above_told : (c lower : ℕ) (cards : List ℕ) (deeper place : ℕ) → deeper < place → slice_get cards place ≡ Some c
    → slice_get cards deeper ≡ Some lower → is_lower c lower ≡ true → is_above_lower c cards ≡ true
above_told c lower [] deeper place order card below low = absurd (cc)
above_told c lower (d ∷ cards) deeper zero order card below low = absurd (omega arith)
above_told c lower (d ∷ cards) zero (suc place) order card below low =
    let same : d ≡ lower = cc in
    ap (λ t. (t && stands_in cards c) || is_above_lower c cards) (ap (is_lower c) same ∙ low)
    ∙ ap (λ t. t || is_above_lower c cards) (stands_at cards c place card)
above_told c lower (d ∷ cards) (suc deeper) (suc place) order card below low =
    ap (λ t. (is_lower c d && stands_in cards c) || t) (above_told c lower cards deeper place (omega arith) card below low)
    ∙ or-true (is_lower c d && stands_in cards c)

-- the cards that are told are those
pub cards_told : TestsTellTheCards
cards_told b c = (away (slice_index b.homes (suit c)) (rank c), (held, back))
  where
    away : (h r : ℕ) → IsTrue (nat_lt h r) ↔ (¬ (r ≤ h))
    away h r = (λ test le. grind (arith, nat_tests), λ more. let lt : h < r = ⊎_elim (λ x. x) (λ le. absurd (more le)) (cases_lt h r) in grind (arith, nat_tests))

    held : IsTrue (is_held_back b c) → StandsAboveLower b c
    held test =
        let f = found (is_above_lower c) b.columns test in
        let one = above_tells c (get_or b.columns f.place []) f.passes in
        record {
          column = f.place;
          place = one.place;
          deeper = one.deeper;
          lower = one.lower;
          order = one.order;
          card = one.card;
          below = one.below;
          suits = one.suits;
          ranks = one.ranks;
        }

    back : StandsAboveLower b c → IsTrue (is_held_back b c)
    back s =
        let passes = above_told c s.lower (get_or b.columns s.column []) s.deeper s.place s.order s.card s.below
        (lower_told c s.lower s.suits s.ranks) in
        ⊎_elim (λ inside. list_any_at (is_above_lower c) b.columns s.column [] inside passes)
        (λ past. let none = get_or_past b.columns s.column [] past in
        let e : ◌≡◌ {A = Bool} false true = sym (ap (is_above_lower c) none) ∙ passes in absurd (cc))
        (cases_lt s.column (length b.columns))
