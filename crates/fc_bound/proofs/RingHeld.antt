-- Each card that is held back is a ring by itself, so that it and rings of other cards cost one each.
use Rattle.std.proofs.Common.{◌≡◌, ℕ, ◌+◌, ◌≤◌, zero, suc, Bool, true, false, cond, List, [], ◌∷◌, All, Contains, get_or, length, refl, sym, ◌∙◌, ap, ⊎_elim, true≢false, arith}
use Rattle.std.specs.Prelude.{◌==◌, ◌&&◌, ◌||◌, count_by}
use Rattle.std.specs.List.{list_any, range_with_len}
use Rattle.std.proofs.lemmas.Bool.{and_parts, or_cases, eqb-true}
use Rattle.std.proofs.lemmas.List.Elements.{All-cons}
use Rattle.std.proofs.lemmas.List.Folds.{list_any_at}
use Rattle.std.proofs.lemmas.List.Sums.{sum_by-cons}
use Rattle.fc_cards.specs.Card.{all_cards}
use Rattle.fc_position.specs.Board.{Board}
use Rattle.fc_position.proofs.BoardLemmas.{cards_most}
use Rattle.fc_bound.specs.declared.kinds.BoundKind.{BoundKind}
use Rattle.fc_bound.specs.declared.kinds.BoundKind.TheVariants.{Plain, Clearing}
use Rattle.fc_bound.specs.Bound.{bound, is_away, is_lower, stands_in, is_above_lower}
use Rattle.fc_bound.specs.Clearing.{cards_in, clearing_cost, clearing_bound}
use Rattle.fc_bound.specs.Kinds.{IsShown}
use Rattle.fc_bound.specs.Laws.{ClearingIsNoLess, WinsNeedTheRings, ShownIsNoGreater, ShownIsSmall}
use Rattle.fc_bound.specs.Rings.{is_at_or_beneath, waits_beneath, AreApart, HoldsNone, IsFamily, IsRing}
use Rattle.fc_bound.proofs.AboveLemmas.{or-false, or-true, contains-stands}
use Rattle.fc_bound.proofs.ClearingLemmas.{clearing_least}
use Rattle.fc_bound.proofs.ClearingSteps.{wins_clear}
use Rattle.fc_bound.proofs.CountLemmas.{count-most}
use Rattle.fc_bound.proofs.HeldLemmas.{bound_small, found, held_in}
use Rattle.fc_bound.proofs.RingCosts.{AreRings, rings-from, rings-cost}

-- the card is held back in these columns
abbrev held : List (List ℕ) → ℕ → Bool
held columns c = list_any (is_above_lower c) columns

-- what lies beneath a card lies at it or beneath it
held-beneath : (c : ℕ) (cards : List ℕ) → is_above_lower c cards ≡ true → is_at_or_beneath c c cards ≡ true
held-beneath c [] above = above
held-beneath c (d ∷ cards) above =
    ⊎_elim
    (λ here. let parts = and_parts (is_lower c d) (stands_in cards c) here in
    ap (λ t. (is_lower c d && ((d == c) || t)) || is_at_or_beneath c c cards) parts.1
    ∙ ap (λ t. (is_lower c d && t) || is_at_or_beneath c c cards) (or-true (d == c))
    ∙ ap (λ t. (t && true) || is_at_or_beneath c c cards) parts.0)
    (λ later. ap (λ t. (is_lower c d && stands_in (d ∷ cards) c) || t) (held-beneath c cards later)
    ∙ or-true (is_lower c d && stands_in (d ∷ cards) c))
    (or_cases (is_lower c d && stands_in cards c) (is_above_lower c cards) above)

-- the only card of a list
only : (c x : ℕ) → Contains (c ∷ []) x → c ≡ x
only c x here = eqb-true c x (sym (or-false (c == x)) ∙ contains-stands (c ∷ []) x here)

-- a card that is held back is a ring by itself
pub single-ring : (columns : List (List ℕ)) (c : ℕ) → held columns c ≡ true → IsRing columns (c ∷ [])
single-ring columns c h = record {
  some_card = λ e. let none = ap (λ (xs : List ℕ). length xs) e in absurd (omega (arith, none));
  waits = λ x here. (c, (0, omega arith, refl), ap (λ y. waits_beneath columns y c) (sym (only c x here)) ∙ itself);
  awaited = λ x here. (c, (0, omega arith, refl), ap (waits_beneath columns c) (sym (only c x here)) ∙ itself);
}
  where
    itself : waits_beneath columns c c ≡ true
    itself =
        let f = found (is_above_lower c) columns h in
        list_any_at (is_at_or_beneath c c) columns f.place [] f.inside (held-beneath c (get_or columns f.place []) f.passes)

-- the rings, and before them each of these cards that is held back as a ring by itself
abbrev with_held : List (List ℕ) → List ℕ → List (List ℕ) → List (List ℕ)
with_held columns [] rings = rings
with_held columns (c ∷ cards) rings = cond (held columns c) ((c ∷ []) ∷ with_held columns cards rings) (with_held columns cards rings)

-- what holds of the rings and of each of these cards holds of them all
all-held : (P : List ℕ → Type 0) (columns rings : List (List ℕ)) (a n : ℕ) → All P rings → ((c : ℕ) → a ≤ c → P (c ∷ []))
    → All P (with_held columns (range_with_len a n) rings)
all-held P columns rings a zero all each = all
all-held P columns rings a (suc n) all each =
    let rest = with_held columns (range_with_len (a + 1) n) rings in
    let later : All P rest = all-held P columns rings (a + 1) n all (λ c above. each c (omega arith)) in
    elim (held columns a) as (λ t. All P (cond t ((a ∷ []) ∷ rest) rest)) [
      | true ↦ All-cons P (a ∷ []) rest (each a (omega arith)) later
      | false ↦ later
    ]

-- they are rings without a card in common, and as many as both
rings-held : (columns rings : List (List ℕ)) (a n : ℕ) → AreRings columns rings → All (HoldsNone columns) rings
    → AreRings columns (with_held columns (range_with_len a n) rings)
rings-held columns rings a zero all free = all
rings-held columns rings a (suc n) all free =
    let rest = with_held columns (range_with_len (a + 1) n) rings in
    let later : AreRings columns rest = rings-held columns rings (a + 1) n all free in
    elim (held columns a) as (λ t. held columns a ≡ t → AreRings columns (cond t ((a ∷ []) ∷ rest) rest)) [
      | true ↦ λ h. (
        single-ring columns a h,
        all-held (AreApart (a ∷ [])) columns rings (a + 1) n
            (λ k d below c one here. true≢false (sym h ∙ ap (held columns) (only a c one) ∙ free k d below c here))
            (λ x above c one here. let first = only a c one in let second = only x c here in omega (arith, first, second, above)),
        later,
      )
      | false ↦ λ _. later
    ] refl

length-held : (columns rings : List (List ℕ)) (a n : ℕ) → length (with_held columns (range_with_len a n) rings)
    ≡ count_by (held columns) (range_with_len a n) + length rings
length-held columns rings a zero = omega arith
length-held columns rings a (suc n) =
    let rest = with_held columns (range_with_len (a + 1) n) rings in
    let one : length (cond (held columns a) ((a ∷ []) ∷ rest) rest) ≡ cond (held columns a) 1 0 + length rest =
    elim (held columns a) as (λ t. length (cond t ((a ∷ []) ∷ rest) rest) ≡ cond t 1 0 + length rest) [ true ↦ omega arith | false ↦ omega arith ] in
    omega (
      arith,
      one,
      length-held columns rings (a + 1) n,
      sum_by-cons (λ c. cond (held columns c) 1 0) a (range_with_len (a + 1) n),
    )

-- so the rings and the cards that are held back cost one each
held-cost_of : (n : ℕ) (columns rings : List (List ℕ)) → AreRings columns rings → All (HoldsNone columns) rings
    → count_by (held columns) (range_with_len 0 n) + length rings ≤ clearing_cost columns
held-cost_of n columns rings all free =
    omega (
      arith,
      length-held columns rings 0 n,
      rings-cost columns (with_held columns (range_with_len 0 n) rings) (rings-held columns rings 0 n all free),
    )

held-cost : (columns rings : List (List ℕ)) → AreRings columns rings → All (HoldsNone columns) rings
    → held_in columns + length rings ≤ clearing_cost columns
unfolding all_cards
held-cost columns rings all free = held-cost_of 52 columns rings all free

-- so do the cards that are held back alone, and no more of them are than stand in the columns
held-alone : (columns : List (List ℕ)) → held_in columns ≤ clearing_cost columns
held-alone columns = omega (arith, held-cost columns [] tt (λ k d below. absurd (omega (arith, below))))

pub held-few : (columns : List (List ℕ)) → held_in columns ≤ cards_in columns
held-few columns = omega (arith, held-alone columns, clearing_least columns [])

pub no_less : ClearingIsNoLess
unfolding bound clearing_bound
no_less b = omega (arith, held-alone b.columns)

-- the plain bound and the rings of a family are no more than the clearing bound
pub family-under : (b : Board) (cards : ℕ) (rings : List (List ℕ)) → IsFamily b.columns cards rings
    → bound b + length rings ≤ clearing_bound b
unfolding bound clearing_bound
family-under b cards rings f = omega (arith, held-cost b.columns rings (rings-from b.columns rings f.are f.apart) f.free)

pub wins_need_rings : WinsNeedTheRings
wins_need_rings g b ms cards rings p wins f = omega (arith, family-under b cards rings f, wins_clear g b ms p wins)

pub shown_under : ShownIsNoGreater
shown_under Plain b number note is = omega (arith, is)
shown_under Clearing b number note (rings, f, is) = omega (arith, is, family-under b note rings f)

-- what is shown of a board with no more than 52 cards in its columns fits a byte with room to spare
pub shown-few : (kind : BoundKind) (b : Board) (number note : ℕ) → cards_in b.columns ≤ 52 → IsShown kind b number note → number ≤ 104
unfolding clearing_bound
shown-few Plain b number note few is = omega (arith, is, bound_small b)
shown-few Clearing b number note few (rings, f, is) =
    omega (arith, few, is, family-under b note rings f, count-most (is_away b), clearing_least b.columns [])

pub shown_small : ShownIsSmall
shown_small kind b number note p is = shown-few kind b number note (cards_most b p) is
