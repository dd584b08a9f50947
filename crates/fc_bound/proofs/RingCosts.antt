-- Rings without a card in common cost one each.
use Rattle.std.proofs.Common.{◌≡◌, ◌≢◌, ℕ, ◌+◌, ◌-◌, ◌≤◌, ◌⊎◌, zero, suc, true, false, cond, Some, List, [], ◌∷◌, ◌++◌, All, AllPairs, Contains, get_or, length, refl, sym, ◌∙◌, ap, subst, inl, inr, ⊎_elim, true≢false, arith}
use Rattle.std.specs.Prelude.{◌&&◌, ◌||◌}
use Rattle.std.specs.List.{list_any}
use Rattle.std.proofs.lemmas.Bool.{and_parts, or_cases}
use Rattle.std.proofs.lemmas.List.Elements.{All-cons, All-head, All-tail}
use Rattle.std.proofs.lemmas.List.Folds.{list_any_at}
use Rattle.std.proofs.lemmas.List.Sums.{get_or-le-sum_by, sum_by-cons}
use Rattle.std.proofs.lemmas.Option.{slice_get-get_or}
use Rattle.fc_position.specs.Board.{last_of, front_of}
use Rattle.fc_position.proofs.BoardLemmas.{front_last}
use Rattle.fc_bound.specs.Bound.{is_lower, stands_in}
use Rattle.fc_bound.specs.Clearing.{waits, fee, without, cards_in, order_cost, clearing_cost}
use Rattle.fc_bound.specs.Laws.{RingsCostOneEach}
use Rattle.fc_bound.specs.Rings.{is_at_or_beneath, waits_beneath, AreApart, IsRing}
use Rattle.fc_bound.proofs.AboveLemmas.{and-false, or-false, or-true, contains-stands, stands-contains, stands-other}
use Rattle.fc_bound.proofs.HeldLemmas.{found, any-set, bit_most}
use Rattle.fc_bound.proofs.ClearingLemmas.{without_none, cards_without, cases_last, clearing_order}

-- putting a card on a column changes for no other card what lies at it or beneath it
pub beneath-other : (c e u : ℕ) (cards : List ℕ) → u ≢ e → is_at_or_beneath c e (cards ++ u ∷ []) ≡ is_at_or_beneath c e cards
beneath-other c e u [] other =
    ap (λ t. (is_lower c u && t) || false) (stands-other [] u e other) ∙ or-false (is_lower c u && false) ∙ and-false (is_lower c u)
beneath-other c e u (d ∷ above) other =
    ap (λ t. (is_lower c d && t) || is_at_or_beneath c e (above ++ u ∷ [])) (stands-other (d ∷ above) u e other)
    ∙ ap (λ t. (is_lower c d && stands_in (d ∷ above) e) || t) (beneath-other c e u above other)

-- so taking one out leaves them all, for the other cards
pub beneath-without : (columns : List (List ℕ)) (i u c e : ℕ) → last_of (get_or columns i []) ≡ Some u → u ≢ e
    → waits_beneath (without columns i) c e ≡ waits_beneath columns c e
beneath-without columns i u c e last other =
    any-set (is_at_or_beneath c e) columns i (front_of (get_or columns i []))
    (sym (beneath-other c e u (front_of (get_or columns i [])) other)
    ∙ ap (is_at_or_beneath c e) (sym (front_last (get_or columns i []) u last)))

-- a ring stays one where what lies at its cards or beneath them stays
pub ring-kept : (columns others : List (List ℕ)) (ring : List ℕ)
    → ((c e : ℕ) → Contains ring e → waits_beneath others c e ≡ waits_beneath columns c e) → IsRing columns ring → IsRing others ring
ring-kept columns others ring kept r = record {
  some_card = r.some_card;
  waits = λ c here. let w = r.waits c here in (w.0, w.1, kept c w.0 w.1 ∙ w.2);
  awaited = λ e here. let w = r.awaited e here in (w.0, w.1, kept w.0 e here ∙ w.2);
}

-- a card that isn't in a ring is another one than each of its cards
pub not_in : (u c : ℕ) (ring : List ℕ) → (Contains ring u → ⊥) → Contains ring c → u ≢ c
not_in u c ring outside here e = outside (subst (Contains ring) (sym e) here)

-- a ring stays one without a card that isn't in it
ring-without : (columns : List (List ℕ)) (i u : ℕ) (ring : List ℕ) → last_of (get_or columns i []) ≡ Some u
    → (Contains ring u → ⊥) → IsRing columns ring → IsRing (without columns i) ring
ring-without columns i u ring last outside =
    ring-kept columns (without columns i) ring (λ c e here. beneath-without columns i u c e last (not_in u e ring outside here))

-- a card of a ring waits
lower-beneath : (c e : ℕ) (cards : List ℕ) → is_at_or_beneath c e cards ≡ true → list_any (is_lower c) cards ≡ true
lower-beneath c e [] beneath = beneath
lower-beneath c e (d ∷ above) beneath =
    ⊎_elim (λ here. ap (λ t. t || list_any (is_lower c) above) (and_parts (is_lower c d) (stands_in (d ∷ above) e) here).0)
    (λ later. ap (λ t. is_lower c d || t) (lower-beneath c e above later) ∙ or-true (is_lower c d))
    (or_cases (is_lower c d && stands_in (d ∷ above) e) (is_at_or_beneath c e above) beneath)

pub ring-waits : (columns : List (List ℕ)) (u : ℕ) (ring : List ℕ) → IsRing columns ring → Contains ring u
    → waits columns (Some u) ≡ true
ring-waits columns u ring r here =
    let w = r.waits u here in
    let f = found (is_at_or_beneath u w.0) columns w.2 in
    list_any_at (list_any (is_lower u)) columns f.place [] f.inside (lower-beneath u w.0 (get_or columns f.place []) f.passes)

ring-fee : (columns : List (List ℕ)) (i u : ℕ) (ring : List ℕ) → last_of (get_or columns i []) ≡ Some u
    → IsRing columns ring → Contains ring u → fee columns i ≡ 1
ring-fee columns i u ring last r here =
    ap (λ o. cond (waits columns o) 1 0) last ∙ ap (λ t. cond t 1 0) (ring-waits columns u ring r here)

-- rings without a card in common, one after another
abbrev pub AreRings : List (List ℕ) → List (List ℕ) → Type 0
AreRings columns [] = Unit {0}
AreRings columns (ring ∷ rings) = IsRing columns ring × All (AreApart ring) rings × AreRings columns rings

pub rings-from : (columns rings : List (List ℕ)) → All (IsRing columns) rings → AllPairs AreApart rings → AreRings columns rings
rings-from columns [] all apart = tt
rings-from columns (ring ∷ rings) all apart = (
  All-head (IsRing columns) ring rings all,
  (λ j d below. apart 0 (suc j) d (omega arith) (omega (arith, below))),
  rings-from columns rings (All-tail (IsRing columns) ring rings all)
      (λ i j d before below. apart (suc i) (suc j) d (omega (arith, before)) (omega (arith, below))),
)

-- rings that a card isn't in stay rings without it
rings-without : (columns : List (List ℕ)) (i u : ℕ) (rings : List (List ℕ)) → last_of (get_or columns i []) ≡ Some u
    → All (λ ring. Contains ring u → ⊥) rings → AreRings columns rings → AreRings (without columns i) rings
rings-without columns i u [] last outside all = tt
rings-without columns i u (ring ∷ rings) last outside all = (
  ring-without columns i u ring last (All-head (λ r. Contains r u → ⊥) ring rings outside) all.0,
  all.1,
  rings-without columns i u rings last (All-tail (λ r. Contains r u → ⊥) ring rings outside) all.2,
)

-- what is left of rings where a card is taken out at its fee: all of them, or all but one
record Left (columns : List (List ℕ)) (i : ℕ) (rings : List (List ℕ)) : Type 1 where
  rest : List (List ℕ)
  are : AreRings (without columns i) rest
  fewer : length rings ≤ fee columns i + length rest
  of_them : (P : List ℕ → Type 0) → All P rings → All P rest

rings-left : (columns : List (List ℕ)) (i u : ℕ) (rings : List (List ℕ)) → last_of (get_or columns i []) ≡ Some u
    → AreRings columns rings → Left columns i rings
rings-left columns i u [] last all = record { rest = []; are = tt; fewer = omega arith; of_them = λ P each. each }
rings-left columns i u (ring ∷ rings) last all =
    elim (stands_in ring u) as (λ t. stands_in ring u ≡ t → Left columns i (ring ∷ rings)) [
      | true ↦ λ stands.
          let here = stands-contains ring u stands in
          record {
            rest = rings;
            are = rings-without columns i u rings last (λ j d below there. all.1 j d below u here there) all.2;
            fewer = omega (arith, ring-fee columns i u ring last all.0 here);
            of_them = λ P each. All-tail P ring rings each;
          }
      | false ↦ λ absent.
          let outside : Contains ring u → ⊥ = λ here. true≢false (sym (contains-stands ring u here) ∙ absent) in
          let left = rings-left columns i u rings last all.2 in
          record {
            rest = ring ∷ left.rest;
            are = (ring-without columns i u ring last outside all.0, left.of_them (AreApart ring) all.1, left.are);
            fewer = omega (arith, left.fewer);
            of_them = λ P each. All-cons P ring left.rest (All-head P ring rings each) (left.of_them P (All-tail P ring rings each));
          }
    ] refl

-- columns have a last card, or no card
pub some_card : (columns : List (List ℕ)) → (cards_in columns ≡ 0) ⊎ ((i : ℕ) × (u : ℕ) × (last_of (get_or columns i []) ≡ Some u))
some_card [] = inl refl
some_card ([] ∷ xs) =
    ⊎_elim (λ none. inl (omega (arith, none, sum_by-cons (λ (cards : List ℕ). length cards) [] xs)))
    (λ (i, u, last). inr (suc i, u, last)) (some_card xs)
some_card ((d ∷ cards) ∷ xs) =
    inr (0, get_or (d ∷ cards) (length (d ∷ cards) - 1) 0, slice_get-get_or (d ∷ cards) (length (d ∷ cards) - 1) 0 (omega arith))

-- where a card waits, cards stand
beneath-card : (c e : ℕ) (cards : List ℕ) → is_at_or_beneath c e cards ≡ true → 1 ≤ length cards
beneath-card c e [] beneath = absurd (cc)
beneath-card c e (d ∷ above) beneath = omega arith

ring-card : (columns : List (List ℕ)) (ring : List ℕ) → IsRing columns ring → 1 ≤ cards_in columns
ring-card columns [] r = absurd (r.some_card refl)
ring-card columns (c ∷ ring) r =
    let w = r.waits c (0, omega arith, refl) in
    let f = found (is_at_or_beneath c w.0) columns w.2 in
    omega (
      arith,
      beneath-card c w.0 (get_or columns f.place []) f.passes,
      get_or-le-sum_by (λ (cards : List ℕ). length cards) columns f.place [] f.inside,
    )

no_rings : (columns rings : List (List ℕ)) → cards_in columns ≡ 0 → AreRings columns rings → length rings ≡ 0
no_rings columns [] none all = refl
no_rings columns (ring ∷ rings) none all = absurd (omega (arith, none, ring-card columns ring all.0))

-- no more rings than cards
rings-few : (n : ℕ) (columns rings : List (List ℕ)) → cards_in columns ≤ n → AreRings columns rings → length rings ≤ n
rings-few zero columns rings few all = omega (arith, no_rings columns rings (omega arith) all)
rings-few (suc n) columns rings few all =
    ⊎_elim (λ none. omega (arith, no_rings columns rings none all))
    (λ (i, u, last). let left = rings-left columns i u rings last all in
    omega (
      arith,
      left.fewer,
      bit_most (waits columns (last_of (get_or columns i []))),
      rings-few n (without columns i) left.rest (omega (arith, few, cards_without columns i u last)) left.are,
    ))
    (some_card columns)

-- no order costs less than the rings are many
rings-order : (order : List ℕ) (columns rings : List (List ℕ)) → AreRings columns rings → length rings ≤ order_cost columns order
rings-order [] columns rings all = rings-few (cards_in columns) columns rings (omega arith) all
rings-order (i ∷ order) columns rings all =
    ⊎_elim
    (λ none. let same = without_none columns i none in
    omega (arith, rings-order order (without columns i) rings (subst (λ now. AreRings now rings) (sym same) all)))
    (λ (u, last). let left = rings-left columns i u rings last all in
    omega (arith, left.fewer, rings-order order (without columns i) left.rest left.are))
    (cases_last columns i)

pub rings-cost : (columns rings : List (List ℕ)) → AreRings columns rings → length rings ≤ clearing_cost columns
rings-cost columns rings all =
    let best = clearing_order columns in
    omega (arith, best.1, rings-order best.0 columns rings all)

pub rings_cost_each : RingsCostOneEach
rings_cost_each columns rings all apart = rings-cost columns rings (rings-from columns rings all apart)
