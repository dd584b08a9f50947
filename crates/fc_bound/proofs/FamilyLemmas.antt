-- Families: one ring more, fewer rings, and the rings that are left without a card.
use Rattle.std.proofs.Common.{◌≡◌, ◌≢◌, ℕ, ◌+◌, ◌<◌, ◌≤◌, suc, bit_or, Bool, true, false, cond, List, [], ◌∷◌, All, AllPairs, Contains, length, get_or, refl, sym, ◌∙◌, ap, subst, ⊎_elim, true≢false, arith}
use Rattle.std.specs.Prelude.{◌==◌, ◌||◌, count_by}
use Rattle.std.specs.Int.{bit_at}
use Rattle.std.proofs.lemmas.Bool.{cases_eq}
use Rattle.std.proofs.lemmas.Bool.Decides.{nat_tests}
use Rattle.std.proofs.lemmas.List.Elements.{All-cons, All-head, All-tail, All-nil}
use Rattle.std.proofs.lemmas.List.Kept.{AllPairs-cons}
use Rattle.fc_cards.specs.Card.{all_cards}
use Rattle.fc_bound.specs.Bound.{stands_in}
use Rattle.fc_bound.specs.Rings.{IsRing, AreApart, IsAmong, HoldsNone, IsFamily}
use Rattle.fc_bound.proofs.AboveLemmas.{not_true, contains-stands, stands-contains, or-false}
use Rattle.fc_bound.proofs.CountLemmas.{count-but_one, count-most}
use Rattle.fc_bound.proofs.TiedLemmas.{or_first, or_second}

-- a family with so many rings
pub record AreRings (columns : List (List ℕ)) (cards count : ℕ) : Type 0 where
  pub rings : List (List ℕ)
  pub family : IsFamily columns cards rings
  pub many : length rings ≡ count

-- a family of no ring
pub no_rings : (columns : List (List ℕ)) (cards : ℕ) → IsFamily columns cards []
no_rings columns cards = record {
  are = All-nil (IsRing columns);
  apart = λ i j d before inside. absurd (omega (arith, inside));
  among = All-nil (IsAmong cards);
  free = All-nil (HoldsNone columns);
}

-- one ring more, of other cards
pub one_more : (columns : List (List ℕ)) (cards more : ℕ) (ring : List ℕ) (rings : List (List ℕ)) → IsFamily columns cards rings
    → IsRing columns ring → IsAmong more ring → HoldsNone columns ring → ((c : ℕ) → bit_at more c ≡ 1 → bit_at cards c ≡ 0)
    → IsFamily columns (bit_or cards more) (ring ∷ rings)
one_more columns cards more ring rings family is among free others = record {
  are = All-cons (IsRing columns) ring rings is family.are;
  apart = AllPairs-cons AreApart ring rings
      (λ k d inside c here there. absurd (omega (arith, others c (among c here), family.among k d inside c there))) family.apart;
  among = All-cons (IsAmong (bit_or cards more)) ring rings (λ c here. or_second cards more c (among c here))
      (λ k d inside c here. or_first cards more c (family.among k d inside c here));
  free = All-cons (HoldsNone columns) ring rings free family.free;
}

-- without the first ring
rest_of : (columns : List (List ℕ)) (cards : ℕ) (ring : List ℕ) (rings : List (List ℕ)) → IsFamily columns cards (ring ∷ rings)
    → IsFamily columns cards rings
rest_of columns cards ring rings family = record {
  are = All-tail (IsRing columns) ring rings family.are;
  apart = λ i j d before inside. family.apart (suc i) (suc j) d (omega (arith, before)) (omega (arith, inside));
  among = All-tail (IsAmong cards) ring rings family.among;
  free = All-tail (HoldsNone columns) ring rings family.free;
}

first_apart : (columns : List (List ℕ)) (cards : ℕ) (ring : List ℕ) (rings : List (List ℕ)) → IsFamily columns cards (ring ∷ rings)
    → All (AreApart ring) rings
first_apart columns cards ring rings family = λ j d inside. family.apart 0 (suc j) d (omega arith) (omega (arith, inside))

-- a family has families of each lesser number of rings
pub fewer : (columns : List (List ℕ)) (cards count : ℕ) (rings : List (List ℕ)) → IsFamily columns cards rings → count ≤ length rings
    → AreRings columns cards count
fewer columns cards count [] family most = record { rings = []; family = family; many = omega (arith, most) }
fewer columns cards count (ring ∷ rings) family most =
    ⊎_elim
    (λ all. record { rings = ring ∷ rings; family = family; many = sym all })
    (λ ne. fewer columns cards count rings (rest_of columns cards ring rings family) (omega (arith, most, ne)))
    (cases_eq count (length (ring ∷ rings)))

-- rings of a family without a card in them: all but one, or all
pub record Without (columns : List (List ℕ)) (cards u : ℕ) (rings : List (List ℕ)) : Type 1 where
  pub rest : List (List ℕ)
  pub family : IsFamily columns cards rest
  pub outside : All (λ ring. Contains ring u → ⊥) rest
  pub fewer : length rings ≤ 1 + length rest
  pub of_them : (P : List ℕ → Type 0) → All P rings → All P rest

pub without_card : (columns : List (List ℕ)) (cards u : ℕ) (rings : List (List ℕ)) → IsFamily columns cards rings → Without columns cards u rings
without_card columns cards u [] family = record {
  rest = [];
  family = family;
  outside = All-nil (λ ring. Contains ring u → ⊥);
  fewer = omega arith;
  of_them = λ P each. each;
}
without_card columns cards u (ring ∷ rings) family =
    let rest = rest_of columns cards ring rings family in
    elim (stands_in ring u) as (λ t. stands_in ring u ≡ t → Without columns cards u (ring ∷ rings)) [
      | true ↦ λ stands.
          let here = stands-contains ring u stands in
          record {
            rest = rings;
            family = rest;
            outside = λ k d inside there. first_apart columns cards ring rings family k d inside u here there;
            fewer = omega arith;
            of_them = λ P each. All-tail P ring rings each;
          }
      | false ↦ λ absent.
          let outside : Contains ring u → ⊥ = λ here. true≢false (sym (contains-stands ring u here) ∙ absent) in
          let less = without_card columns cards u rings rest in
          record {
            rest = ring ∷ less.rest;
            family = record {
              are = All-cons (IsRing columns) ring less.rest (All-head (IsRing columns) ring rings family.are) less.family.are;
              apart = AllPairs-cons AreApart ring less.rest (less.of_them (AreApart ring) (first_apart columns cards ring rings family)) less.family.apart;
              among = All-cons (IsAmong cards) ring less.rest (All-head (IsAmong cards) ring rings family.among) less.family.among;
              free = All-cons (HoldsNone columns) ring less.rest (All-head (HoldsNone columns) ring rings family.free) less.family.free;
            };
            outside = All-cons (λ r. Contains r u → ⊥) ring less.rest outside less.outside;
            fewer = omega (arith, less.fewer);
            of_them = λ P each. All-cons P ring less.rest (All-head P ring rings each) (less.of_them P (All-tail P ring rings each));
          }
    ] refl

-- the same rings by other columns and cards
pub same_rings : (columns others : List (List ℕ)) (cards more : ℕ) (rings : List (List ℕ)) → IsFamily columns cards rings
    → ((k : ℕ) (d : List ℕ) → k < length rings
    → IsRing others (get_or rings k d) × IsAmong more (get_or rings k d) × HoldsNone others (get_or rings k d))
    → IsFamily others more rings
same_rings columns others cards more rings family each = record {
  are = λ k d inside. (each k d inside).0;
  apart = family.apart;
  among = λ k d inside. (each k d inside).1;
  free = λ k d inside. (each k d inside).2;
}

-- rings without a card in common, of cards that fail a test, are no more than the cards that fail it
pub record AreOutside (test : ℕ → Bool) (ring : List ℕ) : Type 0 where
  pub some_card : ring ≢ []
  pub below : (c : ℕ) → Contains ring c → c < 52
  pub fails : (c : ℕ) → Contains ring c → test c ≡ false

pub rings_few : (rings : List (List ℕ)) (test : ℕ → Bool) → All (AreOutside test) rings → AllPairs AreApart rings
    → count_by test all_cards + length rings ≤ 52
rings_few [] test outside apart = omega (arith, count-most test)
rings_few ([] ∷ rings) test outside apart = absurd ((All-head (AreOutside test) [] rings outside).some_card refl)
rings_few ((u ∷ ring) ∷ rings) test outside apart =
    let own = All-head (AreOutside test) (u ∷ ring) rings outside in
    let here : Contains (u ∷ ring) u = (0, omega arith, refl) in
    let more : ℕ → Bool = λ c. test c || (c == u) in
    let self : (u == u) ≡ true = grind (arith, nat_tests) in
    let before : ◌≡◌ {A = ℕ} (cond (test u) 1 0) 0 = ap (λ t. cond t 1 0) (own.fails u here) in
    let after : ◌≡◌ {A = ℕ} (cond (more u) 1 0) 1 = ap (λ t. cond (t || (u == u)) 1 0) (own.fails u here) ∙ ap (λ t. cond t 1 0) self in
    let counted = count-but_one u more test (own.below u here)
    (λ c other. let ne : (c == u) ≡ false = grind (arith, nat_tests) in ap (λ t. test c || t) ne ∙ or-false (test c)) in
    let rest = rings_few rings more
    (λ k d inside.
    let is = All-tail (AreOutside test) (u ∷ ring) rings outside k d inside in
    record {
      some_card = is.some_card;
      below = is.below;
      fails = λ c there. ap (λ t. t || (c == u)) (is.fails c there)
          ∙ not_true (c == u) (λ same. apart 0 (suc k) d (omega arith) (omega (arith, inside)) u here
          (subst (Contains (get_or rings k d)) (eqb c u same) there));
    })
    (λ i j d before inside. apart (suc i) (suc j) d (omega (arith, before)) (omega (arith, inside))) in
    omega (arith, counted, before, after, rest)
  where
    eqb : (c u : ℕ) → (c == u) ≡ true → c ≡ u
    eqb c u same = grind (arith, nat_tests)
