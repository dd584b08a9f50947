-- What the games that come with the program say of each card and each pair, and that they are games.
use Rattle.std.specs.Prelude.{◌≡◌, ℕ, ◌+◌, ◌*◌, ◌/◌, ◌%◌, ◌<◌, ◌≤◌, ◌⊎◌, ◌==◌, ◌&&◌, Bool, true, false, cond, refl, List, [], ◌∷◌, slice_index_or, filter, Contains, All}
use Rattle.std.proofs.Common.{zero, suc, sym, ◌∙◌, ap, subst, inl, inr, ⊎_elim, arith}
use Rattle.std.proofs.lemmas.List.Elements.{Contains-get_or}
use Rattle.std.proofs.lemmas.List.FromFn.{get_or-map-range_with_len, length-map-range_with_len}
use Rattle.std.proofs.lemmas.Bool.Decides.{nat_tests}
use Rattle.std.proofs.lemmas.Nat.{or_of_8}
use Rattle.fc_cards.specs.Card.{rank, all_cards}
use Rattle.fc_cards.proofs.CardLemmas.{only_cards}
use Rattle.fc_moves.specs.GameRules.{GameRules, IsGame, IsPair, first_pairs, all_pairs, pairs_where, built_game, kings}

-- an element of a list is its first or one of the others
pub Contains-cases : {X : Type 0} (y : X) (xs : List X) (x : X) → Contains (y ∷ xs) x → (y ≡ x) ⊎ Contains xs x
Contains-cases y xs x (zero, below, e) = inl e
Contains-cases y xs x (suc k, below, e) = inr (k, omega arith, e)

pub Contains-first : {X : Type 0} (xs : List X) (x : X) → Contains (x ∷ xs) x
Contains-first xs x = (0, omega arith, refl)

pub Contains-later : {X : Type 0} (y : X) (xs : List X) (x : X) → Contains xs x → Contains (y ∷ xs) x
Contains-later y xs x (k, below, e) = (suc k, omega arith, e)

-- an element that a filter keeps is an element, and passes
pub Contains-from_filter : {X : Type 0} (test : X → Bool) (xs : List X) (x : X) → Contains (filter test xs) x
    → Contains xs x × (test x ≡ true)
Contains-from_filter test [] x (k, below, e) = absurd (omega arith)
Contains-from_filter test (y ∷ xs) x found =
    let Kept : Type 0 = Contains (y ∷ xs) x × (test x ≡ true) in
    let rest : Contains (filter test xs) x → Kept = λ f.
    (Contains-later y xs x (Contains-from_filter test xs x f).0, (Contains-from_filter test xs x f).1) in
    elim (test y) as (λ b. test y ≡ b → Contains (cond b (y ∷ filter test xs) (filter test xs)) x → Kept) [
      | true ↦ λ passes f. ⊎_elim (λ e. (subst (Contains (y ∷ xs)) e (Contains-first xs y), ap test (sym e) ∙ passes)) rest
          (Contains-cases y (filter test xs) x f)
      | false ↦ λ fails f. rest f
    ] refl found

-- an element that passes is kept
pub Contains-filter : {X : Type 0} (test : X → Bool) (xs : List X) (x : X) → Contains xs x → test x ≡ true
    → Contains (filter test xs) x
Contains-filter test [] x (k, below, e) passes = absurd (omega arith)
Contains-filter test (y ∷ xs) x found passes =
    elim (test y) as (λ b. test y ≡ b → Contains (cond b (y ∷ filter test xs) (filter test xs)) x) [
      | true ↦ λ yes. ⊎_elim (λ e. subst (Contains (y ∷ filter test xs)) e (Contains-first (filter test xs) y))
          (λ f. Contains-later y (filter test xs) x (Contains-filter test xs x f passes)) (Contains-cases y xs x found)
      | false ↦ λ no. ⊎_elim (λ e. absurd (cc (sym no ∙ ap test e ∙ passes)))
          (λ f. Contains-filter test xs x f passes) (Contains-cases y xs x found)
    ] refl

-- what holds of each member holds of each element
pub All-from_members : {X : Type 0} (P : X → Type 0) (xs : List X) → ((x : X) → Contains xs x → P x) → All P xs
All-from_members P xs each k d below = each (slice_index_or xs k d) (Contains-get_or xs k d below)

-- the first n pairs are those of numbers below 52, by the number of one and then of the other
first_pairs-have : (n u l : ℕ) → u < 52 → l < 52 → u * 52 + l < n → Contains (first_pairs n) (u, l)
first_pairs-have n u l one two within =
    let pair : ◌≡◌ {A = ℕ × ℕ} ((u * 52 + l) / 52, (u * 52 + l) % 52) (u, l) =
    ap (λ q. (q, (u * 52 + l) % 52)) (omega arith) ∙ ap (λ r. (u, r)) (omega arith) in (
      u * 52 + l,
      omega (arith, length-map-range_with_len {X = ℕ × ℕ} (λ k. (k / 52, k % 52)) 0 n),
      get_or-map-range_with_len (λ k. (k / 52, k % 52)) 0 n (u * 52 + l) (u * 52 + l) (u, l) within (omega arith) ∙ pair,
    )

first_pairs-only : (n : ℕ) (p : ℕ × ℕ) → n ≤ 2704 → Contains (first_pairs n) p → (p.0 < 52) × (p.1 < 52)
first_pairs-only n p few (k, below, e) =
    let within : k < n = omega (arith, length-map-range_with_len {X = ℕ × ℕ} (λ k. (k / 52, k % 52)) 0 n) in
    let pair = sym (get_or-map-range_with_len (λ k. (k / 52, k % 52)) 0 n k k p within (omega arith)) ∙ e in
    (omega (arith, ap (λ q. q.0) pair), omega (arith, ap (λ q. q.1) pair))

-- every two cards are a pair, and no other numbers are
every_pair : (u l : ℕ) → u < 52 → l < 52 → Contains all_pairs (u, l)
unfolding all_pairs
every_pair u l one two = first_pairs-have 2704 u l one two (omega arith)

only_pairs : (p : ℕ × ℕ) → Contains all_pairs p → (p.0 < 52) × (p.1 < 52)
unfolding all_pairs
only_pairs p found = first_pairs-only 2704 p (omega arith) found

-- the pairs of a test are those of cards one rank apart that pass it
pub pairs_where-have : (test : ℕ → ℕ → Bool) (u l : ℕ) → u < 52 → l < 52 → rank u + 1 ≡ rank l → test u l ≡ true
    → Contains (pairs_where test) (u, l)
pairs_where-have test u l one two next passes =
    let ranks : (rank u + 1 == rank l) ≡ true = grind (arith, nat_tests) in
    Contains-filter (λ p. (rank p.0 + 1 == rank p.1) && test p.0 p.1) all_pairs (u, l) (every_pair u l one two)
    (rw ranks passes)

pub pairs_where-only : (test : ℕ → ℕ → Bool) (p : ℕ × ℕ) → Contains (pairs_where test) p
    → IsPair p × (test p.0 p.1 ≡ true)
pairs_where-only test p found =
    let kept = Contains-from_filter (λ q. (rank q.0 + 1 == rank q.1) && test q.0 q.1) all_pairs p found in
    let cards = only_pairs p kept.0 in
    let both = kept.1 in
    let next : rank p.0 + 1 ≡ rank p.1 = grind (arith, nat_tests) in
    let passes : test p.0 p.1 ≡ true = grind (arith, nat_tests) in
    ((cards.0, cards.1, next), passes)

-- a game that is built down by a test is a game
pub built_game_is_game : (test : ℕ → ℕ → Bool) (n code : ℕ) → n ≤ 4 → code < 256 → IsGame (built_game test n code)
built_game_is_game test n code few byte = record {
  pairs = All-from_members IsPair (pairs_where test) (λ p found. (pairs_where-only test p found).0);
  openers = All-from_members (λ c. c < 52) all_cards only_cards;
  cells = few;
  code = byte;
}

-- the game with other openers is a game
pub kings_is_game : (g : GameRules) → IsGame g → IsGame (kings g)
kings_is_game g ok = record {
  pairs = ok.pairs;
  openers = All-from_members (λ c. c < 52) (filter (λ c. rank c == 13) all_cards)
      (λ c found. only_cards c (Contains-from_filter (λ c. rank c == 13) all_cards c found).0);
  cells = ok.cells;
  code = or_of_8 g.code 2 ok.code (omega arith);
}
