-- What the tests of the games' methods say of their pairs and openers.
use Rattle.std.proofs.Common.{◌≡◌, ℕ, ◌+◌, ◌-◌, ◌*◌, ◌≤◌, ◌<◌, ◌↔◌, ◌⊎◌, Bool, true, false, not, List, [], ◌∷◌, map, refl, sym, ◌∙◌, subst, ⊎_elim, arith}
use Rattle.std.specs.Bool.{beq}
use Rattle.std.specs.Prelude.{IsTrue, Contains, ◌==◌}
use Rattle.std.specs.List.{range_with_len}
use Rattle.std.proofs.lemmas.List.FromFn.{get_or-map-range_with_len, length-map-range_with_len}
use Rattle.std.proofs.lemmas.Bool.Decides.{nat_tests}
use Rattle.fc_cards.specs.Card.{rank, suit, is_red, all_cards}
use Rattle.fc_cards.specs.declared.suits.Suit.{Suit}
use Rattle.fc_cards.specs.declared.suits.Suit.TheVariants.{C, D, H, S}
use Rattle.fc_cards.specs.contracts.suits.Suit.{the_type}
use denote.Enum.Bare.{sameb}
use Rattle.fc_cards.specs.Suit.{suit_index}
use Rattle.fc_moves.specs.GameRules.{GameRules, Stands, Opens, pairs_where, free_cell, bakers_game, kings, are_of_other_colour}
use Rattle.fc_moves.specs.inner.GameRules.{IsLowerOf}
use Rattle.fc_moves.specs.inner.GameLaws.{Contains-cases, Contains-first, Contains-filter, Contains-from_filter, pairs_where-have, pairs_where-only}
use Rattle.fc_cards.proofs.CardLemmas.{every_card}

-- a pair of the game is two cards one rank apart that pass its test
pub stands-where : (test : ℕ → ℕ → Bool) (u l : ℕ) → Contains (pairs_where test) (u, l)
    ↔ ((u < 52) × (l < 52) × (rank u + 1 ≡ rank l) × (test u l ≡ true))
stands-where test u l = (
  λ found. let p = pairs_where-only test (u, l) found in (p.0.0, p.0.1, p.0.2, p.1),
  λ (one, two, next, passes). pairs_where-have test u l one two next passes,
)

-- FreeCell's test on two cards, from their ranks and colours
pub free_cell-stands : (n u l : ℕ) (a b : Bool) → u < 52 → l < 52 → a ≡ is_red u → b ≡ is_red l
    → rank u + 1 ≡ rank l → IsTrue (not (beq a b)) ↔ Stands (free_cell n) u l
free_cell-stands n u l a b one two p q next =
    let same : are_of_other_colour u l ≡ not (beq a b) = rw (p, q) refl in (
      λ t. pairs_where-have are_of_other_colour u l one two next (same ∙ t),
      λ found. sym same ∙ (pairs_where-only are_of_other_colour (u, l) found).1,
    )

-- no pair of a game's is of ranks that don't follow
pub other_ranks : (test : ℕ → ℕ → Bool) (u l : ℕ) → (rank u + 1 ≡ rank l → ⊥) → Contains (pairs_where test) (u, l) → ⊥
other_ranks test u l apart found = apart (pairs_where-only test (u, l) found).0.2

-- Baker's Game's test on two cards, from their ranks and suits
pub bakers_game-stands : (n u l : ℕ) (t : Bool) → u < 52 → l < 52 → (IsTrue t ↔ (suit u ≡ suit l)) → rank u + 1 ≡ rank l
    → IsTrue t ↔ Stands (bakers_game n) u l
bakers_game-stands n u l t one two same next = (
  λ yes. let suits = same.0 yes in
      pairs_where-have (λ x y. suit x == suit y) u l one two next (grind (arith, nat_tests)),
  λ found. let passes = (pairs_where-only (λ x y. suit x == suit y) (u, l) found).1 in
      same.1 (grind (arith, nat_tests)),
)

-- every card opens a column where every card may
pub every_opens : (c : ℕ) → c < 52 → IsTrue true ↔ Contains all_cards c
every_opens c below = (λ _. every_card c below, λ _. refl)

-- the kings open columns where only kings may
pub kings_open : (g : GameRules) (c : ℕ) → c < 52 → IsTrue (rank c == 13) ↔ Opens (kings g) c
kings_open g c below = (
  λ king. Contains-filter (λ x. rank x == 13) all_cards c (every_card c below) king,
  λ found. (Contains-from_filter (λ x. rank x == 13) all_cards c found).1,
)

-- the one or two cards of a list, by their numbers
Contains-one : (x u : ℕ) → Contains (x ∷ []) u → x ≡ u
Contains-one x u found = ⊎_elim (λ e. e) (λ f. absurd (omega arith)) (Contains-cases x [] u found)

-- the colour of a card that passes the test with one of the other colour
black-of : (u l : ℕ) → is_red l ≡ true → are_of_other_colour u l ≡ true → is_red u ≡ false
black-of u l red passes =
    elim (is_red u) as (λ b. is_red u ≡ b → is_red u ≡ false)
    [ true ↦ λ e. absurd (cc (sym (rw (e, red) at passes))) | false ↦ λ e. e ] refl

red-of : (u l : ℕ) → is_red l ≡ false → are_of_other_colour u l ≡ true → is_red u ≡ true
red-of u l black passes =
    elim (is_red u) as (λ b. is_red u ≡ b → is_red u ≡ true)
    [ true ↦ λ e. e | false ↦ λ e. absurd (cc (sym (rw (e, black) at passes))) ] refl

black_suits : (u : ℕ) → is_red u ≡ false → (suit u ≡ 0) ⊎ (suit u ≡ 3)
black_suits u black = grind (arith, nat_tests)

red_suits : (u : ℕ) → is_red u ≡ true → (suit u ≡ 1) ⊎ (suit u ≡ 2)
red_suits u red = grind (arith, nat_tests)

-- what a card's hosts are, where they are its lower cards of the other colour
pub hosts_of_red : (n card : ℕ) → card < 52 → is_red card ≡ true → (u : ℕ) → IsLowerOf card 0 3 u ↔ Stands (free_cell n) u card
hosts_of_red n card below other u = (
  λ (one, next, suits). pairs_where-have are_of_other_colour u card one below next
      (⊎_elim (λ e. let a : is_red u ≡ false = rw e refl in rw (a, other) refl)
      (λ e. let a : is_red u ≡ false = rw e refl in rw (a, other) refl) suits),
  λ found. let p = pairs_where-only are_of_other_colour (u, card) found in
      (p.0.0, p.0.2, black_suits u (black-of u card other p.1)),
)

pub hosts_of_black : (n card : ℕ) → card < 52 → is_red card ≡ false → (u : ℕ)
    → IsLowerOf card 1 2 u ↔ Stands (free_cell n) u card
hosts_of_black n card below other u = (
  λ (one, next, suits). pairs_where-have are_of_other_colour u card one below next
      (⊎_elim (λ e. let a : is_red u ≡ true = rw e refl in rw (a, other) refl)
      (λ e. let a : is_red u ≡ true = rw e refl in rw (a, other) refl) suits),
  λ found. let p = pairs_where-only are_of_other_colour (u, card) found in
      (p.0.0, p.0.2, red_suits u (red-of u card other p.1)),
)

-- what a card's hosts are, where they are its lower card of the same suit
pub hosts_in_suit : (n card x : ℕ) → card < 52 → 2 ≤ rank card → x ≡ (rank card - 1 - 1) * 4 + suit card → (u : ℕ)
    → Contains (x ∷ []) u ↔ Stands (bakers_game n) u card
hosts_in_suit n card x below two ex u = (
  λ found. let e = Contains-one x u found in
      pairs_where-have (λ a b. suit a == suit b) u card (omega arith) below (omega arith)
      (let s : suit u ≡ suit card = omega arith in grind (arith, nat_tests)),
  λ found. let p = pairs_where-only (λ a b. suit a == suit b) (u, card) found in
      let s : suit u ≡ suit card = let t = p.1 in grind (arith, nat_tests) in
      let e : x ≡ u = omega (arith, p.0.2) in subst (Contains (x ∷ [])) e (Contains-first [] x),
)

-- nothing stands on an ace
pub no_hosts : (test : ℕ → ℕ → Bool) (card : ℕ) → rank card ≡ 1 → (u : ℕ)
    → Contains {X = ℕ} [] u ↔ Contains (pairs_where test) (u, card)
no_hosts test card ace u = (
  λ found. absurd (omega (arith, found.1)),
  λ found. absurd (omega (arith, (pairs_where-only test (u, card) found).0.2)),
)

-- the four cards of one rank, where every pair one rank apart passes
pub hosts_of_rank : (cards : List ℕ) (card first : ℕ) → card < 52 → 2 ≤ rank card → first ≡ (rank card - 1 - 1) * 4
    → cards ≡ map (λ k. first + k) (range_with_len 0 4) → (u : ℕ)
    → Contains cards u ↔ Contains (pairs_where (λ _ _. true)) (u, card)
hosts_of_rank cards card first below two ef items u =
    rw items (
      λ (k, within, e).
          let four : k < 4 = omega (arith, length-map-range_with_len (λ i. first + i) 0 4) in
          let same = get_or-map-range_with_len (λ i. first + i) 0 4 k k u four (omega arith) in
          pairs_where-have (λ _ _. true) u card (omega (arith, e, same)) below (omega (arith, e, same)) refl,
      λ found.
          let p = pairs_where-only (λ _ _. true) (u, card) found in
          let four : u - first < 4 = omega (arith, p.0.2) in (
            u - first,
            omega (arith, length-map-range_with_len (λ i. first + i) 0 4),
            get_or-map-range_with_len (λ i. first + i) 0 4 (u - first) (u - first) u four (omega arith)
                ∙ (omega (arith, p.0.2)),
          ),
    )

-- the test of two suits for equality compares their numbers
pub suits_same : (a b : Suit) → IsTrue (sameb the_type a b) ↔ (suit_index a ≡ suit_index b)
suits_same C C = (λ _. refl, λ _. refl)
suits_same C D = (λ h. absurd (cc h), λ e. absurd (cc e))
suits_same C H = (λ h. absurd (cc h), λ e. absurd (cc e))
suits_same C S = (λ h. absurd (cc h), λ e. absurd (cc e))
suits_same D C = (λ h. absurd (cc h), λ e. absurd (cc e))
suits_same D D = (λ _. refl, λ _. refl)
suits_same D H = (λ h. absurd (cc h), λ e. absurd (cc e))
suits_same D S = (λ h. absurd (cc h), λ e. absurd (cc e))
suits_same H C = (λ h. absurd (cc h), λ e. absurd (cc e))
suits_same H D = (λ h. absurd (cc h), λ e. absurd (cc e))
suits_same H H = (λ _. refl, λ _. refl)
suits_same H S = (λ h. absurd (cc h), λ e. absurd (cc e))
suits_same S C = (λ h. absurd (cc h), λ e. absurd (cc e))
suits_same S D = (λ h. absurd (cc h), λ e. absurd (cc e))
suits_same S H = (λ h. absurd (cc h), λ e. absurd (cc e))
suits_same S S = (λ _. refl, λ _. refl)

-- the same, where the suits are those of two cards
pub suits_read : (t : Bool) (a b : Suit) (u l : ℕ) → t ≡ sameb the_type a b → suit_index a ≡ u → suit_index b ≡ l
    → IsTrue t ↔ (u ≡ l)
suits_read t a b u l e one two =
    (λ yes. sym one ∙ (suits_same a b).0 (sym e ∙ yes) ∙ two, λ same. e ∙ (suits_same a b).1 (one ∙ same ∙ sym two))
