-- Which cards go home, told by the cards that may stand on them.
use Rattle.std.proofs.Common.{◌≡◌, ℕ, suc, ◌+◌, ◌/◌, ◌<◌, ◌≤◌, ◌⊎◌, ◌↔◌, Bool, false, List, length, get_or, sym, ◌∙◌, ap, subst, inl, inr, ⊎_elim, add-one, arith}
use Rattle.std.specs.Prelude.{IsTrue, Contains}
use Rattle.fc_cards.specs.Card.{rank}
use Rattle.fc_position.specs.Board.{IsHome, IsNext}
use Rattle.fc_moves.specs.GameRules.{GameRules, Stands, IsGame, IsPair}
use Rattle.fc_home.specs.HomeRule.{IsForced, IsFreeWithin, IsFree}
use Rattle.fc_home.specs.Laws.{CardsAreFreeByOthers, ForcedCardsAreFree}

-- a card stands on cards one rank higher
pub host_lower : (g : GameRules) (u c : ℕ) → IsGame g → Stands g u c → rank u + 1 ≡ rank c
host_lower g u c game (k, below, e) = (subst IsPair e (game.pairs k (u, c) below)).2

-- a next card is free where each card that may stand on it is home or free, and only there
pub free_by_hosts : (g : GameRules) (homes : List ℕ) (c : ℕ) → IsGame g → IsNext homes c
    → ((u : ℕ) → Stands g u c → IsHome homes u ⊎ IsFree g homes u) → IsFree g homes c
free_by_hosts g homes c game next hosts =
    subst (λ n. IsFreeWithin n g homes c) (sym (add-one (c / 4))) (
      next,
      λ u stands.
          let lower : rank u ≡ c / 4 = omega (arith, host_lower g u c game stands) in
          ⊎_elim (λ h. inl h) (λ f. inr (subst (λ n. IsFreeWithin n g homes u) lower f)) (hosts u stands),
    )

pub free_hosts : (g : GameRules) (homes : List ℕ) (c : ℕ) → IsGame g → IsFree g homes c
    → IsNext homes c × ((u : ℕ) → Stands g u c → IsHome homes u ⊎ IsFree g homes u)
free_hosts g homes c game free =
    let within : IsFreeWithin (suc (c / 4)) g homes c = subst (λ n. IsFreeWithin n g homes c) (add-one (c / 4)) free in (
      within.0,
      λ u stands.
          let lower : c / 4 ≡ rank u = omega (arith, host_lower g u c game stands) in
          ⊎_elim (λ h. inl h) (λ f. inr (subst (λ n. IsFreeWithin n g homes u) lower f)) (within.1 u stands),
    )

pub free_others : CardsAreFreeByOthers
free_others g homes c game = (free_hosts g homes c game, λ (next, hosts). free_by_hosts g homes c game next hosts)

-- a forced card is free
pub forced_free : ForcedCardsAreFree
forced_free g homes c (next, hosts) =
    subst (λ n. IsFreeWithin n g homes c) (sym (add-one (c / 4))) (next, λ u stands. inl (hosts u stands))

-- a free card is next
pub free_next : (g : GameRules) (homes : List ℕ) (c : ℕ) → IsFree g homes c → IsNext homes c
free_next g homes c free =
    let within : IsFreeWithin (suc (c / 4)) g homes c = subst (λ n. IsFreeWithin n g homes c) (add-one (c / 4)) free in within.0

-- what a test says that failed
pub refuted : {P : Type 0} (t : Bool) → (IsTrue t ↔ P) → t ≡ false → P → ⊥
refuted t told fails p = cc (sym fails ∙ told.1 p)

-- one card that may stand on it, and isn't home, keeps a card from being forced; if it isn't free either, from being free
pub not_forced : (g : GameRules) (homes : List ℕ) (c u : ℕ) (t : Bool) → Stands g u c → (IsTrue t ↔ IsHome homes u) → t ≡ false
    → IsTrue false ↔ IsForced g homes c
not_forced g homes c u t stands told fails =
    (λ e. absurd (cc e), λ forced. absurd (refuted t told fails (forced.1 u stands)))

pub not_free : (g : GameRules) (homes : List ℕ) (c u : ℕ) (s t : Bool) → IsGame g → Stands g u c
    → (IsTrue s ↔ IsHome homes u) → s ≡ false → (IsTrue t ↔ IsFree g homes u) → t ≡ false → IsTrue false ↔ IsFree g homes c
not_free g homes c u s t game stands home away told fails = (
  λ e. absurd (cc e),
  λ free. absurd (⊎_elim (λ h. refuted s home away h) (λ f. refuted t told fails f) ((free_hosts g homes c game free).1 u stands)),
)

-- what holds of each element looked at holds of every element of the list
pub all_looked_at : (P : ℕ → Type 0) (items seen : List ℕ) (n u : ℕ) → seen ≡ items → length seen ≤ n
    → ((k d : ℕ) → k < n → P (get_or seen k d)) → Contains items u → P u
all_looked_at P items seen n u same past each (k, below, e) =
    subst P (ap (λ l. get_or l k u) same ∙ e) (each k u (omega (arith, ap length same)))
