-- What is known of the next cards, and what of it stays known while cards go home.
use Rattle.std.proofs.Common.{◌≡◌, ◌≢◌, ℕ, zero, suc, ◌↔◌, Bool, true, Option, Some, None, List, length, refl, sym, ◌∙◌, ap, subst, inl, inr, ⊎_elim, arith}
use Rattle.std.specs.Prelude.{IsTrue, slice_index}
use Rattle.std.proofs.lemmas.Bool.{cases_eq}
use Rattle.fc_cards.specs.Card.{rank, suit}
use Rattle.fc_position.specs.Board.{IsHome, IsNext}
use Rattle.fc_moves.specs.GameRules.{GameRules, IsGame}
use Rattle.fc_home.specs.HomeRule.{IsForced, IsFreeWithin, IsFree}
use Rattle.fc_home.specs.inner.Known.{IsLevel, answer_of, Tells, IsKnown}
use Rattle.fc_home.specs.Laws.{GoersStay}
use Rattle.fc_home.proofs.CountLemmas.{with_home, home-kept, home-own, home-cases, next-kept, other_count}
use Rattle.fc_home.proofs.RuleLemmas.{host_lower, forced_free}

-- two next cards of one suit are the same
pub next_once : (homes : List ℕ) (c d : ℕ) → IsNext homes c → IsNext homes d → suit c ≡ suit d → c ≡ d
next_once homes c d next also e = omega (arith, ap (slice_index homes) e, next, also, e)

-- a next card stays next while another goes home
pub next_stays : (homes : List ℕ) (c u : ℕ) → length homes ≡ 4 → IsNext homes u → IsNext homes c → (u ≡ c → ⊥)
    → IsNext (with_home homes u) c
next_stays homes c u four next also apart =
    ⊎_elim
    (λ home. absurd (⊎_elim (λ before. omega (arith, also, before)) (λ e. apart e) (home-cases homes u c four next home)))
    (λ still. still)
    (next-kept homes u c four next also)

-- and so a card that goes home by a rule still does
forced_stays : (g : GameRules) (homes : List ℕ) (c u : ℕ) → length homes ≡ 4 → IsNext homes u → (u ≡ c → ⊥) → IsForced g homes c
    → IsForced g (with_home homes u) c
forced_stays g homes c u four next apart (also, hosts) =
    (next_stays homes c u four next also apart, λ v stands. home-kept homes u v four next (hosts v stands))

within_stays : (depth : ℕ) (g : GameRules) (homes : List ℕ) (c u : ℕ) → length homes ≡ 4 → IsNext homes u → (u ≡ c → ⊥)
    → IsFreeWithin depth g homes c → IsFreeWithin depth g (with_home homes u) c
within_stays zero g homes c u four next apart free = free
within_stays (suc depth) g homes c u four next apart (also, hosts) = (
  next_stays homes c u four next also apart,
  λ v stands.
      ⊎_elim (λ home. inl (home-kept homes u v four next home))
      (λ free.
      ⊎_elim (λ e. inl (subst (IsHome (with_home homes u)) e (home-own homes u four)))
      (λ ne. inr (within_stays depth g homes v u four next ne free)) (cases_eq u v))
      (hosts v stands),
)

pub goers_stay : GoersStay
goers_stay zero g homes c u four goes next apart = goes
goers_stay (suc zero) g homes c u four goes next apart = forced_stays g homes c u four next apart goes
goers_stay (suc (suc more)) g homes c u four goes next apart = within_stays (rank c) g homes c u four next apart goes

-- a next card is forced where every card of a lower rank is home
pub level_forced : (g : GameRules) (homes : List ℕ) (c : ℕ) → IsGame g → IsNext homes c
    → IsLevel homes c → IsForced g homes c
level_forced g homes c game next level =
    (next, λ u stands. omega (arith, host_lower g u c game stands, level (suit u) (omega arith)))

pub level_free : (g : GameRules) (homes : List ℕ) (c : ℕ) → IsGame g → IsNext homes c
    → IsLevel homes c → IsFree g homes c
level_free g homes c game next level = forced_free g homes c (level_forced g homes c game next level)

-- an answer that is kept tells whether the next card of its suit is free
pub known_tells : (g : GameRules) (homes : List ℕ) (answers : List (Option Bool)) (c : ℕ) (t : Bool) → IsKnown g homes answers
    → IsNext homes c → answer_of answers (suit c) ≡ Some t → IsTrue t ↔ IsFree g homes c
known_tells g homes answers c t known next e = subst (λ a. Tells a (IsFree g homes c)) e (known c next)

-- one more answer is kept
pub known_keep : (g : GameRules) (homes : List ℕ) (old new : List (Option Bool)) (c s : ℕ) (t : Bool) → IsKnown g homes old
    → IsNext homes c → s ≡ suit c → (IsTrue t ↔ IsFree g homes c) → answer_of new s ≡ Some t
    → ((k : ℕ) → k ≢ s → answer_of new k ≡ answer_of old k) → IsKnown g homes new
known_keep g homes old new c s t known next place told here rest d also =
    ⊎_elim
    (λ e. let card : c ≡ d = next_once homes c d next also (sym place ∙ sym e) in
    subst (λ a. Tells a (IsFree g homes d)) (sym (ap (answer_of new) e ∙ here)) (subst (λ x. IsTrue t ↔ IsFree g homes x) card told))
    (λ ne. subst (λ a. Tells a (IsFree g homes d)) (sym (rest (suit d) ne)) (known d also))
    (cases_eq (suit d) s)

-- a next card goes home, and of what was known only that cards of other suits are free is kept
pub known_send : (g : GameRules) (homes : List ℕ) (old new : List (Option Bool)) (u : ℕ) → length homes ≡ 4 → IsNext homes u
    → IsKnown g homes old
    → ((s : ℕ) (t : Bool) → answer_of new s ≡ Some t → (t ≡ true) × (answer_of old s ≡ Some true) × (s ≢ suit u))
    → IsKnown g (with_home homes u) new
known_send g homes old new u four next known left c also =
    elim (answer_of new (suit c)) as (λ a. answer_of new (suit c) ≡ a → Tells a (IsFree g (with_home homes u) c)) [
      | None ↦ λ e. tt
      | Some t ↦ λ e.
          let (t_true, was, ne) = left (suit c) t e in
          let before : IsNext homes c = omega (arith, other_count homes u (suit c) ne, also) in
          let free : IsFree g homes c = (known_tells g homes old c true known before was).0 refl in
          let apart : u ≡ c → ⊥ = λ same. ne (ap (λ (x : ℕ). suit x) (sym same)) in
          (λ _. goers_stay 2 g homes c u four free next apart, λ _. t_true)
    ] refl
