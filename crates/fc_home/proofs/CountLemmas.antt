-- Counts of two boards, of which the one is ahead by cards that could go home.
use Rattle.std.proofs.Common.{◌≡◌, ℕ, ◌≤◌, ◌⊎◌, List, length, set, refl, ◌∙◌, ap, subst, inl, inr, ⊎_elim, arith}
use Rattle.std.specs.Prelude.{slice_index}
use Rattle.std.proofs.lemmas.List.{get_or-set_same, get_or-set_other}
use Rattle.std.proofs.lemmas.Bool.{cases_lt, cases_eq}
use Rattle.fc_cards.specs.Card.{rank, suit}
use Rattle.fc_position.specs.Board.{IsHome, IsNext}
use Rattle.fc_moves.specs.GameRules.{GameRules, Stands}

-- the counts with one card more home
abbrev pub with_home : List ℕ → ℕ → List ℕ
with_home homes u = set homes (suit u) (rank u)

own_count : (homes : List ℕ) (u s : ℕ) → length homes ≡ 4 → s ≡ suit u → slice_index (with_home homes u) s ≡ rank u
own_count homes u s four e =
    ap (slice_index (with_home homes u)) e ∙ get_or-set_same homes (suit u) (rank u) 0 (omega arith)

pub other_count : (homes : List ℕ) (u s : ℕ) → (s ≡ suit u → ⊥) → slice_index (with_home homes u) s ≡ slice_index homes s
other_count homes u s ne = get_or-set_other homes (suit u) s (rank u) 0 ne

-- a card that is home stays home, the card itself is home, and no other is
pub home-kept : (homes : List ℕ) (u c : ℕ) → length homes ≡ 4 → IsNext homes u → IsHome homes c → IsHome (with_home homes u) c
home-kept homes u c four next home =
    ⊎_elim (λ e. omega (arith, own_count homes u (suit c) four e, ap (slice_index homes) e, next, home))
    (λ ne. omega (arith, other_count homes u (suit c) ne, home)) (cases_eq (suit c) (suit u))

pub home-own : (homes : List ℕ) (u : ℕ) → length homes ≡ 4 → IsHome (with_home homes u) u
home-own homes u four = omega (arith, own_count homes u (suit u) four refl)

pub home-cases : (homes : List ℕ) (u c : ℕ) → length homes ≡ 4 → IsNext homes u → IsHome (with_home homes u) c
    → IsHome homes c ⊎ (u ≡ c)
home-cases homes u c four next home =
    ⊎_elim
    (λ e. ⊎_elim (λ lt. inl (omega (arith, ap (slice_index homes) e, next, lt)))
    (λ le. let ranks : rank c ≡ rank u = omega (arith, own_count homes u (suit c) four e, home, le) in inr (omega (arith, ranks, e)))
    (cases_lt (rank c) (rank u)))
    (λ ne. inl (omega (arith, other_count homes u (suit c) ne, home)))
    (cases_eq (suit c) (suit u))

-- a card that is next is home or still next
pub next-kept : (homes : List ℕ) (u c : ℕ) → length homes ≡ 4 → IsNext homes u → IsNext homes c
    → IsHome (with_home homes u) c ⊎ IsNext (with_home homes u) c
next-kept homes u c four next also =
    ⊎_elim (λ e. inl (omega (arith, own_count homes u (suit c) four e, ap (slice_index homes) e, next, also)))
    (λ ne. inr (omega (arith, other_count homes u (suit c) ne, also))) (cases_eq (suit c) (suit u))

-- The right counts are ahead of the left ones by cards of a set: no count is less, what is home on the right is home on
-- the left or in the set, each card of the set is home or next on the left, and each card that may stand on one of the set
-- is home on the left or in the set.
pub record IsAhead (S : ℕ → Type 0) (g : GameRules) (left right : List ℕ) : Type 0 where
  pub least : (s : ℕ) → slice_index left s ≤ slice_index right s
  pub ahead : (c : ℕ) → IsHome right c → IsHome left c ⊎ S c
  pub ready : (c : ℕ) → S c → IsHome left c ⊎ IsNext left c
  pub hosts : (c u : ℕ) → S c → Stands g u c → IsHome left u ⊎ S u

-- a card that is next on the left, and not home on the right, is next on the right
pub next_right : (S : ℕ → Type 0) (g : GameRules) (left right : List ℕ) (u : ℕ) → IsAhead S g left right → IsNext left u
    → (IsHome right u → ⊥) → IsNext right u
next_right S g left right u a next away =
    ⊎_elim (λ lt. omega (arith, lt, a.least (suit u), next)) (λ le. absurd (away le)) (cases_lt (slice_index right (suit u)) (rank u))

-- a card goes home on the left, where it is home on the right
pub ahead-left : (S : ℕ → Type 0) (g : GameRules) (left right : List ℕ) (u : ℕ) → length left ≡ 4 → IsAhead S g left right
    → IsNext left u → IsHome right u → IsAhead S g (with_home left u) right
ahead-left S g left right u four a next home = record {
  least = λ s. ⊎_elim (λ e. omega (arith, own_count left u s four e, ap (slice_index right) e, home))
      (λ ne. omega (arith, other_count left u s ne, a.least s)) (cases_eq s (suit u));
  ahead = λ c h. ⊎_elim (λ l. inl (home-kept left u c four next l)) (λ s. inr s) (a.ahead c h);
  ready = λ c s. ⊎_elim (λ l. inl (home-kept left u c four next l)) (λ n. next-kept left u c four next n) (a.ready c s);
  hosts = λ c v s stands. ⊎_elim (λ l. inl (home-kept left u v four next l)) (λ t. inr t) (a.hosts c v s stands);
}

-- a card of the set goes home on the right
pub ahead-right : (S : ℕ → Type 0) (g : GameRules) (left right : List ℕ) (u : ℕ) → length right ≡ 4 → IsAhead S g left right
    → IsNext right u → S u → IsAhead S g left (with_home right u)
ahead-right S g left right u four a next in_set = record {
  least = λ s. ⊎_elim (λ e. omega (arith, own_count right u s four e, ap (slice_index right) e, next, a.least s))
      (λ ne. omega (arith, other_count right u s ne, a.least s)) (cases_eq s (suit u));
  ahead = λ c h. ⊎_elim (λ l. a.ahead c l) (λ e. inr (subst S e in_set)) (home-cases right u c four next h);
  ready = a.ready;
  hosts = a.hosts;
}

-- a card goes home on both sides
pub ahead-both : (S : ℕ → Type 0) (g : GameRules) (left right : List ℕ) (u : ℕ) → length left ≡ 4 → length right ≡ 4
    → IsAhead S g left right → IsNext left u → IsNext right u → IsAhead S g (with_home left u) (with_home right u)
ahead-both S g left right u four four_too a next also = record {
  least = λ s. ⊎_elim (λ e. omega (arith, own_count left u s four e, own_count right u s four_too e))
      (λ ne. omega (arith, other_count left u s ne, other_count right u s ne, a.least s)) (cases_eq s (suit u));
  ahead = λ c h. ⊎_elim (λ r. ⊎_elim (λ l. inl (home-kept left u c four next l)) (λ s. inr s) (a.ahead c r))
      (λ e. inl (subst (IsHome (with_home left u)) e (home-own left u four))) (home-cases right u c four_too also h);
  ready = λ c s. ⊎_elim (λ l. inl (home-kept left u c four next l)) (λ n. next-kept left u c four next n) (a.ready c s);
  hosts = λ c v s stands. ⊎_elim (λ l. inl (home-kept left u v four next l)) (λ t. inr t) (a.hosts c v s stands);
}
