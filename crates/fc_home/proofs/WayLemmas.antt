-- Whether a card goes home is decided, and a position settles in one way.
use Rattle.std.proofs.Common.{◌≡◌, ℕ, zero, suc, ◌+◌, ◌-◌, ◌⊎◌, Some, List, [], ◌∷◌, length, refl, sym, ◌∙◌, ap, subst, inl, inr, ⊎_elim, arith}
use Rattle.std.specs.Prelude.{Contains, slice_index}
use Rattle.std.proofs.lemmas.Bool.{cases_lt, cases_eq}
use Rattle.fc_cards.specs.Card.{rank, suit}
use Rattle.fc_position.specs.Board.{IsHome, IsNext}
use Rattle.fc_moves.specs.inner.GameLaws.{Contains-cases, Contains-first, Contains-later}
use Rattle.fc_moves.specs.GameRules.{GameRules, Stands}
use Rattle.fc_moves.proofs.StepLemmas.{move_same}
use Rattle.fc_position.proofs.PlaceLemmas.{source_once}
use Rattle.fc_home.specs.HomeRule.{IsFreeWithin, GoesHome}
use Rattle.fc_home.specs.Laws.{PositionsSettleInOneWay, SettlingMovesAreOne}
use Rattle.fc_home.specs.Settles.{SettlesBy, sent_home}
use Rattle.fc_home.proofs.SettleLemmas.{sent_position}

-- what holds, or doesn't
abbrev Decided : Type 0 → Type 0
Decided P = P ⊎ (P → ⊥)

both : (P Q : Type 0) → Decided P → Decided Q → Decided (P × Q)
both P Q p q =
    ⊎_elim (λ one. ⊎_elim (λ two. inl (one, two)) (λ fails. inr (λ pair. fails pair.1)) q) (λ fails. inr (λ pair. fails pair.0)) p

either : (P Q : Type 0) → Decided P → Decided Q → Decided (P ⊎ Q)
either P Q p q =
    ⊎_elim (λ one. inl (inl one))
    (λ fails. ⊎_elim (λ two. inl (inr two)) (λ also. inr (λ e. ⊎_elim (λ x. fails x) (λ x. also x) e)) q) p

-- whether something holds of each card that may stand on a card
decide_hosts : (pairs : List (ℕ × ℕ)) (c : ℕ) (P : ℕ → Type 0) → ((u : ℕ) → Decided (P u))
    → Decided ((u : ℕ) → Contains pairs (u, c) → P u)
decide_hosts [] c P each = inl (λ u found. absurd (omega (arith, found.1)))
decide_hosts (p ∷ ps) c P each =
    ⊎_elim
    (λ rest. ⊎_elim
    (λ e. let pair : p ≡ (p.0, c) = ap (λ (n : ℕ). let q : ℕ × ℕ = (p.0, n) in q) e in
    ⊎_elim
    (λ holds. inl (λ u found. ⊎_elim (λ same. subst P (ap (λ q. q.0) same) holds) (λ later. rest u later) (Contains-cases p ps (u, c) found)))
    (λ fails. inr (λ all. fails (all p.0 (subst (Contains (p ∷ ps)) pair (Contains-first ps p)))))
    (each p.0))
    (λ ne. inl (λ u found. ⊎_elim (λ same. absurd (ne (ap (λ q. q.1) same))) (λ later. rest u later) (Contains-cases p ps (u, c) found)))
    (cases_eq p.1 c))
    (λ fails. inr (λ all. fails (λ u found. all u (Contains-later p ps (u, c) found))))
    (decide_hosts ps c P each)

decide_home : (homes : List ℕ) (u : ℕ) → Decided (IsHome homes u)
decide_home homes u =
    ⊎_elim (λ lt. inr (λ home. omega (arith, lt, home))) (λ le. inl le) (cases_lt (slice_index homes (suit u)) (rank u))

decide_next : (homes : List ℕ) (c : ℕ) → Decided (IsNext homes c)
decide_next homes c = cases_eq (slice_index homes (suit c) + 1) (rank c)

decide_free : (depth : ℕ) (g : GameRules) (homes : List ℕ) (c : ℕ) → Decided (IsFreeWithin depth g homes c)
decide_free zero g homes c = inr (λ f. f)
decide_free (suc depth) g homes c =
    both (IsNext homes c) ((u : ℕ) → Stands g u c → IsHome homes u ⊎ IsFreeWithin depth g homes u) (decide_next homes c)
    (decide_hosts g.pairs c (λ u. IsHome homes u ⊎ IsFreeWithin depth g homes u)
    (λ u. either (IsHome homes u) (IsFreeWithin depth g homes u) (decide_home homes u) (decide_free depth g homes u)))

-- whether a card goes home
pub decide_goes : (rule : ℕ) (g : GameRules) (homes : List ℕ) (c : ℕ) → Decided (GoesHome rule g homes c)
decide_goes zero g homes c = inr (λ f. f)
decide_goes (suc zero) g homes c =
    both (IsNext homes c) ((u : ℕ) → Stands g u c → IsHome homes u) (decide_next homes c)
    (decide_hosts g.pairs c (IsHome homes) (decide_home homes))
decide_goes (suc (suc more)) g homes c = decide_free (rank c) g homes c

-- by one list of moves, to one board
pub settles_by_once : SettlingMovesAreOne
settles_by_once g rule b q r [] [] p (same, none) (also, none_too) = (refl, same ∙ sym also)
settles_by_once g rule b q r [] (n ∷ ns) p (same, none) (d, first, home, rest) = absurd (none n.from d first.there first.goes)
settles_by_once g rule b q r (m ∷ ms) [] p (c, first, home, rest) (also, none) = absurd (none m.from c first.there first.goes)
settles_by_once g rule b q r (m ∷ ms) (n ∷ ns) p (c, first, home, rest) (d, first_too, home_too, rest_too) =
    let card : d ≡ c =
    omega (arith, first.least n.from d first_too.there first_too.goes, first_too.least m.from c first.there first.goes) in
    let from : n.from ≡ m.from =
    source_once b n.from m.from d p first_too.there (first.there ∙ ap (λ (k : ℕ). Some k) (sym card)) in
    let next : sent_home b n.from d ≡ sent_home b m.from c = ap (λ f. sent_home b f d) from ∙ ap (sent_home b m.from) card in
    let moved = subst (λ x. SettlesBy g rule x ns r) next rest_too in
    let later = settles_by_once g rule (sent_home b m.from c) q r ms ns (sent_position rule g b m.from c p first) rest moved in
    let here : m ≡ n = move_same m n (sym from) (home ∙ sym home_too) in
    (ap (λ x. x ∷ ms) here ∙ ap (λ l. n ∷ l) later.0, later.1)

pub settles_once : PositionsSettleInOneWay
settles_once g rule b q r k l p (ms, long, one) (ns, length_too, two) =
    let same = settles_by_once g rule b q r ms ns p one two in (sym long ∙ ap length same.0 ∙ length_too, same.1)
