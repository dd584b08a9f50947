-- Lemmas on how much a search may still do.
use Rattle.std.proofs.Common.{◌≡◌, ℕ, ◌+◌, ◌-◌, ◌*◌, ◌<◌, ◌≤◌, suc, zero, Some, List, [], ◌∷◌, ◌++◌, length, refl, sym, ◌∙◌, ap, subst, arith}
use Rattle.std.specs.Prelude.{slice_get, slice_set, sum_by}
use Rattle.std.proofs.lemmas.Nat.{mul-le}
use Rattle.std.proofs.lemmas.Option.{none-some}
use Rattle.std.proofs.lemmas.List.{length_push}
use Rattle.std.proofs.lemmas.List.Sums.{sum_by-cons, sum_by_push}
use Rattle.std.proofs.lemmas.List.Sorted.{length_permutation}
use Rattle.indexmap.specs.Layout.{set_value_at, length-set_value_at}
use Rattle.fc_frontier.specs.Queue.{Adds}
use Rattle.fc_best_first.specs.declared.books.Mark.{Mark}
use Rattle.fc_best_first.specs.declared.books.Opening.{Opening}
use Rattle.fc_best_first.specs.declared.books.Offered.TheVariants.{Added}
use Rattle.fc_best_first.specs.declared.strategies.Strategy.{Strategy}
use Rattle.fc_best_first.specs.Store.{Store, Candidate, Lowers, Stores, opens_at, weighed_cost}
use Rattle.fc_best_first.specs.Turn.{Reopens, costs_below, work_left}

added_one : (old new : List (ℕ × ℕ)) (p : ℕ × ℕ) → Adds old new p → length new ≡ suc (length old)
added_one old new p h = length_permutation (p ∷ old) new h

-- how much further above their costs keys may be opened
abbrev rises : List Opening → ℕ
rises os = sum_by (λ o. 28050 - o.over) os

-- an opening in the place of another
rises_set : (os : List Opening) (i : ℕ) (was next : Opening) → slice_get os i ≡ Some was
    → rises (slice_set os i next) + (28050 - was.over) ≡ rises os + (28050 - next.over)
rises_set [] i was next at = absurd (none-some was at)
rises_set (o ∷ os) zero was next at =
    let same : o ≡ was = cc in
    let over = ap (λ q. 28050 - q.over) same in
    omega (arith, sum_by-cons (λ (q : Opening). 28050 - q.over) o os, sum_by-cons (λ (q : Opening). 28050 - q.over) next os, over)
rises_set (o ∷ os) (suc i) was next at = omega (
  arith,
  sum_by-cons (λ (q : Opening). 28050 - q.over) o os,
  sum_by-cons (λ (q : Opening). 28050 - q.over) o (slice_set os i next),
  rises_set os i was next at,
)

rises_most : (os : List Opening) (i : ℕ) (next : Opening) → rises (slice_set os i next) ≤ rises os + 28050
rises_most [] i next = omega arith
rises_most (o ∷ os) zero next = omega (arith, sum_by-cons (λ (q : Opening). 28050 - q.over) o os, sum_by-cons (λ (q : Opening). 28050 - q.over) next os)
rises_most (o ∷ os) (suc i) next = omega (
  arith,
  sum_by-cons (λ (q : Opening). 28050 - q.over) o os,
  sum_by-cons (λ (q : Opening). 28050 - q.over) o (slice_set os i next),
  rises_most os i next,
)

-- what is noted anew or last adds so much at most
anew_most : (old new : List Opening) (i : ℕ) (opening : Opening) → new ≡ slice_set old i opening → rises new ≤ rises old + 28050
anew_most old new i opening is = let e = ap (λ os. rises os) is in omega (arith, e, rises_most old i opening)

last_most : (old new : List Opening) (opening : Opening) → new ≡ old ++ opening ∷ [] → rises new ≤ rises old + 28050
last_most old new opening is =
    let e : rises new ≡ rises old + (28050 - opening.over) = ap (λ os. rises os) is ∙ sum_by_push (λ (q : Opening). 28050 - q.over) old opening in
    omega (arith, e)

-- a cost that fell counts more than the pair that it opened, and where
lowered_falls : (old new less more w v before after room : ℕ) → new + more ≡ old + less → less < more → v ≡ suc w
    → after ≤ before + 28050 → 28051 * (new + room) + after + v ≤ 28051 * (old + room) + before + w
lowered_falls old new less more w v before after room e lt p most = omega (arith, e, lt, p, most)

-- and so does a place that was taken
added_falls : (sum cost n here total w v before after : ℕ) → here + (n + 1001) ≤ total → cost ≤ n + 1000 → v ≡ suc w
    → after ≤ before + 28050
    → 28051 * (sum + cost + (total - (here + (n + 1001)))) + after + v ≤ 28051 * (sum + (total - here)) + before + w
added_falls sum cost n here total w v before after room low p more =
    let rest : ℕ = total - (here + (n + 1001)) in
    let all : total - here ≡ rest + (n + 1001) = omega (arith, room) in
    omega (arith, all, low, p, more)

-- what so many keys may cost, and one more
costs_next : (n : ℕ) → costs_below (suc n) ≡ costs_below n + (n + 1001)
unfolding costs_below
costs_next n = refl

pub costs_twice : (n : ℕ) → 2 * costs_below n ≡ n * (n + 2001)
unfolding costs_below
costs_twice zero = refl
costs_twice (suc n) = omega (arith, costs_twice n)

costs_more : (n b : ℕ) → n ≤ b → costs_below n ≤ costs_below b
costs_more n b le =
    let product : n * (n + 2001) ≤ b * (b + 2001) = mul-le n (n + 2001) b (b + 2001) le (omega (arith, le)) in
    omega (arith, costs_twice n, costs_twice b, product)

module _ {K : Type 0} where
  sum_set : (es : List (K × Mark)) (i : ℕ) (x : K) (m w : Mark) → slice_get es i ≡ Some (x, m)
      → sum_by (λ e. e.1.cost) (set_value_at es i w) + m.cost ≡ sum_by (λ e. e.1.cost) es + w.cost
  sum_set [] i x m w at = absurd (none-some (x, m) at)
  sum_set (e ∷ es) zero x m w at =
      let same : e ≡ (x, m) = cc in
      let cost = ap (λ p. p.1.cost) same in
      omega (arith, sum_by-cons (λ (p : K × Mark). p.1.cost) e es, sum_by-cons (λ (p : K × Mark). p.1.cost) (e.0, w) es, cost)
  sum_set (e ∷ es) (suc i) x m w at =
      omega (
        arith,
        sum_by-cons (λ (p : K × Mark). p.1.cost) e es,
        sum_by-cons (λ (p : K × Mark). p.1.cost) e (set_value_at es i w),
        sum_set es i x m w at,
      )

  pub lowered_work : (strategy : Strategy) (old new : Store K) (i : ℕ) (x : K) (was mark : Mark) (opening : Opening)
      → slice_get old.stored i ≡ Some (x, was) → mark.cost < was.cost → Lowers strategy old new i mark opening
      → work_left strategy.budget new ≤ work_left strategy.budget old
  lowered_work strategy old new i x was mark opening at lt (stored, opened, noted) =
      let budget = strategy.budget in
      let size : length new.stored ≡ length old.stored = ap length stored ∙ length-set_value_at old.stored i mark in
      let sum : sum_by (λ e. e.1.cost) new.stored + was.cost ≡ sum_by (λ e. e.1.cost) old.stored + mark.cost =
      ap (λ es. sum_by (λ (e : K × Mark). e.1.cost) es + was.cost) stored ∙ sum_set old.stored i x was mark at in
      subst (λ n. 28051 * (sum_by (λ e. e.1.cost) new.stored + (costs_below budget - costs_below n)) + rises new.openings + length new.waiting
      ≤ work_left budget old)
      (sym size)
      (lowered_falls (sum_by (λ e. e.1.cost) old.stored) (sum_by (λ e. e.1.cost) new.stored) mark.cost was.cost
      (length old.waiting) (length new.waiting) (rises old.openings) (rises new.openings) (costs_below budget - costs_below (length old.stored)) sum lt
      (added_one old.waiting new.waiting (opens_at (weighed_cost strategy mark) opening, i) opened)
      (anew_most old.openings new.openings i opening noted))

  pub added_work : (strategy : Strategy) (old new : Store K) (offer : Candidate K) → Stores strategy old new offer Added
      → offer.mark.cost ≤ length old.stored + 1000 → work_left strategy.budget new ≤ work_left strategy.budget old
  added_work strategy old new offer (lt, stored, opened, noted) low =
      let budget = strategy.budget in
      let n = length old.stored in
      let total : ℕ = costs_below budget in
      let here : ℕ = costs_below n in
      let size : length new.stored ≡ suc n =
      (let more = ap length stored ∙ length_push old.stored (offer.key, offer.mark) in omega (arith, more)) in
      let now : costs_below (length new.stored) ≡ here + (n + 1001) = ap costs_below size ∙ costs_next n in
      let room : here + (n + 1001) ≤ total =
      (let more = costs_more (suc n) budget (omega (arith, lt)) in let next = costs_next n in omega (arith, more, next)) in
      let sum : sum_by (λ e. e.1.cost) new.stored ≡ sum_by (λ e. e.1.cost) old.stored + offer.mark.cost =
      ap (sum_by (λ (e : K × Mark). e.1.cost)) stored ∙ sum_by_push (λ (e : K × Mark). e.1.cost) old.stored (offer.key, offer.mark) in
      subst (λ k. k ≤ work_left budget old)
      (ap (λ k. 28051 * (k + (total - (here + (n + 1001)))) + rises new.openings + length new.waiting) (sym sum)
      ∙ ap (λ k. 28051 * (sum_by (λ (e : K × Mark). e.1.cost) new.stored + (total - k)) + rises new.openings + length new.waiting) (sym now))
      (added_falls (sum_by (λ e. e.1.cost) old.stored) offer.mark.cost n here total (length old.waiting) (length new.waiting)
      (rises old.openings) (rises new.openings) room low
      (added_one old.waiting new.waiting (opens_at (weighed_cost strategy offer.mark) offer.opening, n) opened)
      (last_most old.openings new.openings offer.opening noted))

  -- a pair that is taken leaves less
  pub taken_work : (budget : ℕ) (old new : Store K) (p : ℕ × ℕ) → new.stored ≡ old.stored → new.openings ≡ old.openings
      → Adds new.waiting old.waiting p → work_left budget new < work_left budget old
  taken_work budget old new p kept noted taken =
      let one = added_one new.waiting old.waiting p taken in
      let same = ap (λ es. 28051 * (sum_by (λ (e : K × Mark). e.1.cost) es + (costs_below budget - costs_below (length es)))) kept in
      let still = ap (λ os. rises os) noted in
      omega (arith, one, same, still)

  -- and so does one at which a key is opened further above its cost
  pub reopened_work : (budget : ℕ) (old new : Store K) (number cost : ℕ) (was : Opening) (later : ℕ)
      → slice_get old.openings number ≡ Some was → opens_at cost was < later → Reopens old new number cost later
      → work_left budget new ≤ work_left budget old
  reopened_work budget old new number cost was later at rises_to (before, next, there, bound, note, most, opens, kept, opened, noted) =
      let one = added_one old.waiting new.waiting (later, number) opened in
      let same = ap (λ es. 28051 * (sum_by (λ (e : K × Mark). e.1.cost) es + (costs_below budget - costs_below (length es)))) kept in
      let sum = ap (λ os. rises os) noted in
      let set = rises_set old.openings number was next at in
      omega (arith, one, same, sum, set, rises_to, most, opens)
