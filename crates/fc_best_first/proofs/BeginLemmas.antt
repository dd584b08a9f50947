-- Lemmas on how a search begins: what storing the first key leaves is kept.
use Rattle.std.proofs.Common.{◌≡◌, ℕ, ◌+◌, ◌*◌, ◌≤◌, suc, zero, Some, [], ◌∷◌, ◌++◌, length, refl, sym, ◌∙◌, ap, subst, inl, ⊎_elim, arith}
use Rattle.std.specs.Prelude.{slice_get}
use Rattle.std.proofs.lemmas.Bool.{cases_lt}
use Rattle.std.proofs.lemmas.Option.{none-some, some_pair_parts}
use Rattle.fc_frontier.specs.Queue.{Adds}
use Rattle.fc_best_first.specs.declared.books.Mark.{Mark}
use Rattle.fc_best_first.specs.declared.books.Opening.{Opening}
use Rattle.fc_best_first.specs.declared.books.Offered.{Offered}
use Rattle.fc_best_first.specs.declared.books.Offered.TheVariants.{Known, Lowered, Added, Full, PutOff, Past}
use Rattle.fc_best_first.specs.declared.strategies.Expansion.{Expansion}
use Rattle.fc_best_first.specs.declared.strategies.Expansion.TheVariants as expansion
use Rattle.fc_best_first.specs.declared.strategies.Strategy.{Strategy}
use Rattle.fc_best_first.specs.Graph.{Task, IsReached, IsLawful}
use Rattle.fc_best_first.specs.Limits.{ReachesLimit, weigh}
use Rattle.fc_best_first.specs.Store.{Store, Candidate, IsOpening, IsStored, Stores, bound_at, bound_in, opens_at, weighed_cost}
use Rattle.fc_best_first.specs.Kept.{AreNoted, Comes, IsKept, IsNeeded, IsOpenAt, IsOpenOrExpanded, f_of}
use Rattle.fc_best_first.specs.Shown.{IsFloor}
use Rattle.fc_best_first.proofs.KeptLemmas.{added_there, added_cases, open_under}

-- what storing the first key leaves
pub first_stored : {K : Type 0} (strategy : Strategy) (empty new : Store K) (offer : Candidate K) (o : Offered K)
    → empty.stored ≡ [] → empty.waiting ≡ [] → empty.openings ≡ [] → 1 ≤ strategy.budget → Stores strategy empty new offer o
    → (new.stored ≡ (offer.key, offer.mark) ∷ []) × Adds [] new.waiting (opens_at (weighed_cost strategy offer.mark) offer.opening, 0)
    × (new.openings ≡ offer.opening ∷ [])
first_stored strategy empty new offer Known none quiet unnoted some_room h = absurd h
first_stored strategy empty new offer Lowered none quiet unnoted some_room h = absurd h
first_stored strategy empty new offer (PutOff f) none quiet unnoted some_room h = absurd h
first_stored strategy empty new offer Past none quiet unnoted some_room h = absurd h
first_stored strategy empty new offer Added none quiet unnoted some_room (lt, stored, opened, noted) = (
  stored ∙ ap (λ es. es ++ (offer.key, offer.mark) ∷ []) none,
  subst (λ es. Adds [] new.waiting (opens_at (weighed_cost strategy offer.mark) offer.opening, length es)) none
      (subst (λ ps. Adds ps new.waiting (opens_at (weighed_cost strategy offer.mark) offer.opening, length empty.stored)) quiet opened),
  noted ∙ ap (λ os. os ++ offer.opening ∷ []) unnoted,
)
first_stored strategy empty new offer (Full y) none quiet unnoted some_room (same, full, kept) =
    absurd (let size = ap length none in omega (arith, size, full, some_room))

module _ {K : Type 0} (task : Task K) (s : Store K) (x : K) (e : Mark) (stored : s.stored ≡ (x, e) ∷ [])
    (opening : Opening) (opens : IsOpening task.graph task.strategy.weight x opening)
    (opened : Adds [] s.waiting (opens_at (weighed_cost task.strategy e) opening, 0)) (notes : s.openings ≡ opening ∷ []) where
  first_alone : (i : ℕ) (y : K) (n : Mark) → IsStored s i y n → (i ≡ 0) × (x ≡ y) × (e ≡ n)
  first_alone i y n at = by i (subst (λ es. slice_get es i ≡ Some (y, n)) stored at)
    where
      by : (i : ℕ) → slice_get {X = K × Mark} ((x, e) ∷ []) i ≡ Some (y, n) → (i ≡ 0) × (x ≡ y) × (e ≡ n)
      by zero h = let both = some_pair_parts x y e n h in (refl, both.0, both.1)
      by (suc i) h = absurd (none-some (y, n) h)

  first_here : IsStored s 0 x e
  first_here = subst (λ es. slice_get es 0 ≡ Some (x, e)) (sym stored) refl

  first_each : (P : ℕ → K → Mark → Type 0) → P 0 x e → (i : ℕ) (y : K) (n : Mark) → IsStored s i y n → P i y n
  first_each P here i y n at =
      let one = first_alone i y n at in
      subst (λ k. P k y n) (sym one.0) (subst (λ v. P 0 v n) one.1 (subst (λ m. P 0 x m) one.2 here))

  first_noted : AreNoted task.graph s
  first_noted = (
    ap length notes ∙ sym (ap length stored),
    first_each (λ i y n. (o : Opening) × (slice_get s.openings i ≡ Some o) × task.graph.shown y o.bound o.note)
        (opening, ap (λ os. slice_get os 0) notes, opens.1),
  )

  first_bound : bound_at s 0 ≡ opening.bound
  first_bound = ap (λ os. bound_in (slice_get os 0)) notes

  first_f : f_of task s 0 e ≡ opens_at (weighed_cost task.strategy e) opening
  first_f = ap (λ b. weigh task.strategy.weight e.cost b) first_bound ∙ ap (λ n. task.strategy.weight.parts * e.cost + n) (sym opens.0)

  first_open : IsOpenAt s 0 (weighed_cost task.strategy e) (f_of task s 0 e)
  first_open = subst (IsOpenAt s 0 (weighed_cost task.strategy e)) (sym first_f) (
    added_there [] s.waiting (opens_at (weighed_cost task.strategy e) opening, 0) opened,
    (opening, ap (λ os. slice_get os 0) notes, refl),
  )

  module _ (lawful : IsLawful task.graph) (heavy : task.strategy.weight.parts ≤ task.strategy.weight.times) (start : task.graph.starts x e.cost)
      (alone : (y : K) (d : ℕ) → task.graph.starts y d → (y ≡ x) × (e.cost ≤ d)) where
    -- no answer is below the cost plus bound of the first key: an empty table is closed inside it
    begins_least : (n : ℕ) → task.graph.wins n → e.cost + task.graph.bound x ≤ n
    begins_least n wins = ⊎_elim
        (λ over. absurd (
        let past : (d : ℕ) → e.cost ≤ d → suc n ≤ d + task.graph.bound x = λ d le. omega (arith, over, le) in
        let le = lawful.closed (suc n) [] (record {
          reached = λ y d listed. absurd (omega (arith, listed.1));
          not_won = λ y d listed. absurd (omega (arith, listed.1));
          starts = λ y d h. inl (subst (λ v. suc n ≤ d + task.graph.bound v) (sym (alone y d h).0) (past d (alone y d h).1));
          edges = λ y d c z listed. absurd (omega (arith, listed.1));
        }) n wins in
        omega (arith, le)))
        (λ within. within)
        (cases_lt n (e.cost + task.graph.bound x))

    -- nor below its cost plus what is noted of it
    begins_under : (n : ℕ) → task.graph.wins n → e.cost + opening.bound ≤ n
    begins_under n wins = omega (arith, begins_least n wins, lawful.shown x opening.bound opening.note opens.1)

    -- so none, weighed as a bound is, is below what it is open at
    pub begins_floor : IsFloor task.graph task.strategy.weight (opens_at (weighed_cost task.strategy e) opening)
    begins_floor n wins = omega (arith, open_under task.strategy.weight e.cost opening.bound n heavy (begins_under n wins), opens.0)

    first_needed : (expansion : Expansion) → IsNeeded expansion task.graph task.strategy.weight x
    first_needed expansion.Full = inl (e.cost, start)
    first_needed expansion.Partial = (
      e.cost,
      (0, start),
      (opening.bound, opening.note, opens.1, λ n wins. open_under task.strategy.weight e.cost opening.bound n heavy (begins_under n wins)),
    )

    -- a search keeps from its beginning what it keeps
    pub begins_kept : 1 ≤ task.strategy.budget → e.parent ≡ 0 → IsKept task s
    begins_kept some_room own =
        let low : e.cost + task.graph.spare x ≤ 0 + 1000 = (let h = lawful.starts x e.cost start in omega (arith, h)) in
        record {
          sound = record {
            room = (let size = ap length stored in omega (arith, size, some_room));
            once = λ i j y m n a b. (first_alone i y m a).0 ∙ sym (first_alone j y n b).0;
            reached = first_each (λ i y n. IsReached task.graph y n.cost) (0, start);
            low = first_each (λ i y n. n.cost + task.graph.spare y ≤ i + 1000) low;
            comes = first_each (Comes task.graph s) (inl (own, start));
            needed = first_each (λ i y n. IsNeeded task.strategy.expansion task.graph task.strategy.weight y)
                (first_needed task.strategy.expansion);
            starts = λ y d h. (0, e, subst (λ v. IsStored s 0 v e) (sym (alone y d h).0) first_here, (alone y d h).1);
            pairs = λ h i there. ⊎_elim
                (λ same.
                let here : IsStored s i x e = subst (λ k. IsStored s k x e) (ap (λ p. p.1) same) first_here in
                let level : opens_at (weighed_cost task.strategy e) opening ≡ h = ap (λ p. p.0) same in
                let at_i : f_of task s i e ≡ f_of task s 0 e = ap (λ k. f_of task s k e) (sym (ap (λ p. p.1) same)) in
                (x, e, here, omega (arith, level, at_i, first_f)))
                (λ none. absurd (omega (arith, none.1)))
                (added_cases [] s.waiting (opens_at (weighed_cost task.strategy e) opening, 0) (h, i) opened there);
            noted = first_noted;
            under = first_each (λ i y m. (n : ℕ) → task.graph.wins n → ReachesLimit task.limit n → m.cost + bound_at s i ≤ n)
                (λ n wins reach. omega (arith, begins_under n wins, first_bound));
            near = λ h i there. ⊎_elim
                (λ same. λ n wins reach. subst (λ k. k ≤ task.strategy.weight.times * n) (ap (λ p. p.0) same) (begins_floor n wins))
                (λ none. absurd (omega (arith, none.1)))
                (added_cases [] s.waiting (opens_at (weighed_cost task.strategy e) opening, 0) (h, i) opened there);
          };
          settled = first_each (IsOpenOrExpanded task s) (inl first_open);
        }
