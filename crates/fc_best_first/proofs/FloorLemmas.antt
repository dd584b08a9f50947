-- Lemmas on the least that the keys tell that are open.
use Rattle.std.proofs.Common.{◌≡◌, ℕ, ◌+◌, ◌*◌, ◌<◌, ◌≤◌, ◌⊎◌, suc, Option, Some, None, List, [], ◌∷◌, length, refl, sym, ◌∙◌, ap, subst, inl, inr, ⊎_elim, arith}
use Rattle.std.specs.Prelude.{Contains, min}
use Rattle.std.specs.List.Sorted.{IsPermutation}
use Rattle.std.proofs.lemmas.Bool.{cases_eq, cases_lt}
use Rattle.std.proofs.lemmas.List.Elements.{Contains-append_right}
use Rattle.std.proofs.lemmas.List.Sorted.{Contains-permutation, IsPermutation-sym}
use Rattle.fc_best_first.specs.declared.books.Mark.{Mark}
use Rattle.fc_best_first.specs.declared.strategies.Expansion.{Expansion}
use Rattle.fc_best_first.specs.declared.strategies.Expansion.TheVariants.{Full, Partial}
use Rattle.fc_best_first.specs.Graph.{Graph, IsLawful, Task}
use Rattle.fc_best_first.specs.Store.{Store, IsStored, bound_at, opens_at, weighed_cost}
use Rattle.fc_best_first.specs.Limits.{IsUpTo, ReachesLimit, weigh}
use Rattle.std.proofs.lemmas.Nat.{mul-le}
use Rattle.std.proofs.Math.Nat.{mul-le-mul_left}
use Rattle.fc_best_first.specs.Kept.{IsCoveredBelow, IsDone, IsOpenAt, IsOpenLater, IsSound, IsWhereOpen, f_of}
use Rattle.fc_best_first.specs.Laws.{OpenFloorsHold}
use Rattle.fc_best_first.specs.Shown.{AreSettledBut, IsLeastOpen, IsOpen, IsTold, IsUnder}
use Rattle.fc_best_first.proofs.KeptLemmas.{front_cases, front_there, same_entry, stands_within}
use Rattle.fc_best_first.proofs.ClosedLemmas.{IsAt, closed_inside, expanded_covered, limit_cases, met_covered, noted_under}

-- what reaches the limit is no less than what is no more than that
reach_up : (limit : Option ℕ) (n floor : ℕ) → ReachesLimit limit n → IsUpTo limit floor → floor ≤ n
reach_up None n floor reach up = absurd reach
reach_up (Some limit) n floor reach up = omega (arith, reach, up)

-- a key is open at one f
pub at_same : {K : Type 0} (s : Store K) (i cost f h : ℕ) → IsWhereOpen s i cost f → IsWhereOpen s i cost h → f ≡ h
at_same s i cost f h (last, is, at) (other, was, where_it_is) =
    let one : last ≡ other = (let both = sym is ∙ was in cc) in
    at ∙ ap (λ o. opens_at cost o) one ∙ sym where_it_is

-- what is no more than a lesser number
pub under_less : {K : Type 0} (task : Task K) (s : Store K) (i : ℕ) (m : Mark) (f n floor : ℕ) → floor ≤ n → IsUnder task s i m f n
    → IsUnder task s i m f floor
under_less task s i m f n floor le (inl own) = inl (omega (arith, le, own))
under_less task s i m f n floor le (inr over) =
    let all : task.strategy.weight.times * floor ≤ task.strategy.weight.times * n = mul-le-mul_left task.strategy.weight.times le in
    inr (omega (arith, all, over))

-- what a key tells, by its cost plus what is noted of it and how many times a bound counts
pub told_so : {K : Type 0} (task : Task K) (s : Store K) (i : ℕ) (m : Mark) (f bound times told : ℕ) → bound ≡ bound_at s i
    → times ≡ task.strategy.weight.times → m.cost + bound ≤ told → f ≤ times * told → (told ≤ m.cost + bound) ⊎ (times * told < f + times)
    → IsTold task s i m f told
told_so task s i m f bound times told same counts own most under = record {
  own = subst (λ b. m.cost + b ≤ told) same own;
  weighed = subst (λ t. f ≤ t * told) counts most;
  under = subst (λ b. (told ≤ m.cost + b) ⊎ (task.strategy.weight.times * told < f + task.strategy.weight.times)) same
      (subst (λ t. (told ≤ m.cost + bound) ⊎ (t * told < f + t)) counts under);
}

module _ {K : Type 0} (task : Task K) (s : Store K) (most : ℕ) where
  -- a floor of the open keys, but of those of the pairs that are left
  pub record IsLeastBut (floor : ℕ) (rest : List (ℕ × ℕ)) : Type 0 where
    pub inside : (p : ℕ × ℕ) → Contains rest p → Contains s.waiting p
    pub within : floor ≤ most
    pub least : (number : ℕ) (x : K) (mark : Mark) (h : ℕ) → IsOpen task s number x mark h
        → IsUnder task s number mark h floor ⊎ Contains rest (h, number)
    pub met : (floor ≡ most)
        ⊎ ((number : ℕ) × (x : K) × (mark : Mark) × (h : ℕ) × IsOpen task s number x mark h × IsTold task s number mark h floor)

  pub least_begins : (all : List (ℕ × ℕ)) → IsPermutation all s.waiting → IsLeastBut most all
  least_begins all same = record {
    inside = λ p there. Contains-permutation all s.waiting p same there;
    within = omega arith;
    least = λ number x mark h is. inr (Contains-permutation s.waiting all (h, number) (IsPermutation-sym all s.waiting same) is.waits);
    met = inl refl;
  }

  pub least_ends : (floor : ℕ) (rest : List (ℕ × ℕ)) → rest ≡ [] → IsLeastBut floor rest → IsLeastOpen task s most floor
  least_ends floor rest none h = record {
    within = h.within;
    least = λ number x mark f is. ⊎_elim
        (λ under. under)
        (λ waits. absurd (let there = subst (λ ps. Contains ps (f, number)) none waits in omega (arith, there.1)))
        (h.least number x mark f is);
    met = h.met;
  }

  module _ (floor f i : ℕ) (all rest : List (ℕ × ℕ)) (taken : all ≡ (f, i) ∷ rest) (h : IsLeastBut floor all) where
    -- the pair that comes next is an open one
    pub next_waits : Contains s.waiting (f, i)
    next_waits = h.inside (f, i) (subst (λ ps. Contains ps (f, i)) (sym taken) (front_there (f, i) rest))

    -- the pairs behind it
    rest_inside : (p : ℕ × ℕ) → Contains rest p → Contains s.waiting p
    rest_inside p there =
        h.inside p (subst (λ ps. Contains ps p) (sym taken) (Contains-append_right ((f, i) ∷ []) rest p there))

    -- an open key is counted, or its pair is the next or behind it
    next_cases : (number : ℕ) (x : K) (mark : Mark) (k : ℕ) → IsOpen task s number x mark k
        → IsUnder task s number mark k floor ⊎ (((f ≡ k) × (i ≡ number)) ⊎ Contains rest (k, number))
    next_cases number x mark k is = ⊎_elim
        (λ under. inl under)
        (λ left. ⊎_elim
        (λ same. inr (inl (ap (λ p. p.0) same, ap (λ p. p.1) same)))
        (λ behind. inr (inr behind))
        (front_cases (f, i) (k, number) rest (subst (λ ps. Contains ps (k, number)) taken left)))
        (h.least number x mark k is)

    module _ (x : K) (m : Mark) (at : IsStored s i x m) where
      -- the key with the next pair is this one
      same_key : (number : ℕ) (y : K) (mark : Mark) (P : ℕ → K → Mark → Type 0) → IsStored s number y mark → i ≡ number
          → P number y mark → P i x m
      same_key number y mark P there same p =
          let both = same_entry s i x y m mark at (subst (λ k. IsStored s k y mark) (sym same) there) in
          subst (λ v. P i v m) (sym both.0) (subst (λ n. P i y n) (sym both.1) (subst (λ k. P k y mark) (sym same) p))

      -- a pair whose f isn't its key's present one is passed over
      pub least_stale : (IsAt task s i m f → ⊥) → IsLeastBut floor rest
      least_stale stale = record {
        inside = rest_inside;
        within = h.within;
        least = λ number y mark k is. ⊎_elim
            (λ under. inl under)
            (λ later. ⊎_elim
            (λ here. absurd (stale (same_key number y mark (λ n z l. IsAt task s n l f) is.stands here.1
            (subst (IsAt task s number mark) (sym here.0) is.at))))
            (λ behind. inr behind)
            later)
            (next_cases number y mark k is);
        met = h.met;
      }

      -- an open key is counted
      pub least_counts : (told new : ℕ) → IsAt task s i m f → IsTold task s i m f told → new ≡ min floor told
          → IsLeastBut new rest
      least_counts told new present tells is_min = ⊎_elim (λ lt. by_floor lt) (λ le. by_key le) (cases_lt floor told)
        where
          opened : IsOpen task s i x m f
          opened = record { stands = at; at = present; waits = next_waits }

          each : new ≤ floor → new ≤ told → (number : ℕ) (y : K) (mark : Mark) (k : ℕ) → IsOpen task s number y mark k
              → IsUnder task s number mark k new ⊎ Contains rest (k, number)
          each low own number y mark k is = ⊎_elim
              (λ under. inl (under_less task s number mark k floor new low under))
              (λ later. ⊎_elim
              (λ here.
              let both = same_entry s i x y m mark at (subst (λ n. IsStored s n y mark) (sym here.1) is.stands) in
              inl (subst (λ n. IsUnder task s n mark k new) here.1 (subst (λ l. IsUnder task s i l k new) both.1
              (subst (λ g. IsUnder task s i m g new) here.0 (under_less task s i m f told new own tells.under)))))
              (λ behind. inr behind)
              later)
              (next_cases number y mark k is)

          by_floor : floor < told → IsLeastBut new rest
          by_floor lt =
              let same : new ≡ floor = omega (arith, is_min, lt) in
              record {
                inside = rest_inside;
                within = omega (arith, same, h.within);
                least = each (omega (arith, same)) (omega (arith, same, lt));
                met = subst (λ n. (n ≡ most) ⊎ ((number : ℕ) × (y : K) × (mark : Mark) × (k : ℕ) × IsOpen task s number y mark k × IsTold task s number mark k n))
                    (sym same) h.met;
              }

          by_key : told ≤ floor → IsLeastBut new rest
          by_key le =
              let same : new ≡ told = omega (arith, is_min, le) in
              record {
                inside = rest_inside;
                within = omega (arith, same, le, h.within);
                least = each (omega (arith, same, le)) (omega (arith, same));
                met = inr (i, x, m, f, opened, subst (IsTold task s i m f) (sym same) tells);
              }

module _ {K : Type 0} (task : Task K) (s : Store K) (heavy : task.strategy.weight.parts ≤ task.strategy.weight.times) where
  -- a cost and a bound, weighed, are no more than both together, counted as a bound is
  weighed_most : (cost bound : ℕ) → weigh task.strategy.weight cost bound ≤ task.strategy.weight.times * (cost + bound)
  weighed_most cost bound =
      let part : task.strategy.weight.parts * cost ≤ task.strategy.weight.times * cost =
      mul-le task.strategy.weight.parts cost task.strategy.weight.times cost heavy (omega arith) in
      omega (arith, part)

  -- what is less than a number, counted so, and once more, is no more than it
  counted_most : (times n f most : ℕ) → times * n < f + times → f ≤ times * most → n ≤ most
  counted_most times n f most lt le = ⊎_elim
      (λ less. absurd (let all : times * suc most ≤ times * n = mul-le-mul_left times less in omega (arith, all, lt, le)))
      (λ no. no)
      (cases_lt most n)

  -- what is expanded below a number is covered below what that is, over how many times a bound counts, rounded up
  below_covered : (expansion : Expansion) (x : K) (d f floor : ℕ) → IsUpTo task.limit floor
      → task.strategy.weight.times * floor < f + task.strategy.weight.times → IsDone expansion task s x d f
      → IsCoveredBelow task.graph s x d floor
  below_covered Full x d f floor up lt done = expanded_covered task s x d floor up done
  below_covered Partial x d f floor up lt done = (
    done.0,
    λ c y edge. ⊎_elim (met_covered task.limit task.graph s y (d + c) floor up)
        (λ far. inr (counted_most task.strategy.weight.times floor f (d + c + task.graph.bound y) lt
        (let most = weighed_most (d + c) (task.graph.bound y) in omega (arith, far, most))))
        (done.1 c y edge),
  )

  -- so a key that tells no less than a floor, and whose cost plus what is noted of it is below that, is covered below it, where it is done with below
  -- what it is open at
  under_covered : (i : ℕ) (x : K) (m : Mark) (f floor : ℕ) → IsUpTo task.limit floor → IsUnder task s i m f floor
      → m.cost + bound_at s i < floor → (f_of task s i m < f → IsDone task.strategy.expansion task s x m.cost f)
      → IsCoveredBelow task.graph s x m.cost floor
  under_covered i x m f floor up (inl own) lt done = absurd (omega (arith, own, lt))
  under_covered i x m f floor up (inr over) lt done = ⊎_elim
      (λ later. below_covered task.strategy.expansion x m.cost f floor up over (done later))
      (λ own. absurd (
      let most = weighed_most m.cost (bound_at s i) in
      let le = counted_most task.strategy.weight.times floor f (m.cost + bound_at s i) over (omega (arith, own, most)) in
      omega (arith, le, lt)))
      (cases_lt (f_of task s i m) f)

  -- a key that is open at its own f, or later, is covered below what is open
  open_covered : (most floor : ℕ) (i : ℕ) (y : K) (m : Mark) → IsLeastOpen task s most floor → IsUpTo task.limit floor → IsStored s i y m
      → m.cost + bound_at s i < floor → (expansion : Expansion) → expansion ≡ task.strategy.expansion
      → IsOpenAt s i (weighed_cost task.strategy m) (f_of task s i m) ⊎ IsOpenLater expansion task s i y m
      → IsCoveredBelow task.graph s y m.cost floor
  open_covered most floor i y m least up there lt expansion is (inl (waits, at)) =
      under_covered i y m (f_of task s i m) floor up
      (least.least i y m (f_of task s i m) (record { stands = there; at = at; waits = waits }))
      lt (λ less. absurd (omega (arith, less)))
  open_covered most floor i y m least up there lt Full is (inr later) = absurd later
  open_covered most floor i y m least up there lt Partial is (inr (h, (waits, at), below)) =
      under_covered i y m h floor up
      (least.least i y m h (record { stands = there; at = at; waits = waits }))
      lt (λ less. subst (λ e. IsDone e task s y m.cost h) is below)

module _ {K : Type 0} where
  -- a key is covered where every pair that is open tells no less, and so does the one that was taken
  floor_covered : (task : Task K) (s : Store K) → task.strategy.weight.parts ≤ task.strategy.weight.times
      → (number : ℕ) (x : K) (mark : Mark) (f most floor : ℕ) → IsStored s number x mark
      → AreSettledBut task s number → IsUnder task s number mark f most
      → (f_of task s number mark < f → IsDone task.strategy.expansion task s x mark.cost f) → IsLeastOpen task s most floor → IsUpTo task.limit floor
      → (i : ℕ) (y : K) (m : Mark) → IsStored s i y m → m.cost + bound_at s i < floor → IsCoveredBelow task.graph s y m.cost floor
  floor_covered task s heavy number x mark f most floor at settled under done least up i y m there lt = ⊎_elim
      (λ same.
      let both = same_entry s number x y mark m at (subst (λ k. IsStored s k y m) same there) in
      let cost : mark.cost ≡ m.cost = ap (λ n. n.cost) both.1 in
      let bound : bound_at s number ≡ bound_at s i = ap (bound_at s) (sym same) in
      subst (λ v. IsCoveredBelow task.graph s v m.cost floor) both.0
      (subst (λ d. IsCoveredBelow task.graph s x d floor) cost
      (under_covered task s heavy number x mark f floor up (under_less task s number mark f most floor least.within under)
      (omega (arith, cost, bound, lt)) done)))
      (λ other. elim (settled i y m other there) [
        | inl is_open ↦ open_covered task s heavy most floor i y m least up there lt task.strategy.expansion refl (inl is_open)
        | inr (inl done) ↦ expanded_covered task s y m.cost floor up done
        | inr (inr later) ↦ open_covered task s heavy most floor i y m least up there lt task.strategy.expansion refl (inr later)
      ])
      (cases_eq i number)

  -- what is covered below a number is covered below each lesser one
  covered_less : (g : Graph K) (s : Store K) (x : K) (d n floor : ℕ) → n ≤ floor → IsCoveredBelow g s x d floor → IsCoveredBelow g s x d n
  covered_less g s x d n floor le h =
      (h.0, λ c y edge. ⊎_elim (λ has. inl has) (λ far. inr (omega (arith, le, far))) (h.1 c y edge))

  -- the least that the open keys tell is a floor: the keys below it are covered, and no answer is below it
  pub open_floors : (g : Graph K) → OpenFloorsHold g
  open_floors g lawful strategy limit s number x mark f most floor heavy sound settled at under done least up =
      let task : Task K = record { graph = g; strategy = strategy; limit = limit } in
      let covered = floor_covered task s heavy number x mark f most floor at settled under done least up in (
        covered,
        λ n wins. ⊎_elim
            (λ reach. reach_up limit n floor reach up)
            (λ on. ⊎_elim
            (λ below. absurd (
            let closed = closed_inside task s (suc n) sound
            (λ i z l here lt. covered_less g s z l.cost (suc n) floor (omega (arith, below))
            (covered i z l here (omega (arith, lt, below, noted_under g lawful s i z l sound.noted here)))) in
            let over = lawful.closed (suc n) _ closed n wins in omega (arith, over)))
            (λ within. within)
            (cases_lt n floor))
            (limit_cases limit n),
      )

  -- a pair that waits is of a stored key
  pub waiting_within : (task : Task K) (s : Store K) (f i : ℕ) → IsSound task s → Contains s.waiting (f, i) → i < length s.stored
  waiting_within task s f i sound there =
      let h = sound.pairs f i there in
      stands_within s i h.0 h.1 h.2
