-- Lemmas on what is open and what is expanded: when a pair is taken, and that the stored keys leave no answer below a floor.
use Rattle.std.proofs.Common.{◌≡◌, ℕ, ◌+◌, ◌*◌, ◌<◌, ◌≤◌, ◌⊎◌, suc, zero, Option, Some, None, List, [], ◌∷◌, length, map, refl, sym, ◌∙◌, ap, subst, inl, inr, ⊎_elim, arith}
use Rattle.std.specs.Prelude.{slice_get, Contains}
use Rattle.std.proofs.lemmas.Bool.{cases_lt}
use Rattle.std.proofs.lemmas.Nat.{mul-le}
use Rattle.std.proofs.Math.Nat.{le_of_mul-le-mul_left, mul-le-mul_left}
use Rattle.std.proofs.lemmas.Option.{none-some}
use Rattle.std.proofs.lemmas.List.Elements.{Contains-append_right}
use Rattle.fc_frontier.specs.Queue.{Adds, IsLeast}
use Rattle.fc_best_first.specs.declared.books.Mark.{Mark}
use Rattle.fc_best_first.specs.declared.books.Opening.{Opening}
use Rattle.fc_best_first.specs.declared.strategies.Expansion.{Expansion}
use Rattle.fc_best_first.specs.declared.strategies.Expansion.TheVariants.{Full, Partial}
use Rattle.fc_best_first.specs.Graph.{Graph, Task, IsReached, IsLawful, IsClosedInside, Lists}
use Rattle.fc_best_first.specs.Limits.{IsEven, IsUpTo, IsWithinLimit, Ratio, ReachesLimit, weigh}
use Rattle.fc_best_first.specs.Store.{Store, IsStored, IsTaken, bound_at, bound_in, opens_at, weighed_cost}
use Rattle.fc_best_first.specs.Turn.{IsStale, TakesFloor}
use Rattle.fc_best_first.specs.Kept.{AreNoted, HasAt, IsWhereOpen, IsCoveredBelow, IsDone, IsExpanded, IsExpandedBelow, IsMet, IsOpenAt, IsOpenLater, IsOpenOrExpanded, IsSound, IsKept, f_of}
use Rattle.fc_best_first.specs.Shown.{IsFloor}
use Rattle.fc_best_first.proofs.KeptLemmas.{front_there, front_cases, added_stays, added_cases, least_below, pair_high}

-- a cost and a bound that come to n at most stay, weighed, below what n, weighed as a bound is, is below
weighed_below : (weight : Ratio) (cost bound n f : ℕ) → weight.parts ≤ weight.times → cost + bound < suc n → weight.times * n < f
    → weigh weight cost bound < f
weighed_below weight cost bound n f heavy lt over =
    let all : weight.times * (cost + bound) ≤ weight.times * n = mul-le weight.times (cost + bound) weight.times n (omega arith) (omega (arith, lt)) in
    let part : weight.parts * cost ≤ weight.times * cost = mul-le weight.parts cost weight.times cost heavy (omega arith) in
    omega (arith, all, part, over)

-- so what comes to no less, weighed, comes to more than n
pub weighed_past : (weight : Ratio) (cost bound n f : ℕ) → weight.parts ≤ weight.times → weight.times * n < f
    → f ≤ weigh weight cost bound → suc n ≤ cost + bound
weighed_past weight cost bound n f heavy over le = ⊎_elim
    (λ lt. absurd (let below = weighed_below weight cost bound n f heavy lt over in omega (arith, below, le)))
    (λ past. past)
    (cases_lt (cost + bound) (suc n))

-- where a bound counts as often as a cost, what comes to no less than n, all weighed, comes to no less
even_past : (weight : Ratio) (cost bound n : ℕ) → 1 ≤ weight.parts → IsEven weight → weight.parts * n ≤ weigh weight cost bound
    → n ≤ cost + bound
even_past weight cost bound n some even le =
    let same : weight.times * bound ≡ weight.parts * bound = ap (λ w. w * bound) even in
    let all : weight.parts * n ≤ weight.parts * (cost + bound) = omega (arith, le, same) in
    le_of_mul-le-mul_left all some

-- a number reaches the limit, or the next one doesn't pass it
pub limit_cases : (limit : Option ℕ) (n : ℕ) → ReachesLimit limit n ⊎ IsUpTo limit (suc n)
limit_cases None n = inr tt
limit_cases (Some limit) n = ⊎_elim (λ lt. inr (omega (arith, lt))) (λ le. inl le) (cases_lt n limit)

-- a number that is no more than the limit, so many times over, is no more than what reaches it
pub limit_within : (limit : Option ℕ) (times f n : ℕ) → IsWithinLimit limit times f → ReachesLimit limit n → f ≤ times * n
limit_within None times f n within reach = absurd reach
limit_within (Some limit) times f n within reach =
    let all : times * limit ≤ times * n = mul-le-mul_left times reach in
    omega (arith, all, within)

-- where a key with this mark is open
abbrev pub IsAt : {K : Type 0} → Task K → Store K → ℕ → Mark → ℕ → Type 0
IsAt task s number mark f = IsWhereOpen s number (weighed_cost task.strategy mark) f

module _ {K : Type 0} where
  -- an older pair isn't where its key is open
  pub stale_elsewhere : (s : Store K) (i cost f h : ℕ) → IsStale s i cost f → IsWhereOpen s i cost h → h ≡ f → ⊥
  stale_elsewhere s i cost f h (opening, there, other) (last, here, at) same =
      let one : opening ≡ last = (let both = sym there ∙ here in cc) in
      other (sym same ∙ at ∙ ap (λ o. opens_at cost o) (sym one))

  pub noted_same : (g : Graph K) (old new : Store K) → new.stored ≡ old.stored → new.openings ≡ old.openings
      → AreNoted g old → AreNoted g new
  noted_same g old new kept same noted = (
    ap length same ∙ noted.0 ∙ sym (ap length kept),
    λ i x m at.
        let was = noted.1 i x m (subst (λ es. slice_get es i ≡ Some (x, m)) kept at) in
        (was.0, ap (λ os. slice_get os i) same ∙ was.1, was.2),
  )

  pub kept_has : (old new : Store K) (x : K) (d : ℕ) → new.stored ≡ old.stored → HasAt old x d → HasAt new x d
  kept_has old new x d kept (j, m, at, le) = (j, m, subst (λ es. slice_get es j ≡ Some (x, m)) (sym kept) at, le)

  -- what is met stays so where what is stored does
  pub stays_met : (limit : Option ℕ) (g : Graph K) (old new : Store K) (y : K) (d : ℕ) → (HasAt old y d → HasAt new y d)
      → IsMet limit g old y d → IsMet limit g new y d
  stays_met None g old new y d on has = on has
  stays_met (Some limit) g old new y d on (inl has) = inl (on has)
  stays_met (Some limit) g old new y d on (inr past) = inr past

  -- and at a greater cost
  pub more_met : (limit : Option ℕ) (g : Graph K) (s : Store K) (y : K) (d e : ℕ) → d ≤ e → IsMet limit g s y d → IsMet limit g s y e
  more_met None g s y d e le (i, m, at, low) = (i, m, at, omega (arith, le, low))
  more_met (Some limit) g s y d e le (inl (i, m, at, low)) = inl (i, m, at, omega (arith, le, low))
  more_met (Some limit) g s y d e le (inr past) = inr (omega (arith, le, past))

  pub has_met : (limit : Option ℕ) (g : Graph K) (s : Store K) (y : K) (d : ℕ) → HasAt s y d → IsMet limit g s y d
  has_met None g s y d has = has
  has_met (Some limit) g s y d has = inl has

  pub past_met : (limit : Option ℕ) (g : Graph K) (s : Store K) (y : K) (d : ℕ) → ReachesLimit limit (d + g.bound y) → IsMet limit g s y d
  past_met None g s y d past = absurd past
  past_met (Some limit) g s y d past = inr past

  pub met_covered : (limit : Option ℕ) (g : Graph K) (s : Store K) (y : K) (d n : ℕ) → IsUpTo limit n → IsMet limit g s y d
      → HasAt s y d ⊎ (n ≤ d + g.bound y)
  met_covered None g s y d n up has = inl has
  met_covered (Some limit) g s y d n up (inl has) = inl has
  met_covered (Some limit) g s y d n up (inr past) = inr (omega (arith, up, past))

  pub kept_met : (limit : Option ℕ) (g : Graph K) (old new : Store K) (y : K) (d : ℕ) → new.stored ≡ old.stored
      → IsMet limit g old y d → IsMet limit g new y d
  kept_met limit g old new y d kept met = stays_met limit g old new y d (λ has. kept_has old new y d kept has) met

  pub kept_expanded : (task : Task K) (old new : Store K) (x : K) (d : ℕ) → new.stored ≡ old.stored → IsExpanded task old x d
      → IsExpanded task new x d
  kept_expanded task old new x d kept h =
      (h.0, λ c y edge. kept_met task.limit task.graph old new y (d + c) kept (h.1 c y edge))

  pub kept_below : (task : Task K) (old new : Store K) (x : K) (d n : ℕ) → new.stored ≡ old.stored
      → IsExpandedBelow task old x d n → IsExpandedBelow task new x d n
  kept_below task old new x d n kept h = (
    h.0,
    λ c y edge. ⊎_elim (λ met. inl (kept_met task.limit task.graph old new y (d + c) kept met)) (λ far. inr far) (h.1 c y edge),
  )

  pub kept_done : (expansion : Expansion) (task : Task K) (old new : Store K) (x : K) (d n : ℕ) → new.stored ≡ old.stored
      → IsDone expansion task old x d n → IsDone expansion task new x d n
  kept_done Full task old new x d n kept h = kept_expanded task old new x d kept h
  kept_done Partial task old new x d n kept h = kept_below task old new x d n kept h

  pub kept_back : (old new : Store K) (i : ℕ) (x : K) (m : Mark) → new.stored ≡ old.stored → IsStored new i x m → IsStored old i x m
  kept_back old new i x m kept at = subst (λ es. slice_get es i ≡ Some (x, m)) kept at

  -- what is expanded is done with below any number
  expanded_done : (expansion : Expansion) (task : Task K) (s : Store K) (x : K) (d n : ℕ) → IsExpanded task s x d
      → IsDone expansion task s x d n
  expanded_done Full task s x d n h = h
  expanded_done Partial task s x d n h = (h.0, λ c y edge. inl (h.1 c y edge))

  pub expanded_covered : (task : Task K) (s : Store K) (x : K) (d n : ℕ) → IsUpTo task.limit n → IsExpanded task s x d
      → IsCoveredBelow task.graph s x d n
  expanded_covered task s x d n up h = (h.0, λ c y edge. met_covered task.limit task.graph s y (d + c) n up (h.1 c y edge))

  -- where a bound counts as often as a cost, what is done with below n, weighed, is covered below n
  pub light_covered : (expansion : Expansion) (task : Task K) (s : Store K) (x : K) (d n : ℕ) → IsUpTo task.limit n
      → 1 ≤ task.strategy.weight.parts → IsEven task.strategy.weight → IsDone expansion task s x d (task.strategy.weight.parts * n) → IsCoveredBelow task.graph s x d n
  light_covered Full task s x d n up some light h = expanded_covered task s x d n up h
  light_covered Partial task s x d n up some light h = (
    h.0,
    λ c y edge. ⊎_elim (met_covered task.limit task.graph s y (d + c) n up) (λ far. inr (even_past task.strategy.weight (d + c) (task.graph.bound y) n some light far)) (h.1 c y edge),
  )

  -- what is done with below a number is done with below each lesser one
  pub less_done : (expansion : Expansion) (task : Task K) (s : Store K) (x : K) (d n f : ℕ) → n ≤ f
      → IsDone expansion task s x d f → IsDone expansion task s x d n
  less_done Full task s x d n f le h = h
  less_done Partial task s x d n f le h =
      (h.0, λ c y edge. ⊎_elim (λ has. inl has) (λ far. inr (omega (arith, le, far))) (h.1 c y edge))

  -- what is open later than the least f is done with below that
  later_done : (expansion : Expansion) (task : Task K) (s : Store K) (i : ℕ) (x : K) (m : Mark) (f j : ℕ)
      → IsLeast (f, j) s.waiting → IsOpenLater expansion task s i x m → IsDone expansion task s x m.cost f
  later_done Full task s i x m f j least later = absurd later
  later_done Partial task s i x m f j least (h, is_open, below) = (
    below.0,
    λ c y edge. ⊎_elim (λ has. inl has)
        (λ far. let le = least_below f j h i s.waiting least is_open.0 in inr (omega (arith, le, far))) (below.1 c y edge),
  )

  -- another pair than the one that is taken stays
  kept_waits : (old new : Store K) (p : ℕ × ℕ) (i h : ℕ) → Adds new.waiting old.waiting p → (h ≡ p.0 → i ≡ p.1 → ⊥)
      → Contains old.waiting (h, i) → Contains new.waiting (h, i)
  kept_waits old new p i h taken other waits = ⊎_elim
      (λ same. absurd (other (sym (ap (λ q. q.0) same)) (sym (ap (λ q. q.1) same))))
      (λ there. there)
      (added_cases new.waiting old.waiting p (h, i) taken waits)

  -- where a pair that isn't its own is taken, a key stays open
  kept_open : (old new : Store K) (p : ℕ × ℕ) (i cost h : ℕ) → new.openings ≡ old.openings
      → Adds new.waiting old.waiting p → (h ≡ p.0 → i ≡ p.1 → ⊥) → IsOpenAt old i cost h → IsOpenAt new i cost h
  kept_open old new p i cost h noted taken other (waits, (last, there, at)) = (
    kept_waits old new p i h taken other waits,
    (last, ap (λ os. slice_get os i) noted ∙ there, at),
  )

  -- and so does one that is open later
  kept_later : (expansion : Expansion) (task : Task K) (old new : Store K) (p : ℕ × ℕ) (i : ℕ) (x : K) (m : Mark)
      → new.stored ≡ old.stored → new.openings ≡ old.openings → Adds new.waiting old.waiting p
      → ((h : ℕ) → IsAt task old i m h → h ≡ p.0 → i ≡ p.1 → ⊥)
      → IsOpenLater expansion task old i x m → IsOpenLater expansion task new i x m
  kept_later Full task old new p i x m kept noted taken other later = later
  kept_later Partial task old new p i x m kept noted taken other (h, is_open, below) = (
    h,
    kept_open old new p i (weighed_cost task.strategy m) h noted taken (other h is_open.1) is_open,
    kept_below task old new x m.cost h kept below,
  )

module _ {K : Type 0} where
  -- what is noted is the same where the openings are
  pub same_bound : (old new : Store K) (i : ℕ) → new.openings ≡ old.openings → bound_at new i ≡ bound_at old i
  same_bound old new i same = ap (λ os. bound_in (slice_get os i)) same

  pub same_f : (task : Task K) (old new : Store K) (i : ℕ) (m : Mark) → new.openings ≡ old.openings → f_of task new i m ≡ f_of task old i m
  same_f task old new i m same = ap (λ b. weigh task.strategy.weight m.cost b) (same_bound old new i same)

  -- what is noted of a stored key is no greater than its bound
  pub noted_under : (g : Graph K) → IsLawful g → (s : Store K) (i : ℕ) (x : K) (m : Mark) → AreNoted g s → IsStored s i x m
      → bound_at s i ≤ g.bound x
  noted_under g lawful s i x m noted at =
      let was = noted.1 i x m at in
      let level : bound_at s i ≡ was.0.bound = ap bound_in was.1 in
      omega (arith, level, lawful.shown x was.0.bound was.0.note was.2)

module _ {K : Type 0} (task : Task K) where
  -- the same stored keys, and fewer pairs
  fewer_pairs : (stored : List (K × Mark)) (old new : List (ℕ × ℕ)) (was is : List Opening)
      → ((p : ℕ × ℕ) → Contains new p → Contains old p) → is ≡ was
      → IsSound task (record { stored = stored; waiting = old; openings = was })
      → IsSound task (record { stored = stored; waiting = new; openings = is })
  fewer_pairs stored old new was is fewer same h = record {
    room = h.room;
    once = h.once;
    reached = h.reached;
    low = h.low;
    comes = h.comes;
    needed = h.needed;
    starts = h.starts;
    pairs = λ f i there. let was = h.pairs f i (fewer (f, i) there) in
        (was.0, was.1, was.2, omega (arith, was.3, level_f i was.1));
    noted = noted_same task.graph (record { stored = stored; waiting = old; openings = was })
        (record { stored = stored; waiting = new; openings = is }) refl same h.noted;
    under = λ i x m at n wins reach. omega (arith, h.under i x m at n wins reach, level i);
    near = λ f i there. h.near f i (fewer (f, i) there);
  }
    where
      level : (i : ℕ) → bound_at (record { stored = stored; waiting = new; openings = is }) i
          ≡ bound_at (record { stored = stored; waiting = old; openings = was }) i
      level i = same_bound (record { stored = stored; waiting = old; openings = was }) (record { stored = stored; waiting = new; openings = is }) i same

      level_f : (i : ℕ) (m : Mark) → f_of task (record { stored = stored; waiting = new; openings = is }) i m
          ≡ f_of task (record { stored = stored; waiting = old; openings = was }) i m
      level_f i m = same_f task (record { stored = stored; waiting = old; openings = was }) (record { stored = stored; waiting = new; openings = is }) i m same

  pub taken_sound : (old new : Store K) (f i : ℕ) → IsSound task old → new.stored ≡ old.stored → new.openings ≡ old.openings
      → Adds new.waiting old.waiting (f, i) → IsSound task new
  taken_sound old new f i sound kept noted taken =
      subst (λ stored. IsSound task (record { stored = stored; waiting = new.waiting; openings = new.openings })) (sym kept)
      (fewer_pairs old.stored old.waiting new.waiting old.openings new.openings
      (λ p there. added_stays new.waiting old.waiting (f, i) p taken there) noted sound)

  -- the pair that is taken has an f no less than the cost of its key plus what is noted of it, both weighed
  pub taken_high : (old new : Store K) (f i : ℕ) (x : K) (m : Mark) → IsSound task old → IsTaken old new f i x m → f_of task old i m ≤ f
  taken_high old new f i x m sound t = pair_high task old f i new.waiting x m sound t.taken t.stands

  -- a key whose cost plus what is noted of it, both weighed, is below the least f is done with below that
  pub below_least : (s : Store K) (f i : ℕ) → IsKept task s → IsLeast (f, i) s.waiting
      → (j : ℕ) (y : K) (l : Mark) → IsStored s j y l → f_of task s j l < f
      → IsDone task.strategy.expansion task s y l.cost f
  below_least s f i kept least j y l at lt = elim (kept.settled j y l at) [
    | inl is_open ↦ absurd (
        let le = least_below f i (f_of task s j l) j s.waiting least is_open.0 in
        omega (arith, le, lt))
    | inr (inl done) ↦ expanded_done task.strategy.expansion task s y l.cost f done
    | inr (inr later) ↦ later_done task.strategy.expansion task s j y l f i least later
  ]

  -- a key other than the one that is taken stays open, or expanded
  pub others_settled : (old new : Store K) (f i : ℕ) (x : K) (m : Mark) → IsKept task old → IsTaken old new f i x m
      → (j : ℕ) (y : K) (l : Mark) → ((h : ℕ) → IsAt task old j l h → h ≡ f → j ≡ i → ⊥) → IsStored new j y l
      → IsOpenOrExpanded task new j y l
  others_settled old new f i x m kept t j y l other at = elim (kept.settled j y l (kept_back old new j y l t.kept at)) [
    | inl is_open ↦ inl (subst (IsOpenAt new j (weighed_cost task.strategy l)) (sym (same_f task old new j l t.noted))
        (kept_open old new (f, i) j (weighed_cost task.strategy l) (f_of task old j l) t.noted t.taken
        (other (f_of task old j l) is_open.1) is_open))
    | inr (inl done) ↦ inr (inl (kept_expanded task old new y l.cost t.kept done))
    | inr (inr later) ↦ inr (inr (kept_later task.strategy.expansion task old new (f, i) j y l t.kept t.noted t.taken other later))
  ]

-- the stored keys with their costs
abbrev pub rows : {K : Type 0} → Store K → List (K × ℕ)
rows s = map (λ e. (e.0, e.1.cost)) s.stored

module _ {K : Type 0} where
  rows_stand : (es : List (K × Mark)) (x : K) (d : ℕ) → Contains {X = K × ℕ} (map (λ e. (e.0, e.1.cost)) es) (x, d)
      → (i : ℕ) × (m : Mark) × (slice_get es i ≡ Some (x, m)) × (m.cost ≡ d)
  rows_stand [] x d (k, lt, e) = absurd (omega (arith, lt))
  rows_stand (e ∷ es) x d h = ⊎_elim
      (λ same. (0, e.1, ap (λ p. Some (p.0, e.1)) same, ap (λ p. p.1) same))
      (λ there. let r = rows_stand es x d there in (suc r.0, r.1, r.2, r.3))
      (front_cases {X = K × ℕ} (e.0, e.1.cost) (x, d) (map (λ e. (e.0, e.1.cost)) es) h)

  stand_rows : (es : List (K × Mark)) (i : ℕ) (x : K) (m : Mark) → slice_get es i ≡ Some (x, m)
      → Contains {X = K × ℕ} (map (λ e. (e.0, e.1.cost)) es) (x, m.cost)
  stand_rows [] i x m at = absurd (none-some (x, m) at)
  stand_rows (e ∷ es) zero x m at =
      let same : e ≡ (x, m) = cc in
      subst (λ p. Contains {X = K × ℕ} ((e.0, e.1.cost) ∷ map (λ q. (q.0, q.1.cost)) es) (p.0, p.1.cost)) same
      (front_there {X = K × ℕ} (e.0, e.1.cost) (map (λ q. (q.0, q.1.cost)) es))
  stand_rows (e ∷ es) (suc i) x m at =
      Contains-append_right {X = K × ℕ} ((e.0, e.1.cost) ∷ []) (map (λ e. (e.0, e.1.cost)) es) (x, m.cost) (stand_rows es i x m at)

  has_lists : (s : Store K) (x : K) (d : ℕ) → HasAt s x d → Lists (rows s) x d
  has_lists s x d (i, m, at, le) = (m.cost, stand_rows s.stored i x m at, le)

module _ {K : Type 0} (task : Task K) where
  -- where each key below n is covered, the stored keys leave no answer below n
  pub closed_inside : (s : Store K) (n : ℕ) → IsSound task s
      → ((i : ℕ) (x : K) (m : Mark) → IsStored s i x m → m.cost + task.graph.bound x < n → IsCoveredBelow task.graph s x m.cost n)
      → IsClosedInside task.graph n (rows s)
  closed_inside s n sound done = record {
    reached = λ x d listed. let r = rows_stand s.stored x d listed in
        subst (IsReached task.graph x) r.3 (sound.reached r.0 x r.1 r.2);
    not_won = λ x d listed lt. let r = rows_stand s.stored x d listed in
        (done r.0 x r.1 r.2 (subst (λ c. c + task.graph.bound x < n) (sym r.3) lt)).0;
    starts = λ x d start. inr (has_lists s x d (sound.starts x d start));
    edges = λ x d c y listed lt edge.
        let r = rows_stand s.stored x d listed in
        ⊎_elim
        (λ has. inr (has_lists s y (d + c) (subst (λ k. HasAt s y (k + c)) r.3 has)))
        (λ far. inl (subst (λ k. n ≤ k + c + task.graph.bound y) r.3 far))
        ((done r.0 x r.1 r.2 (subst (λ k. k + task.graph.bound x < n) (sym r.3) lt)).1 c y edge);
  }

  -- what is done with below f is covered below the next number of one that, weighed as a bound is, is below f
  done_covered : (expansion : Expansion) (s : Store K) (x : K) (d n f : ℕ) → IsUpTo task.limit (suc n)
      → task.strategy.weight.parts ≤ task.strategy.weight.times → task.strategy.weight.times * n < f
      → IsDone expansion task s x d f → IsCoveredBelow task.graph s x d (suc n)
  done_covered Full s x d n f up heavy over done = expanded_covered task s x d (suc n) up done
  done_covered Partial s x d n f up heavy over done = (
    done.0,
    λ c y edge. ⊎_elim (met_covered task.limit task.graph s y (d + c) (suc n) up)
        (λ far. inr (weighed_past task.strategy.weight (d + c) (task.graph.bound y) n f heavy over far)) (done.1 c y edge),
  )

  module _ (lawful : IsLawful task.graph) (heavy : task.strategy.weight.parts ≤ task.strategy.weight.times) where
    -- where each key whose cost plus what is noted of it, both weighed, is below f is done with below f, no answer, weighed as a bound is, is below f:
    -- else the stored keys leave none below the next number
    pub none_below : (s : Store K) (f : ℕ) → IsSound task s
        → ((i : ℕ) (x : K) (m : Mark) → IsStored s i x m → f_of task s i m < f
        → IsDone task.strategy.expansion task s x m.cost f)
        → ((n : ℕ) → task.graph.wins n → ReachesLimit task.limit n → f ≤ task.strategy.weight.times * n)
        → IsFloor task.graph task.strategy.weight f
    none_below s f sound done near n wins = ⊎_elim (λ reach. near n wins reach) (λ up. ⊎_elim
        (λ over.
        let closed = closed_inside s (suc n) sound
        (λ i x m at lt. done_covered task.strategy.expansion s x m.cost n f up heavy over
        (done i x m at (weighed_below task.strategy.weight m.cost (bound_at s i) n f heavy
        (omega (arith, lt, noted_under task.graph lawful s i x m sound.noted at)) over))) in
        absurd (let le = lawful.closed (suc n) (rows s) closed n wins in omega (arith, le)))
        (λ within. within)
        (cases_lt (task.strategy.weight.times * n) f)) (limit_cases task.limit n)

    -- no answer, weighed as a bound is, is below the least f
    pub least_floor : (s : Store K) (f i : ℕ) → IsKept task s → Contains s.waiting (f, i) → IsLeast (f, i) s.waiting
        → IsFloor task.graph task.strategy.weight f
    least_floor s f i kept there least = none_below s f kept.sound (below_least task s f i kept least) (kept.sound.near f i there)

    -- a floor that a turn leaves is one
    pub takes_floor : (s : Store K) (old new : ℕ) → IsKept task s → IsFloor task.graph task.strategy.weight old
        → TakesFloor s.waiting old new → IsFloor task.graph task.strategy.weight new
    takes_floor s old new kept floor (inl none) = subst (IsFloor task.graph task.strategy.weight) (sym none.1) floor
    takes_floor s old new kept floor (inr (f, i, there, least, greatest)) = λ n wins.
        let before : old ≤ task.strategy.weight.times * n = floor n wins in
        let taken : f ≤ task.strategy.weight.times * n = least_floor s f i kept there least n wins in
        omega (arith, before, taken, greatest)
