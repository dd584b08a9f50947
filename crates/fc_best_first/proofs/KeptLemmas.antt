-- Lemmas on what a search keeps: what a pair that is taken tells, and what stays when a key is put in.
use Rattle.std.proofs.Common.{◌≡◌, ℕ, ◌+◌, ◌*◌, ◌<◌, ◌≤◌, ◌⊎◌, max, suc, zero, Option, Some, None, List, [], ◌∷◌, ◌++◌, length, refl, sym, ◌∙◌, ap, subst, inl, inr, ⊎_elim, arith}
use Rattle.std.specs.Prelude.{slice_get, slice_set, Contains}
use Rattle.std.proofs.lemmas.Bool.{cases_eq}
use Rattle.std.proofs.lemmas.Nat.{mul-le}
use Rattle.std.proofs.Math.Nat.{mul-le-mul_left}
use Rattle.std.proofs.lemmas.Option.{slice_get_within, some_pair_parts}
use Rattle.std.proofs.lemmas.List.{length_push}
use Rattle.std.proofs.lemmas.List.Elements.{Contains-append_cases, Contains-append_right}
use Rattle.std.proofs.lemmas.List.Sorted.{Contains-permutation, IsPermutation-sym}
use Rattle.indexmap.specs.Layout.{length-set_value_at}
use Rattle.fc_frontier.specs.Queue.{Adds, IsLeast}
use Rattle.fc_best_first.specs.declared.books.Mark.{Mark}
use Rattle.fc_best_first.specs.declared.books.Opening.{Opening}
use Rattle.fc_best_first.specs.declared.books.Offered.TheVariants.{Added}
use Rattle.fc_best_first.specs.declared.strategies.Expansion.{Expansion}
use Rattle.fc_best_first.specs.declared.strategies.Expansion.TheVariants.{Full, Partial}
use Rattle.fc_best_first.specs.declared.strategies.Strategy.{Strategy}
use Rattle.fc_best_first.specs.Graph.{Graph, Task, IsReached}
use Rattle.fc_best_first.specs.Limits.{Ratio, ReachesLimit, weigh}
use Rattle.fc_best_first.specs.Store.{Store, Candidate, IsStored, IsNew, IsOpenedAnew, Lowers, Stores, bound_at, bound_in, opens_at, weighed_cost}
use Rattle.fc_best_first.specs.Turn.{TakesFloor}
use Rattle.fc_best_first.specs.Kept.{AreNoted, HasAt, IsDone, IsExpanded, IsExpandedBelow, IsMet, IsOpenAt, IsOpenLater, IsOpenOrExpanded, IsNeeded, Comes, IsSound, f_of}
use Rattle.fc_best_first.proofs.StoreLemmas.{set_here, set_elsewhere, push_here, push_elsewhere, slot_here, slot_elsewhere, length-slot}

-- a cost plus bound that is no more than an answer is no more, weighed
pub open_under : (weight : Ratio) (cost bound n : ℕ) → weight.parts ≤ weight.times → cost + bound ≤ n
    → weigh weight cost bound ≤ weight.times * n
open_under weight cost bound n heavy le =
    let all : weight.times * (cost + bound) ≤ weight.times * n = mul-le-mul_left weight.times le in
    let part : weight.parts * cost ≤ weight.times * cost = mul-le weight.parts cost weight.times cost heavy (omega arith) in
    omega (arith, all, part)

-- pairs that are put in and taken out
pub front_there : {X : Type 0} (p : X) (ps : List X) → Contains (p ∷ ps) p
front_there p ps = (0, omega arith, refl)

pub front_cases : {X : Type 0} (p q : X) (ps : List X) → Contains (p ∷ ps) q → (p ≡ q) ⊎ Contains ps q
front_cases p q ps h = elim (Contains-append_cases (p ∷ []) ps q h) [ inl (zero, lt, e) ↦ inl e | inl (suc k, lt, e) ↦ absurd (omega (arith, lt)) | inr there ↦ inr there ]

pub added_there : (old new : List (ℕ × ℕ)) (p : ℕ × ℕ) → Adds old new p → Contains new p
added_there old new p h = Contains-permutation (p ∷ old) new p h (front_there p old)

pub added_stays : (old new : List (ℕ × ℕ)) (p q : ℕ × ℕ) → Adds old new p → Contains old q → Contains new q
added_stays old new p q h there = Contains-permutation (p ∷ old) new q h (Contains-append_right (p ∷ []) old q there)

pub added_cases : (old new : List (ℕ × ℕ)) (p q : ℕ × ℕ) → Adds old new p → Contains new q → (p ≡ q) ⊎ Contains old q
added_cases old new p q h there =
    front_cases p q old (Contains-permutation new (p ∷ old) q (IsPermutation-sym (p ∷ old) new h) there)

-- the f of a pair of least f that is taken is the floor
pub taken_floor : (old new : List (ℕ × ℕ)) (f i before after : ℕ) → Adds new old (f, i) → IsLeast (f, i) old → after ≡ max f before
    → TakesFloor old before after
taken_floor old new f i before after taken least greatest =
    let turned : after ≡ max before f = omega (arith, greatest) in
    inr (f, i, added_there new old (f, i) taken, least, turned)

pub least_below : (f i d j : ℕ) (ps : List (ℕ × ℕ)) → IsLeast (f, i) ps → Contains ps (d, j) → f ≤ d
least_below f i d j ps least (k, lt, e) = subst (λ p. f ≤ p.0) e (least k (d, j) lt)

module _ {K : Type 0} where
  pub same_entry : (s : Store K) (i : ℕ) (x y : K) (m n : Mark) → IsStored s i x m → IsStored s i y n → (x ≡ y) × (m ≡ n)
  same_entry s i x y m n a b = some_pair_parts x y m n (sym a ∙ b)

  pub stands_within : (s : Store K) (i : ℕ) (x : K) (m : Mark) → IsStored s i x m → i < length s.stored
  stands_within s i x m at = slice_get_within s.stored i (x, m) at

  stands_back : (old new : Store K) (i : ℕ) (x : K) (m : Mark) → new.stored ≡ old.stored → IsStored new i x m → IsStored old i x m
  stands_back old new i x m kept at = subst (λ es. slice_get es i ≡ Some (x, m)) kept at

module _ {K : Type 0} (task : Task K) where
  -- a pair that is taken is of a stored key
  pub taken_stands : (old : Store K) (f i : ℕ) (rest : List (ℕ × ℕ)) → IsSound task old → Adds rest old.waiting (f, i)
      → (x : K) × (m : Mark) × IsStored old i x m × (f_of task old i m ≤ f)
  taken_stands old f i rest sound taken = sound.pairs f i (added_there rest old.waiting (f, i) taken)

  pub taken_within : (old new : Store K) (f i : ℕ) → IsSound task old → Adds new.waiting old.waiting (f, i)
      → new.stored ≡ old.stored → i < length new.stored
  taken_within old new f i sound taken kept =
      let there = taken_stands old f i new.waiting sound taken in
      let lt = stands_within old i there.0 there.1 there.2 in
      let size = ap length kept in
      omega (arith, lt, size)

  -- its f is no less than the cost of its key plus what is noted of it, both weighed
  pub pair_high : (old : Store K) (f i : ℕ) (rest : List (ℕ × ℕ)) (x : K) (m : Mark) → IsSound task old
      → Adds rest old.waiting (f, i) → IsStored old i x m → f_of task old i m ≤ f
  pair_high old f i rest x m sound taken at =
      let there = taken_stands old f i rest sound taken in
      let both = same_entry old i there.0 x there.1 m there.2 at in
      subst (λ n. f_of task old i n ≤ f) both.1 there.3

  pub entry_reached : (old new : Store K) (i : ℕ) (x : K) (m : Mark) → IsSound task old → new.stored ≡ old.stored
      → IsStored new i x m → (d : ℕ) × IsReached task.graph x d
  entry_reached old new i x m sound kept at = (m.cost, sound.reached i x m (stands_back old new i x m kept at))

  pub entry_low : (old new : Store K) (i : ℕ) (x : K) (m : Mark) → IsSound task old → task.strategy.budget ≤ 16000000
      → new.stored ≡ old.stored → IsStored new i x m → m.cost ≤ 16001000
  entry_low old new i x m sound most kept at =
      let there = stands_back old new i x m kept at in
      let low = sound.low i x m there in
      let lt = stands_within old i x m there in
      let room = sound.room in
      omega arith

-- what an opening that is noted leaves: each stored key has one, this key that one, and all others theirs
abbrev pub Notes : {K : Type 0} → Store K → Store K → ℕ → Opening → Type 0
Notes old new i opening = (length old.openings ≡ length old.stored → length new.openings ≡ length new.stored)
    × (length old.openings ≡ length old.stored → slice_get new.openings i ≡ Some opening)
    × (length old.openings ≡ length old.stored → (j : ℕ) → (j ≡ i → ⊥) → slice_get new.openings j ≡ slice_get old.openings j)

module _ {K : Type 0} where
  -- a key is stored under the number with this mark and open there, as it was not or at more before; all others stay
  pub record Puts (weight : Ratio) (old new : Store K) (y : K) (e : Mark) (opening : Opening) (i : ℕ) : Type 0 where
    pub here : IsStored new i y e
    pub back : (j : ℕ) (x : K) (m : Mark) → (j ≡ i → ⊥) → IsStored new j x m → IsStored old j x m
    pub on : (j : ℕ) (x : K) (m : Mark) → (j ≡ i → ⊥) → IsStored old j x m → IsStored new j x m
    pub opened : Adds old.waiting new.waiting (opens_at (weight.parts * e.cost) opening, i)
    pub was : (IsNew old y × (i ≡ length old.stored))
        ⊎ ((m : Mark) × IsStored old i y m × (e.cost < m.cost) × (opening.bound ≡ bound_at old i))
    pub notes : Notes old new i opening

  pub anew_notes : (old new : Store K) (i : ℕ) (opening : Opening) → i < length old.stored
      → length new.stored ≡ length old.stored → new.openings ≡ slice_set old.openings i opening → Notes old new i opening
  anew_notes old new i opening lt size is = (
    λ long. ap length is ∙ length-slot old.openings i opening ∙ long ∙ sym size,
    λ long. ap (λ os. slice_get os i) is ∙ slot_here old.openings i opening (omega (arith, lt, long)),
    λ long j ne. ap (λ os. slice_get os j) is ∙ slot_elsewhere old.openings i j opening ne,
  )

  last_notes : (old new : Store K) (opening : Opening) → length new.stored ≡ suc (length old.stored)
      → new.openings ≡ old.openings ++ opening ∷ [] → Notes old new (length old.stored) opening
  last_notes old new opening size is = (
    λ long. let more = ap length is ∙ length_push old.openings opening in omega (arith, more, long, size),
    λ long. subst (λ n. slice_get new.openings n ≡ Some opening) long
        (ap (λ os. slice_get os (length old.openings)) is ∙ push_here old.openings opening),
    λ long j ne. ap (λ os. slice_get os j) is ∙ push_elsewhere old.openings opening j (λ e. ne (e ∙ long)),
  )

  pub puts_lowered : (strategy : Strategy) (old new : Store K) (y : K) (e was : Mark) (opening : Opening) (i : ℕ)
      → IsStored old i y was → e.cost < was.cost
      → (before : Opening) × (slice_get old.openings i ≡ Some before) × IsOpenedAnew strategy.weight before opening
      → Lowers strategy old new i e opening → Puts strategy.weight old new y e opening i
  puts_lowered strategy old new y e was opening i at lt (before, there_before, anew) (stored, opened, noted) = record {
    here = subst (λ es. slice_get es i ≡ Some (y, e)) (sym stored) (set_here old.stored i y was e at);
    back = λ j x n ne there. sym (set_elsewhere old.stored i j e ne) ∙ ap (λ es. slice_get es j) (sym stored) ∙ there;
    on = λ j x n ne there. ap (λ es. slice_get es j) stored ∙ set_elsewhere old.stored i j e ne ∙ there;
    opened = opened;
    was = inr (was, at, lt, anew.1 ∙ sym (ap bound_in there_before));
    notes = anew_notes old new i opening (stands_within old i y was at)
        (ap length stored ∙ length-set_value_at old.stored i e) noted;
  }

  pub puts_added : (strategy : Strategy) (old new : Store K) (offer : Candidate K) → IsNew old offer.key
      → Stores strategy old new offer Added
      → Puts strategy.weight old new offer.key offer.mark offer.opening (length old.stored)
  puts_added strategy old new offer fresh (lt, stored, opened, noted) = record {
    here = ap (λ es. slice_get es (length old.stored)) stored ∙ push_here old.stored (offer.key, offer.mark);
    back = λ j x n ne there. sym (push_elsewhere old.stored (offer.key, offer.mark) j ne) ∙ ap (λ es. slice_get es j) (sym stored) ∙ there;
    on = λ j x n ne there. ap (λ es. slice_get es j) stored ∙ push_elsewhere old.stored (offer.key, offer.mark) j ne ∙ there;
    opened = opened;
    was = inl (fresh, refl);
    notes = last_notes old new offer.opening
        (let more = ap length stored ∙ length_push old.stored (offer.key, offer.mark) in omega (arith, more)) noted;
  }

  module _ (weight : Ratio) (old new : Store K) (y : K) (e : Mark) (opening : Opening) (i : ℕ)
      (puts : Puts weight old new y e opening i) where
    -- a stored key still stands under its number, at no more
    pub still : (j : ℕ) (x : K) (m : Mark) → IsStored old j x m → (n : Mark) × IsStored new j x n × (n.cost ≤ m.cost)
    still j x m at =
        ⊎_elim
        (λ same. ⊎_elim
        (λ fresh. absurd (let lt = stands_within old j x m at in omega (arith, lt, same, fresh.1)))
        (λ lower.
        let there : IsStored old i x m = subst (λ k. IsStored old k x m) same at in
        let both = same_entry old i x y m lower.0 there lower.1 in
        let here : IsStored new j x e = subst (λ k. IsStored new k x e) (sym same) (subst (λ v. IsStored new i v e) (sym both.0) puts.here) in
        let less : e.cost ≤ m.cost = (let q = ap (λ n. n.cost) both.1 in omega (arith, q, lower.2)) in
        (e, here, less))
        puts.was)
        (λ ne. let le : m.cost ≤ m.cost = omega arith in (m, puts.on j x m ne at, le))
        (cases_eq j i)

    pub still_has : (x : K) (d : ℕ) → HasAt old x d → HasAt new x d
    still_has x d (j, m, at, le) =
        let there = still j x m at in
        let low : there.0.cost ≤ d = omega (arith, le, there.2) in
        (j, there.0, there.1, low)

    still_met : (limit : Option ℕ) (g : Graph K) (z : K) (d : ℕ) → IsMet limit g old z d → IsMet limit g new z d
    still_met None g z d has = still_has z d has
    still_met (Some limit) g z d (inl has) = inl (still_has z d has)
    still_met (Some limit) g z d (inr past) = inr past

    still_expanded : (task : Task K) (x : K) (d : ℕ) → IsExpanded task old x d → IsExpanded task new x d
    still_expanded task x d h = (h.0, λ c z edge. still_met task.limit task.graph z (d + c) (h.1 c z edge))

    still_below : (task : Task K) (x : K) (d n : ℕ) → IsExpandedBelow task old x d n → IsExpandedBelow task new x d n
    still_below task x d n h = (
      h.0,
      λ c z edge. ⊎_elim (λ met. inl (still_met task.limit task.graph z (d + c) met)) (λ far. inr far) (h.1 c z edge),
    )

    pub still_done : (expansion : Expansion) (task : Task K) (x : K) (d n : ℕ) → IsDone expansion task old x d n → IsDone expansion task new x d n
    still_done Full task x d n h = still_expanded task x d h
    still_done Partial task x d n h = still_below task x d n h

    -- the key that is put in stood nowhere else
    pub own_number : (j : ℕ) (m : Mark) → IsStored old j y m
        → ((i j : ℕ) (x : K) (m n : Mark) → IsStored old i x m → IsStored old j x n → i ≡ j) → j ≡ i
    own_number j m at once =
        ⊎_elim (λ fresh. absurd (fresh.0 j m at)) (λ lower. once j i y m lower.0 at lower.1) puts.was

    at_here : (j : ℕ) (x : K) (m : Mark) → j ≡ i → IsStored new j x m → (x ≡ y) × (m ≡ e)
    at_here j x m same at = same_entry new i x y m e (subst (λ k. IsStored new k x m) same at) puts.here

    -- a number at which the key is put in at no less is another one
    pub other_number : (j : ℕ) (x : K) (m : Mark) → IsStored old j x m → m.cost ≤ e.cost → j ≡ i → ⊥
    other_number j x m at le same =
        ⊎_elim
        (λ fresh. let lt = stands_within old j x m at in omega (arith, lt, same, fresh.1))
        (λ lower.
        let both = same_entry old i x y m lower.0 (subst (λ k. IsStored old k x m) same at) lower.1 in
        let q = ap (λ n. n.cost) both.1 in
        omega (arith, q, lower.2, le))
        puts.was

    -- what is noted of the key that is put in is what it was put in with
    pub bound_here : (g : Graph K) → AreNoted g old → bound_at new i ≡ opening.bound
    bound_here g noted = ap bound_in (puts.notes.1 noted.0)

    -- what was noted of a stored key still is
    pub still_bound : (g : Graph K) → AreNoted g old → (j : ℕ) (x : K) (m : Mark) → IsStored old j x m → bound_at new j ≡ bound_at old j
    still_bound g noted j x m at =
        ⊎_elim
        (λ same. ⊎_elim
        (λ fresh. absurd (let lt = stands_within old j x m at in omega (arith, lt, same, fresh.1)))
        (λ lower. ap (bound_at new) same ∙ bound_here g noted ∙ lower.3 ∙ ap (bound_at old) (sym same))
        puts.was)
        (λ ne. ap bound_in (puts.notes.2 noted.0 j ne))
        (cases_eq j i)

    still_comes : (g : Graph K) (j : ℕ) (x : K) (m : Mark) → Comes g old j x m → Comes g new j x m
    still_comes g j x m h = elim h [
      | inl start ↦ inl start
      | inr (w, was, c, at, edge, le) ↦
          let there = still m.parent w was at in
          let low : there.0.cost + c ≤ m.cost = omega (arith, le, there.2) in
          inr (w, there.0, c, there.1, edge, low)
    ]

  -- what is open stays so, and so does what is noted
  pub still_open : (g : Graph K) (old new : Store K) (opening : Opening) (i j cost : ℕ) (p : ℕ × ℕ) (f : ℕ)
      → Adds old.waiting new.waiting p → Notes old new i opening → AreNoted g old → (j ≡ i → ⊥)
      → IsOpenAt old j cost f → IsOpenAt new j cost f
  still_open g old new opening i j cost p f opened notes noted ne (waits, (last, there, at)) = (
    added_stays old.waiting new.waiting p (f, j) opened waits,
    (last, notes.2 noted.0 j ne ∙ there, at),
  )

  opened_here : (g : Graph K) (old new : Store K) (opening : Opening) (i cost : ℕ)
      → Adds old.waiting new.waiting (opens_at cost opening, i) → Notes old new i opening → AreNoted g old
      → IsOpenAt new i cost (opens_at cost opening)
  opened_here g old new opening i cost opened notes noted =
      (added_there old.waiting new.waiting (opens_at cost opening, i) opened, (opening, notes.1 noted.0, refl))

  pub still_noted : (weight : Ratio) (g : Graph K) (old new : Store K) (y : K) (e : Mark) (opening : Opening) (i : ℕ)
      → Puts weight old new y e opening i → g.shown y opening.bound opening.note → AreNoted g old → AreNoted g new
  still_noted weight g old new y e opening i puts shown noted = (
    puts.notes.0 noted.0,
    λ j x m at. ⊎_elim
        (λ same.
        let both = at_here weight old new y e opening i puts j x m same at in (
          opening,
          subst (λ k. slice_get new.openings k ≡ Some opening) (sym same) (puts.notes.1 noted.0),
          subst (λ v. g.shown v opening.bound opening.note) (sym both.0) shown,
        ))
        (λ ne.
        let was = noted.1 j x m (puts.back j x m ne at) in
        (was.0, puts.notes.2 noted.0 j ne ∙ was.1, was.2))
        (cases_eq j i),
  )

  still_later : (expansion : Expansion) (task : Task K) (old new : Store K) (y : K) (e : Mark) (opening : Opening) (i : ℕ)
      → Puts task.strategy.weight old new y e opening i → AreNoted task.graph old → (j : ℕ) (x : K) (m : Mark) → (j ≡ i → ⊥)
      → IsOpenLater expansion task old j x m → IsOpenLater expansion task new j x m
  still_later Full task old new y e opening i puts noted j x m ne later = later
  still_later Partial task old new y e opening i puts noted j x m ne (f, is_open, below) = (
    f,
    still_open task.graph old new opening i j (weighed_cost task.strategy m) (opens_at (weighed_cost task.strategy e) opening, i) f puts.opened puts.notes noted ne is_open,
    still_below task.strategy.weight old new y e opening i puts task x m.cost f below,
  )

  module _ (task : Task K) (old new : Store K) (y : K) (e : Mark) (opening : Opening) (i : ℕ)
      (puts : Puts task.strategy.weight old new y e opening i) (is : opening.over ≡ task.strategy.weight.times * opening.bound)
      (shown : task.graph.shown y opening.bound opening.note) (sound : IsSound task old)
      (room : length new.stored ≤ task.strategy.budget) (reached : IsReached task.graph y e.cost) (low : e.cost + task.graph.spare y ≤ i + 1000)
      (comes : Comes task.graph old i y e) (needed : IsNeeded task.strategy.expansion task.graph task.strategy.weight y)
      (heavy : task.strategy.weight.parts ≤ task.strategy.weight.times)
      (under : (n : ℕ) → task.graph.wins n → ReachesLimit task.limit n → e.cost + opening.bound ≤ n) where
    again : (j : ℕ) (x : K) (m : Mark) → IsStored old j x m → (n : Mark) × IsStored new j x n × (n.cost ≤ m.cost)
    again = still task.strategy.weight old new y e opening i puts

    here_again : (j : ℕ) (x : K) (m : Mark) → j ≡ i → IsStored new j x m → (x ≡ y) × (m ≡ e)
    here_again = at_here task.strategy.weight old new y e opening i puts

    own_again : (j : ℕ) (m : Mark) → IsStored old j y m → j ≡ i
    own_again j m at = own_number task.strategy.weight old new y e opening i puts j m at sound.once

    once : (j k : ℕ) (x : K) (m n : Mark) → IsStored new j x m → IsStored new k x n → j ≡ k
    once j k x m n a b =
        ⊎_elim
        (λ here. let q = (here_again j x m here a).0 in
        ⊎_elim (λ there. here ∙ sym there)
        (λ ne. here ∙ sym (own_again k n (subst (λ v. IsStored old k v n) q (puts.back k x n ne b))))
        (cases_eq k i))
        (λ ne.
        ⊎_elim
        (λ there. let q = (here_again k x n there b).0 in
        own_again j m (subst (λ v. IsStored old j v m) q (puts.back j x m ne a)) ∙ sym there)
        (λ other. sound.once j k x m n (puts.back j x m ne a) (puts.back k x n other b))
        (cases_eq k i))
        (cases_eq j i)

    -- what holds of the key that is put in and of each other holds of each
    each : (P : ℕ → K → Mark → Type 0) → P i y e → ((j : ℕ) (x : K) (m : Mark) → IsStored old j x m → P j x m)
        → (j : ℕ) (x : K) (m : Mark) → IsStored new j x m → P j x m
    each P here rest j x m at =
        ⊎_elim
        (λ same. let both = here_again j x m same at in
        subst (λ k. P k x m) (sym same) (subst (λ v. P i v m) (sym both.0) (subst (λ n. P i y n) (sym both.1) here)))
        (λ ne. rest j x m (puts.back j x m ne at))
        (cases_eq j i)

    -- where it is open
    own_f : f_of task new i e ≡ opens_at (weighed_cost task.strategy e) opening
    own_f = ap (λ b. weigh task.strategy.weight e.cost b) (bound_here task.strategy.weight old new y e opening i puts task.graph sound.noted)
        ∙ ap (λ n. task.strategy.weight.parts * e.cost + n) (sym is)

    same_bound : (j : ℕ) (x : K) (m : Mark) → IsStored old j x m → bound_at new j ≡ bound_at old j
    same_bound = still_bound task.strategy.weight old new y e opening i puts task.graph sound.noted

    same_f : (j : ℕ) (x : K) (m : Mark) → IsStored old j x m → (n : Mark) → f_of task new j n ≡ f_of task old j n
    same_f j x m at n = ap (λ b. weigh task.strategy.weight n.cost b) (same_bound j x m at)

    pub still_sound : IsSound task new
    still_sound = record {
      room = room;
      once = once;
      reached = each (λ j x m. IsReached task.graph x m.cost) reached sound.reached;
      low = each (λ j x m. m.cost + task.graph.spare x ≤ j + 1000) low sound.low;
      comes = each (Comes task.graph new)
          (still_comes task.strategy.weight old new y e opening i puts task.graph i y e comes)
          (λ j x m at. still_comes task.strategy.weight old new y e opening i puts task.graph j x m (sound.comes j x m at));
      needed = each (λ j x m. IsNeeded task.strategy.expansion task.graph task.strategy.weight x) needed sound.needed;
      starts = λ x d start. still_has task.strategy.weight old new y e opening i puts x d (sound.starts x d start);
      pairs = λ h j there. ⊎_elim
          (λ same.
          let here : IsStored new j y e = subst (λ k. IsStored new k y e) (ap (λ p. p.1) same) puts.here in
          let level : opens_at (weighed_cost task.strategy e) opening ≡ h = ap (λ p. p.0) same in
          let at_j : f_of task new j e ≡ f_of task new i e = ap (λ k. f_of task new k e) (sym (ap (λ p. p.1) same)) in
          (y, e, here, omega (arith, level, at_j, own_f)))
          (λ before.
          let was = sound.pairs h j before in
          let now = again j was.0 was.1 was.2 in
          let le : f_of task new j now.0 ≤ h =
          (let a = was.3 in omega (arith, mul-le-mul_left task.strategy.weight.parts now.2, a, same_f j was.0 was.1 was.2 now.0)) in
          (was.0, now.0, now.1, le))
          (added_cases old.waiting new.waiting (opens_at (weighed_cost task.strategy e) opening, i) (h, j) puts.opened there);
      noted = still_noted task.strategy.weight task.graph old new y e opening i puts shown sound.noted;
      under = each (λ j x m. (n : ℕ) → task.graph.wins n → ReachesLimit task.limit n → m.cost + bound_at new j ≤ n)
          (λ n wins reach. omega (arith, under n wins reach, bound_here task.strategy.weight old new y e opening i puts task.graph sound.noted))
          (λ j x m at n wins reach. omega (arith, sound.under j x m at n wins reach, same_bound j x m at));
      near = λ h j there. ⊎_elim
          (λ same. λ n wins reach. subst (λ k. k ≤ task.strategy.weight.times * n) (ap (λ p. p.0) same)
          (omega (arith, open_under task.strategy.weight e.cost opening.bound n heavy (under n wins reach), is)))
          (λ before. sound.near h j before)
          (added_cases old.waiting new.waiting (opens_at (weighed_cost task.strategy e) opening, i) (h, j) puts.opened there);
    }

    pub still_settled : (busy : ℕ)
        → ((j : ℕ) (x : K) (m : Mark) → (j ≡ busy → ⊥) → IsStored old j x m → IsOpenOrExpanded task old j x m)
        → (j : ℕ) (x : K) (m : Mark) → (j ≡ busy → ⊥) → IsStored new j x m → IsOpenOrExpanded task new j x m
    still_settled busy settled j x m ne at =
        ⊎_elim
        (λ same. let both = here_again j x m same at in
        inl (subst (λ k. IsOpenAt new k (weighed_cost task.strategy m) (f_of task new k m)) (sym same)
        (subst (λ n. IsOpenAt new i (weighed_cost task.strategy n) (f_of task new i n)) (sym both.1)
        (subst (IsOpenAt new i (weighed_cost task.strategy e)) (sym own_f)
        (opened_here task.graph old new opening i (weighed_cost task.strategy e) puts.opened puts.notes sound.noted)))))
        (λ other. elim (settled j x m ne (puts.back j x m other at)) [
          | inl is_open ↦ inl (subst (IsOpenAt new j (weighed_cost task.strategy m)) (sym (same_f j x m (puts.back j x m other at) m))
              (still_open task.graph old new opening i j (weighed_cost task.strategy m) (opens_at (weighed_cost task.strategy e) opening, i) (f_of task old j m)
              puts.opened puts.notes sound.noted other is_open))
          | inr (inl done) ↦ inr (inl (still_expanded task.strategy.weight old new y e opening i puts task x m.cost done))
          | inr (inr later) ↦ inr (inr (still_later task.strategy.expansion task old new y e opening i
              puts sound.noted j x m other later))
        ])
        (cases_eq j i)
