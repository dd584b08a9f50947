-- Lemmas on offering the children of a key that is taken: what is kept while they find their places.
use Rattle.std.proofs.Common.{◌≡◌, ℕ, ◌+◌, ◌*◌, ◌<◌, ◌≤◌, ◌⊎◌, suc, Option, Some, None, List, [], ◌∷◌, length, refl, sym, ◌∙◌, ap, subst, inl, inr, ⊎_elim, arith}
use Rattle.std.specs.Prelude.{Contains, slice_get}
use Rattle.std.proofs.lemmas.List.Elements.{Contains-append_right}
use Rattle.fc_best_first.specs.declared.books.Mark.{Mark}
use Rattle.fc_best_first.specs.declared.books.Opening.{Opening}
use Rattle.fc_best_first.specs.declared.books.Offered.TheVariants.{Known, Lowered, Added, Past}
use Rattle.fc_best_first.specs.declared.spaces.Child.{Child}
use Rattle.fc_best_first.specs.declared.strategies.Expansion.{Expansion}
use Rattle.fc_best_first.specs.declared.strategies.Expansion.TheVariants.{Full, Partial}
use Rattle.fc_best_first.specs.declared.turns.Placing.{Placing}
use Rattle.fc_best_first.specs.declared.turns.Placing.TheVariants.{Whole, Later, NoRoom}
use Rattle.fc_best_first.specs.Graph.{Graph, IsReached, IsLawful, Task}
use Rattle.fc_best_first.specs.Limits.{IsBelowLimit, IsWithinLimit, ReachesLimit, weigh}
use Rattle.fc_best_first.specs.Store.{Store, Candidate, IsStored, IsOpening, IsOpenedAnew, Admits, Offers, bound_at, bound_in, opens_at, weighed_cost}
use Rattle.fc_best_first.specs.Turn.{Expands, candidate_of, put_off, work_left}
use Rattle.fc_best_first.specs.Kept.{AreNoted, HasAt, IsDone, IsMet, IsOpenOrExpanded, IsNeeded, IsWhereOpen, Comes, IsSound, f_of}
use Rattle.fc_best_first.specs.Shown.{IsFloor, IsGivenUp}
use Rattle.fc_best_first.proofs.KeptLemmas.{front_there, front_cases, stands_within, Notes, Puts, puts_lowered, puts_added, still_done, still_has, other_number, still_sound, still_settled}
use Rattle.fc_best_first.proofs.ClosedLemmas.{has_met, past_met, stays_met}
use Rattle.fc_best_first.proofs.OfferLemmas.{noted_shown}
use Rattle.fc_best_first.proofs.TurnLemmas.{off_past, offers_room}
use Rattle.fc_best_first.proofs.WorkLemmas.{lowered_work, added_work}

-- what children are put off until is no greater than this f
abbrev pub PutOffTo : {K : Type 0} → Placing K → ℕ → Type 0
PutOffTo (Later later) f = later ≤ f
PutOffTo other f = ⊥

-- what children are put off until is no more than the limit so many times over, if there is one
abbrev pub IsNearLimit : {K : Type 0} → Option ℕ → ℕ → Placing K → Type 0
IsNearLimit limit times (Later later) = IsWithinLimit limit times later
IsNearLimit limit times other = Unit {0}

off_near : {K : Type 0} (limit : Option ℕ) (times later : ℕ) (others : Placing K) → IsWithinLimit limit times later
    → IsNearLimit limit times (put_off later others)
off_near None times later Whole near = tt
off_near None times later (Later g) near = tt
off_near None times later (NoRoom y) near = tt
off_near (Some limit) times later Whole near = near
off_near (Some limit) times later (Later g) near = omega (arith, near)
off_near (Some limit) times later (NoRoom y) near = tt

-- all children found their places, or some were put off past what was taken, which is by partial expansion alone
abbrev pub IsPast : {K : Type 0} → Expansion → ℕ → Placing K → Type 0
IsPast expansion taken Whole = Unit {0}
IsPast expansion taken (Later later) = (taken < later) × (expansion ≡ Partial)
IsPast expansion taken (NoRoom y) = ⊥

off_here : {K : Type 0} (expansion : Expansion) (taken later f : ℕ) (others : Placing K) → IsPast expansion taken others → later ≤ f
    → PutOffTo (put_off later others) f
off_here expansion taken later f Whole past le = le
off_here expansion taken later f (Later g) past le = omega (arith, le)
off_here expansion taken later f (NoRoom y) past le = absurd past

off_there : {K : Type 0} (later f : ℕ) (others : Placing K) → PutOffTo others f → PutOffTo (put_off later others) f
off_there later f Whole le = absurd le
off_there later f (Later g) le = omega (arith, le)
off_there later f (NoRoom y) le = absurd le

off_on : {K : Type 0} (expansion : Expansion) (taken later : ℕ) (others : Placing K) → taken < later → expansion ≡ Partial
    → IsPast expansion taken others → IsPast expansion taken (put_off later others)
off_on expansion taken later Whole lt partial past = (lt, partial)
off_on expansion taken later (Later g) lt partial past = (omega (arith, lt, past.0), partial)
off_on expansion taken later (NoRoom y) lt partial past = absurd past

-- what is below the limit is no more than what reaches it
below_under : (limit : Option ℕ) (cost n : ℕ) → IsBelowLimit limit cost → ReachesLimit limit n → cost ≤ n
below_under None cost n below reach = absurd reach
below_under (Some limit) cost n below reach = omega (arith, below, reach)

-- a pair that is present stays so while other keys are put in
still_present : {K : Type 0} (g : Graph K) (old new : Store K) (opening : Opening) (i busy cost f : ℕ) → Notes old new i opening
    → AreNoted g old → (busy ≡ i → ⊥) → IsWhereOpen old busy cost f → IsWhereOpen new busy cost f
still_present g old new opening i busy cost f notes noted ne (last, there, at) = (last, notes.2 noted.0 busy ne ∙ there, at)

module _ {K : Type 0} (task : Task K) where
  module _ (busy : ℕ) (xb : K) (mb : Mark) (own note : ℕ) (is_shown : task.graph.shown xb own note) (taken : ℕ)
      (high : weigh task.strategy.weight mb.cost own ≤ taken)
      (floor : IsFloor task.graph task.strategy.weight taken) (heavy : task.strategy.weight.parts ≤ task.strategy.weight.times) where
    -- the mark of a child that would cost nothing
    abbrev origin : Mark
    origin = record { cost = mb.cost; parent = busy }

    -- what holds while the key with the number busy is expanded
    pub record Doing (s : Store K) : Type 0 where
      pub sound : IsSound task s
      pub settled : (j : ℕ) (y : K) (l : Mark) → (j ≡ busy → ⊥) → IsStored s j y l → IsOpenOrExpanded task s j y l
      pub stands : IsStored s busy xb mb
      pub noted : bound_at s busy ≡ own
      pub present : IsWhereOpen s busy (weighed_cost task.strategy mb) taken
      pub done : f_of task s busy mb < taken → IsDone task.strategy.expansion task s xb mb.cost taken

    -- the child as it is offered
    abbrev child_offer : Child K → Opening → Candidate K
    child_offer child opening = candidate_of origin child opening

    abbrev IsChild : Child K → Type 0
    IsChild child = task.graph.edge xb child.cost child.key

    child_reached : (s : Store K) (child : Child K) → IsChild child → Doing s → IsReached task.graph child.key (mb.cost + child.cost)
    child_reached s child edge d =
        let before = d.sound.reached busy xb mb d.stands in
        (suc before.0, (xb, mb.cost, child.cost, before.1, edge, refl))

    child_needed : (expansion : Expansion) (s : Store K) (child : Child K) (opening : Opening) → IsChild child → Doing s
        → IsOpening task.graph task.strategy.weight child.key opening
        → Admits expansion taken (opens_at (weighed_cost task.strategy (child_offer child opening).mark) opening)
        → IsNeeded expansion task.graph task.strategy.weight child.key
    child_needed Full s child opening edge d opens admits =
        inr (xb, mb.cost, child.cost, d.sound.reached busy xb mb d.stands, edge, (own, note, is_shown, λ n wins. omega (arith, floor n wins, high)))
    child_needed Partial s child opening edge d opens admits = (
      mb.cost + child.cost,
      child_reached s child edge d,
      (opening.bound, opening.note, opens.1, λ n wins. omega (arith, floor n wins, admits, opens.0)),
    )

    puts_doing : (old new : Store K) (child : Child K) (opening : Opening) (i : ℕ) → IsChild child → Doing old
        → length new.stored ≤ task.strategy.budget → IsOpening task.graph task.strategy.weight child.key opening
        → Puts task.strategy.weight old new child.key (child_offer child opening).mark opening i
        → mb.cost + child.cost + task.graph.spare child.key ≤ i + 1000 → IsNeeded task.strategy.expansion task.graph task.strategy.weight child.key
        → ((n : ℕ) → task.graph.wins n → ReachesLimit task.limit n → mb.cost + child.cost + opening.bound ≤ n) → Doing new
    puts_doing old new child opening i edge d room opens puts low needed under =
        let e : Mark = (child_offer child opening).mark in
        let reached = child_reached old child edge d in
        let self : mb.cost + child.cost ≤ mb.cost + child.cost = omega arith in
        let comes : Comes task.graph old i child.key e = inr (xb, mb, child.cost, d.stands, edge, self) in
        let more : mb.cost ≤ e.cost = omega arith in
        let other = other_number task.strategy.weight old new child.key e opening i puts busy xb mb d.stands more in
        let same : bound_at new busy ≡ bound_at old busy = ap bound_in (puts.notes.2 d.sound.noted.0 busy other) in
        record {
          sound = still_sound task old new child.key e opening i puts opens.0 opens.1 d.sound room reached low comes needed heavy under;
          settled = still_settled task old new child.key e opening i puts opens.0 opens.1 d.sound room reached low comes needed heavy under busy d.settled;
          stands = puts.on busy xb mb other d.stands;
          noted = same ∙ d.noted;
          present = still_present task.graph old new opening i busy (weighed_cost task.strategy mb) taken puts.notes
              d.sound.noted other d.present;
          done = λ lt. still_done task.strategy.weight old new child.key e opening i puts
              task.strategy.expansion task xb mb.cost taken
              (d.done (subst (λ b. weigh task.strategy.weight mb.cost b < taken) same lt));
        }

    -- a child that found its place
    abbrev Placed : Store K → Store K → Child K → Type 0
    Placed old new child = Doing new × ((x : K) (d : ℕ) → HasAt old x d → HasAt new x d)
        × IsMet task.limit task.graph new child.key (mb.cost + child.cost) × (work_left task.strategy.budget new ≤ work_left task.strategy.budget old)

    placed_known : (old new : Store K) (child : Child K) (opening : Opening) → Doing old
        → Offers task taken old new (child_offer child opening) Known
        → Placed old new child
    placed_known old new child opening d (i, was, at, le, same) =
        let still_left : work_left task.strategy.budget old ≤ work_left task.strategy.budget old = omega arith in
        subst (λ s. Placed old s child) (sym same) (d, λ x c h. h, has_met task.limit task.graph old child.key (mb.cost + child.cost) (i, was, at, le), still_left)

    lowered_opens : (old : Store K) (child : Child K) (opening : Opening) (i : ℕ) (was : Mark) → Doing old → IsStored old i child.key was
        → (before : Opening) × (slice_get old.openings i ≡ Some before) × IsOpenedAnew task.strategy.weight before opening
        → IsOpening task.graph task.strategy.weight child.key opening
    lowered_opens old child opening i was d at (before, there, anew) =
        let first = noted_shown task.graph old i child.key was before d.sound.noted at there in (
          anew.0 ∙ ap (λ n. task.strategy.weight.times * n) (sym anew.1),
          subst (λ n. task.graph.shown child.key opening.bound n) (sym anew.2)
              (subst (λ n. task.graph.shown child.key n before.note) (sym anew.1) first),
        )

    placed_lowered : (old new : Store K) (child : Child K) (opening : Opening) → IsChild child → Doing old
        → Offers task taken old new (child_offer child opening) Lowered
        → Placed old new child
    placed_lowered old new child opening edge d (i, was, at, lt, anew, lowers) =
        let e : Mark = (child_offer child opening).mark in
        let p = puts_lowered task.strategy old new child.key e was opening i at lt anew lowers in
        let level : opening.bound ≡ bound_at old i = anew.2.1 ∙ sym (ap bound_in anew.1) in
        let before = d.sound.low i child.key was at in
        let low : mb.cost + child.cost + task.graph.spare child.key ≤ i + 1000 = omega (arith, before, lt) in
        let room = offers_room task taken old new (child_offer child opening) Lowered d.sound.room (i, was, at, lt, anew, lowers) in
        let self : mb.cost + child.cost ≤ mb.cost + child.cost = omega arith in (
          puts_doing old new child opening i edge d room (lowered_opens old child opening i was d at anew) p low (d.sound.needed i child.key was at)
              (λ n wins reach. omega (arith, d.sound.under i child.key was at n wins reach, lt, level)),
          still_has task.strategy.weight old new child.key e opening i p,
          has_met task.limit task.graph new child.key (mb.cost + child.cost) (i, e, p.here, self),
          lowered_work task.strategy old new i child.key was e opening at lt lowers,
        )

    placed_added : IsLawful task.graph → (old new : Store K) (child : Child K) (opening : Opening) → IsChild child → Doing old
        → Offers task taken old new (child_offer child opening) Added
        → Placed old new child
    placed_added lawful old new child opening edge d (fresh, opens, admits, short, stores) =
        let e : Mark = (child_offer child opening).mark in
        let p = puts_added task.strategy old new (child_offer child opening) fresh stores in
        let was = d.sound.low busy xb mb d.stands in
        let step = (lawful.edges xb child.cost child.key edge).1 in
        let lt = stands_within old busy xb mb d.stands in
        let low : mb.cost + child.cost + task.graph.spare child.key ≤ length old.stored + 1000 = omega (arith, was, step, lt) in
        let room = offers_room task taken old new (child_offer child opening) Added d.sound.room (fresh, opens, admits, short, stores) in
        let self : mb.cost + child.cost ≤ mb.cost + child.cost = omega arith in (
          puts_doing old new child opening (length old.stored) edge d room opens p low
              (child_needed task.strategy.expansion old child opening edge d opens admits)
              (λ n wins reach. below_under task.limit (mb.cost + child.cost + opening.bound) n short reach),
          still_has task.strategy.weight old new child.key e opening (length old.stored) p,
          has_met task.limit task.graph new child.key (mb.cost + child.cost) (length old.stored, e, p.here, self),
          added_work task.strategy old new (child_offer child opening) stores (omega (arith, low)),
        )

    placed_past : (old new : Store K) (child : Child K) (opening : Opening) → Doing old
        → Offers task taken old new (child_offer child opening) Past
        → Placed old new child
    placed_past old new child opening d (past, same) =
        let still_left : work_left task.strategy.budget old ≤ work_left task.strategy.budget old = omega arith in
        subst (λ s. Placed old s child) (sym same)
        (d, λ x c h. h, past_met task.limit task.graph old child.key (mb.cost + child.cost) past, still_left)

    -- a child is met, or put off
    abbrev pub IsPlaced : Store K → Placing K → Child K → Type 0
    IsPlaced s placing child = IsMet task.limit task.graph s child.key (mb.cost + child.cost)
        ⊎ PutOffTo placing (weigh task.strategy.weight (mb.cost + child.cost) (task.graph.bound child.key))

    -- after all children: each is stored or put off past what was taken, or one found no place
    abbrev pub Done : List (Child K) → Store K → Store K → Placing K → Type 0
    Done children old new placing =
        (IsPast task.strategy.expansion taken placing × Doing new × ((x : K) (d : ℕ) → HasAt old x d → HasAt new x d)
        × ((child : Child K) → Contains children child → IsPlaced new placing child)
        × (work_left task.strategy.budget new ≤ work_left task.strategy.budget old)
        × IsNearLimit task.limit task.strategy.weight.times placing)
        ⊎ ((y : K) × (placing ≡ NoRoom y) × IsGivenUp task new y busy)

    done_on : (child : Child K) (children : List (Child K)) (old mid new : Store K) (placing : Placing K)
        → Placed old mid child → Done children mid new placing → Done (child ∷ children) old new placing
    done_on child children old mid new placing placed (inr gave_up) = inr gave_up
    done_on child children old mid new placing placed (inl (past, doing, stays, all, less, near)) =
        inl (
          past,
          doing,
          λ x d h. stays x d (placed.1 x d h),
          λ c there. ⊎_elim
              (λ same. subst (IsPlaced new placing) same (inl (stays_met task.limit task.graph mid new child.key (mb.cost + child.cost)
              (λ has. stays child.key (mb.cost + child.cost) has) placed.2)))
              (λ later. all c later)
              (front_cases child c children there),
          let before = placed.3 in omega (arith, less, before),
          near,
        )

    done_off : (child : Child K) (children : List (Child K)) (old new : Store K) (others : Placing K) (later : ℕ) → taken < later
        → task.strategy.expansion ≡ Partial → later ≤ weigh task.strategy.weight (mb.cost + child.cost) (task.graph.bound child.key)
        → IsWithinLimit task.limit task.strategy.weight.times later
        → Done children old new others → Done (child ∷ children) old new (put_off later others)
    done_off child children old new others later lt partial le within (inr (y, out, gave_up)) = inr (y, ap (put_off later) out, gave_up)
    done_off child children old new others later lt partial le within (inl (past, doing, stays, all, less, near)) =
        inl (
          off_on task.strategy.expansion taken later others lt partial past,
          doing,
          stays,
          λ c there. ⊎_elim
              (λ same. subst (IsPlaced new (put_off later others)) same (inr (off_here task.strategy.expansion taken later _ others past le)))
              (λ behind. ⊎_elim (λ has. inl has) (λ off. inr (off_there later _ others off)) (all c behind))
              (front_cases child c children there),
          less,
          off_near task.limit task.strategy.weight.times later others within,
        )

    pub expands_done : IsLawful task.graph → (children : List (Child K)) (old new : Store K) (placing : Placing K)
        → ((child : Child K) → Contains children child → IsChild child) → Doing old
        → Expands task taken origin children old new placing → Done children old new placing
    expands_done lawful [] old new placing edges d (same, whole) =
        let left : work_left task.strategy.budget new ≡ work_left task.strategy.budget old = ap (work_left task.strategy.budget) same in
        inl (
          subst (IsPast task.strategy.expansion taken) (sym whole) tt,
          subst Doing (sym same) d,
          λ x c h. subst (λ s. HasAt s x c) (sym same) h,
          λ child there. absurd (omega (arith, there.1)),
          omega (arith, left),
          subst (IsNearLimit task.limit task.strategy.weight.times) (sym whole) tt,
        )
    expands_done lawful (child ∷ children) old new placing edges d (opening, inl ((fresh, opens, admits, short, (is, no_room, same)), out)) =
        let edge = edges child (front_there child children) in
        inr (
          child.key,
          out,
          subst (λ s. IsGivenUp task s child.key busy) (sym same) (
            d.sound,
            no_room,
            fresh,
            child_needed task.strategy.expansion old child opening edge d opens admits,
            (xb, mb, child.cost, taken, record { stands = d.stands; at = d.present; done = d.done }, edge),
            d.settled,
          ),
        )
    expands_done lawful (child ∷ children) old new placing edges d (opening, inr (inl (mid, how, rest))) =
        let edge = edges child (front_there child children) in
        let placed : Placed old mid child = ⊎_elim
        (λ known. placed_known old mid child opening d known)
        (λ other. ⊎_elim (λ lowered. placed_lowered old mid child opening edge d lowered)
        (λ new_one. ⊎_elim (λ added. placed_added lawful old mid child opening edge d added) (λ past. placed_past old mid child opening d past) new_one) other)
        how in
        done_on child children old mid new placing placed
        (expands_done lawful children mid new placing
        (λ c there. edges c (Contains-append_right (child ∷ []) children c there)) placed.0 rest)
    expands_done lawful (child ∷ children) old new placing edges d (opening, inr (inr (later, (off, within, same), (others, rest, is)))) =
        subst (Done (child ∷ children) old new) (sym is)
        (done_off child children old new others later (off_past task.strategy.expansion taken _ later off).0
        (off_past task.strategy.expansion taken _ later off).2 (off_past task.strategy.expansion taken _ later off).1 within
        (expands_done lawful children old new others
        (λ c there. edges c (Contains-append_right (child ∷ []) children c there)) d rest))
