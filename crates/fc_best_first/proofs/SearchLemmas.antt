-- Lemmas on turns: what a search keeps stays, and what one that is done shows.
use Rattle.std.proofs.Common.{◌≡◌, ℕ, ◌+◌, ◌*◌, ◌<◌, ◌≤◌, ◌⊎◌, suc, zero, Some, None, Option, List, [], ◌∷◌, ◌++◌, length, refl, sym, ◌∙◌, ap, subst, inl, inr, ⊎_elim, arith}
use Rattle.std.specs.Prelude.{slice_get, Contains}
use Rattle.std.proofs.lemmas.Bool.{cases_eq}
use Rattle.std.proofs.Math.Nat.{mul-le-mul_left}
use Rattle.std.proofs.lemmas.Option.{none-some}
use Rattle.std.specs.Map.{keys_of}
use Rattle.std.proofs.lemmas.Map.Entries.{length-keys_of}
use Rattle.std.proofs.lemmas.List.{length_push}
use Rattle.fc_best_first.specs.declared.books.Mark.{Mark}
use Rattle.fc_best_first.specs.declared.books.Opening.{Opening}
use Rattle.fc_best_first.specs.declared.spaces.Child.{Child}
use Rattle.fc_best_first.specs.declared.strategies.Expansion.{Expansion}
use Rattle.fc_best_first.specs.declared.strategies.Expansion.TheVariants as expansion
use Rattle.fc_best_first.specs.declared.turns.Placing.{Placing}
use Rattle.fc_best_first.specs.declared.turns.Placing.TheVariants.{Whole, Later, NoRoom}
use Rattle.fc_best_first.specs.declared.turns.Status.{Status}
use Rattle.fc_best_first.specs.declared.turns.Status.TheVariants.{Running, Won, CannotWin, GaveUp, Stopped}
use Rattle.fc_best_first.specs.Graph.{Task, IsLawful}
use Rattle.fc_best_first.specs.Limits.{weigh}
use Rattle.fc_best_first.specs.Store.{Store, IsStored, IsTaken, bound_at, bound_in, opens_at, weighed_cost}
use Rattle.fc_best_first.specs.Turn.{Advances, AreChildren, Closes, DropsTaken, ExpandsTaken, Expands, Reopens, work_left}
use Rattle.fc_best_first.specs.Kept.{AreNoted, Comes, IsExpanded, IsExpandedBelow, IsMet, IsOpenAt, IsOpenLater, IsOpenOrExpanded, IsNeeded, IsSound, IsKept, IsWhereOpen, f_of}
use Rattle.fc_best_first.specs.Shown.{IsFloor, IsFound, IsExhausted, IsGivenUp, Holds, Shows}
use Rattle.fc_best_first.proofs.KeptLemmas.{Notes, added_cases, added_there, anew_notes, open_under, same_entry, stands_within, still_open}
use Rattle.fc_best_first.proofs.WorkLemmas.{reopened_work, taken_work}
use Rattle.fc_best_first.proofs.ClosedLemmas.{IsAt, closed_inside, below_least, expanded_covered, kept_back, kept_below, kept_done, kept_expanded, kept_has, kept_met, least_floor, less_done, limit_cases, limit_within, more_met, none_below, others_settled, rows, same_bound, same_f, stale_elsewhere, taken_high, taken_sound}
use Rattle.fc_best_first.proofs.ExpandLemmas.{Done, IsNearLimit, IsPlaced, PutOffTo, expands_done}

-- a key of a list of keys is a stored one, or the one at the end
key_cases : {K X : Type 0} (es : List (K × X)) (y : K) (i : ℕ) (x : K) → slice_get (keys_of es ++ y ∷ []) i ≡ Some x
    → ((v : X) × (slice_get es i ≡ Some (x, v))) ⊎ ((i ≡ length es) × (x ≡ y))
key_cases [] y zero x at = inr (refl, cc)
key_cases [] y (suc i) x at = absurd (none-some x at)
key_cases (e ∷ es) y zero x at = inl (e.1, let same : e.0 ≡ x = cc in ap (λ k. Some (k, e.1)) same)
key_cases (e ∷ es) y (suc i) x at = elim (key_cases es y i x at) [
  | inl there ↦ inl there
  | inr last ↦ inr (ap suc last.0, last.1)
]

-- a key of which children were put off is open again
module _ {K : Type 0} (task : Task K) (after new : Store K) (number : ℕ) (x : K) (mark : Mark) (later : ℕ)
    (reopens : Reopens after new number (weighed_cost task.strategy mark) later) where
  abbrev next : Opening
  next = reopens.1

  reopened_notes : IsStored after number x mark → Notes after new number next
  reopened_notes at = anew_notes after new number next (stands_within after number x mark at) (ap length reopens.7) reopens.9

  reopened_later : (by : Expansion) → by ≡ expansion.Partial → AreNoted task.graph after → IsStored after number x mark
      → IsExpandedBelow task new x mark.cost later → IsOpenLater by task new number x mark
  reopened_later expansion.Full partial noted at below = absurd (cc)
  reopened_later expansion.Partial partial noted at below = (
    later,
    (added_there after.waiting new.waiting (later, number) reopens.8, (next, (reopened_notes at).1 noted.0, reopens.6)),
    below,
  )

  reopened_noted : AreNoted task.graph after → IsStored after number x mark → AreNoted task.graph new
  reopened_noted noted at =
      let notes = reopened_notes at in (
        notes.0 noted.0,
        λ j z l there.
            let before = kept_back after new j z l reopens.7 there in
            let was = noted.1 j z l before in
            ⊎_elim
            (λ same.
            let one : was.0 ≡ reopens.0 = (let both = sym was.1 ∙ ap (λ k. slice_get after.openings k) same ∙ reopens.2 in cc) in (
              next,
              ap (λ k. slice_get new.openings k) same ∙ notes.1 noted.0,
              subst (λ n. task.graph.shown z next.bound n) (sym (reopens.4 ∙ ap (λ (o : Opening). o.note) (sym one)))
                  (subst (λ n. task.graph.shown z n was.0.note) (sym (reopens.3 ∙ ap (λ (o : Opening). o.bound) (sym one))) was.2),
            ))
            (λ ne. (was.0, notes.2 noted.0 j ne ∙ was.1, was.2))
            (cases_eq j number),
      )

  -- it was open at what was taken, which is less
  reopened_rises : (f : ℕ) → IsWhereOpen after number (weighed_cost task.strategy mark) f
      → f < later → opens_at (weighed_cost task.strategy mark) reopens.0 < later
  reopened_rises f (last, there, at) lt =
      let one : last ≡ reopens.0 = (let both = sym there ∙ reopens.2 in cc) in
      let level = ap (λ o. o.over) one in
      omega (arith, lt, at, level)

  -- what is noted of each key stays
  reopened_bound : AreNoted task.graph after → IsStored after number x mark → (j : ℕ) → bound_at new j ≡ bound_at after j
  reopened_bound noted at j =
      let notes = reopened_notes at in
      ⊎_elim
      (λ same. ap (bound_at new) same ∙ ap bound_in (notes.1 noted.0) ∙ reopens.3 ∙ sym (ap bound_in reopens.2) ∙ ap (bound_at after) (sym same))
      (λ ne. ap bound_in (notes.2 noted.0 j ne))
      (cases_eq j number)

  reopened_f : AreNoted task.graph after → IsStored after number x mark → (j : ℕ) (l : Mark) → f_of task new j l ≡ f_of task after j l
  reopened_f noted at j l = ap (λ b. weigh task.strategy.weight l.cost b) (reopened_bound noted at j)

  reopened_sound : IsSound task after → IsStored after number x mark → f_of task after number mark ≤ later
      → IsNearLimit {K = K} task.limit task.strategy.weight.times (Later later) → IsSound task new
  reopened_sound sound at high near = record {
    room = (let size = ap length reopens.7 in let room = sound.room in omega (arith, size, room));
    once = λ i j y m n a b. sound.once i j y m n (kept_back after new i y m reopens.7 a) (kept_back after new j y n reopens.7 b);
    reached = λ i y m a. sound.reached i y m (kept_back after new i y m reopens.7 a);
    low = λ i y m a. sound.low i y m (kept_back after new i y m reopens.7 a);
    comes = λ i y m a. subst (λ es. Comes task.graph (record { stored = es; waiting = new.waiting; openings = new.openings }) i y m)
        (sym reopens.7) (sound.comes i y m (kept_back after new i y m reopens.7 a));
    needed = λ i y m a. sound.needed i y m (kept_back after new i y m reopens.7 a);
    starts = λ y d start. kept_has after new y d reopens.7 (sound.starts y d start);
    pairs = λ h i there. ⊎_elim
        (λ same. (
          x,
          mark,
          subst (λ es. slice_get es i ≡ Some (x, mark)) (sym reopens.7) (subst (λ k. IsStored after k x mark) (ap (λ p. p.1) same) at),
          omega (arith, high, ap (λ p. p.0) same, reopened_f sound.noted at i mark, ap (λ k. f_of task after k mark) (sym (ap (λ p. p.1) same))),
        ))
        (λ before.
        let was = sound.pairs h i before in
        (was.0, was.1, subst (λ es. slice_get es i ≡ Some (was.0, was.1)) (sym reopens.7) was.2, omega (arith, was.3, reopened_f sound.noted at i was.1)))
        (added_cases after.waiting new.waiting (later, number) (h, i) reopens.8 there);
    noted = reopened_noted sound.noted at;
    under = λ i y m a n wins reach. omega (arith, sound.under i y m (kept_back after new i y m reopens.7 a) n wins reach, reopened_bound sound.noted at i);
    near = λ h i there. ⊎_elim
        (λ same n wins reach. subst (λ k. k ≤ task.strategy.weight.times * n) (ap (λ p. p.0) same)
        (limit_within task.limit task.strategy.weight.times later n near reach))
        (λ before. sound.near h i before)
        (added_cases after.waiting new.waiting (later, number) (h, i) reopens.8 there);
  }

  reopened_others : IsSound task after → IsStored after number x mark → (j : ℕ) (y : K) (l : Mark) → (j ≡ number → ⊥)
      → IsOpenOrExpanded task after j y l → IsOpenOrExpanded task new j y l
  reopened_others sound at j y l ne h = elim h [
    | inl is_open ↦ inl (subst (IsOpenAt new j (weighed_cost task.strategy l)) (sym (reopened_f sound.noted at j l))
        (still_open task.graph after new next number j (weighed_cost task.strategy l) (later, number) (f_of task after j l) reopens.8
        (reopened_notes at) sound.noted ne is_open))
    | inr (inl done) ↦ inr (inl (kept_expanded task after new y l.cost reopens.7 done))
    | inr (inr is_open) ↦ inr (inr (by task.strategy.expansion is_open))
  ]
    where
      by : (expansion : Expansion) → IsOpenLater expansion task after j y l → IsOpenLater expansion task new j y l
      by expansion.Full is_open = absurd is_open
      by expansion.Partial (f, is_open, below) = (
        f,
        still_open task.graph after new next number j (weighed_cost task.strategy l) (later, number) f reopens.8 (reopened_notes at) sound.noted ne is_open,
        kept_below task after new y l.cost f reopens.7 below,
      )

module _ {K : Type 0} (task : Task K) where
  module _ (lawful : IsLawful task.graph) (heavy : task.strategy.weight.parts ≤ task.strategy.weight.times) (old new : Store K) (kept : IsKept task old) where
    module _ (number : ℕ) (f : ℕ) (x : K) (mark : Mark) (mid : Store K) (taken : IsTaken old mid f number x mark)
        (present : IsWhereOpen old number (weighed_cost task.strategy mark) f) (not_won : task.graph.won x → ⊥)
        (children : List (Child K)) (are : AreChildren task.graph x children) (after : Store K) where
      high : f_of task old number mark ≤ f
      high = taken_high task old mid f number x mark kept.sound taken

      -- what is noted of it
      abbrev last : Opening
      last = (kept.sound.noted.1 number x mark taken.stands).0

      last_shown : task.graph.shown x (bound_at old number) last.note
      last_shown =
          let was = kept.sound.noted.1 number x mark taken.stands in
          subst (λ n. task.graph.shown x n last.note) (sym (ap bound_in was.1)) was.2

      floor : IsFloor task.graph task.strategy.weight f
      floor = least_floor task lawful heavy old f number kept (added_there mid.waiting old.waiting (f, number) taken.taken) taken.least

      -- what is done once the children were offered
      abbrev Offered : Placing K → Type 0
      Offered placing = Done task number x mark (bound_at old number) last.note last_shown f high floor heavy children mid after placing

      offered : (placing : Placing K) → Expands task f (record { cost = mark.cost; parent = number }) children mid after placing
          → Offered placing
      offered placing expands =
          expands_done task number x mark (bound_at old number) last.note last_shown f high floor heavy lawful children mid after placing are.edges
          (record {
            sound = taken_sound task old mid f number kept.sound taken.kept taken.noted taken.taken;
            settled = λ j y l ne at. others_settled task old mid f number x mark kept taken j y l (λ h is same e. ne e) at;
            stands = subst (λ es. slice_get es number ≡ Some (x, mark)) (sym taken.kept) taken.stands;
            noted = same_bound old mid number taken.noted;
            present = (present.0, ap (λ os. slice_get os number) taken.noted ∙ present.1, present.2);
            done = λ lt. kept_done task.strategy.expansion task old mid x mark.cost f taken.kept
                (below_least task old f number kept taken.least number x mark taken.stands
                (omega (arith, lt, same_f task old mid number mark taken.noted)));
          })
          expands

      -- each edge's end is stored, or can wait until what the children were put off to
      ends : (placing : Placing K) → ((child : Child K) → Contains children child → IsPlaced task number x mark (bound_at old number) last.note last_shown f high floor heavy after placing child)
          → (c : ℕ) (y : K) → task.graph.edge x c y
          → IsMet task.limit task.graph after y (mark.cost + c) ⊎ ((h : ℕ) → placing ≡ Later h → h ≤ weigh task.strategy.weight (mark.cost + c) (task.graph.bound y))
      ends placing all c y edge =
          let child = are.whole c y edge in
          ⊎_elim
          (λ met. inl (subst (λ v. IsMet task.limit task.graph after v (mark.cost + c)) child.2
          (more_met task.limit task.graph after child.0.key (mark.cost + child.0.cost) (mark.cost + c)
          (let le = child.3 in omega (arith, le)) met)))
          (λ off. inr (λ h is. subst (λ v. h ≤ weigh task.strategy.weight (mark.cost + c) (task.graph.bound v)) child.2
          (let near : h ≤ weigh task.strategy.weight (mark.cost + child.0.cost) (task.graph.bound child.0.key) =
          subst (λ p. PutOffTo p (weigh task.strategy.weight (mark.cost + child.0.cost) (task.graph.bound child.0.key))) is off in
          let le = mul-le-mul_left task.strategy.weight.parts child.3 in omega (arith, near, le))))
          (all child.0 child.1)

      closed_kept : (placing : Placing K) → Offered placing → Closes after new number (weighed_cost task.strategy mark) placing None → IsKept task new
      closed_kept Whole (inl (past, doing, stays, all, less, near)) (same, none) = subst (IsKept task) (sym same) (record {
        sound = doing.sound;
        settled = λ j y l at. ⊎_elim
            (λ e.
            let both = same_entry after number y x l mark (subst (λ k. IsStored after k y l) e at) doing.stands in
            inr (inl (subst (λ v. IsExpanded task after v l.cost) (sym both.0)
            (subst (λ m. IsExpanded task after x m.cost) (sym both.1) (
              not_won,
              λ c z edge. ⊎_elim (λ has. has) (λ off. stored c z edge) (ends Whole all c z edge),
            )))))
            (λ ne. doing.settled j y l ne at)
            (cases_eq j number);
      })
        where
          stored : (c : ℕ) (z : K) → task.graph.edge x c z → IsMet task.limit task.graph after z (mark.cost + c)
          stored c z edge =
              let child = are.whole c z edge in
              ⊎_elim
              (λ met. subst (λ v. IsMet task.limit task.graph after v (mark.cost + c)) child.2
              (more_met task.limit task.graph after child.0.key (mark.cost + child.0.cost) (mark.cost + c)
              (let le = child.3 in omega (arith, le)) met))
              (λ off. absurd off)
              (all child.0 child.1)
      closed_kept Whole (inr (y, out, gave_up)) closes = absurd (cc)
      closed_kept (Later later) (inl (past, doing, stays, all, less, near)) (reopens, none) =
          let level : f_of task after number mark ≡ f_of task old number mark = ap (λ b. weigh task.strategy.weight mark.cost b) doing.noted in
          let up : f_of task after number mark ≤ later = omega (arith, past.0, high, level) in record {
            sound = reopened_sound task after new number x mark later reopens doing.sound doing.stands up near;
            settled = λ j y l at.
                let before = kept_back after new j y l reopens.7 at in
                ⊎_elim
                (λ e.
                let both = same_entry after number y x l mark (subst (λ k. IsStored after k y l) e before) doing.stands in
                inr (inr (subst (λ k. IsOpenLater task.strategy.expansion task new k y l) (sym e)
                (subst (λ v. IsOpenLater task.strategy.expansion task new number v l) (sym both.0)
                (subst (λ m. IsOpenLater task.strategy.expansion task new number x m) (sym both.1)
                (reopened_later task after new number x mark later reopens task.strategy.expansion past.1 doing.sound.noted doing.stands (
                  not_won,
                  λ c z edge. ⊎_elim
                      (λ met. inl (kept_met task.limit task.graph after new z (mark.cost + c) reopens.7 met))
                      (λ off. inr (off later refl))
                      (ends (Later later) all c z edge),
                )))))))
                (λ ne. reopened_others task after new number x mark later reopens doing.sound doing.stands j y l ne (doing.settled j y l ne before))
                (cases_eq j number);
          }
      closed_kept (Later later) (inr (y, out, gave_up)) closes = absurd (cc)
      closed_kept (NoRoom y) done (same, out) = absurd (none-some y out)

      closed_given_up : (placing : Placing K) (y : K) → Offered placing → Closes after new number (weighed_cost task.strategy mark) placing (Some y)
          → IsGivenUp task new y number
      closed_given_up Whole y done (same, out) = absurd (none-some y (sym out))
      closed_given_up (Later later) y done (reopens, out) = absurd (none-some y (sym out))
      closed_given_up (NoRoom z) y (inl (past, doing, stays, all, less, near)) closes = absurd past
      closed_given_up (NoRoom z) y (inr (u, is, gave_up)) (same, out) =
          let one : u ≡ y = cc in
          subst (λ s. IsGivenUp task s y number) (sym same) (subst (λ v. IsGivenUp task after v number) one gave_up)

      closed_less : (placing : Placing K) → Offered placing → Closes after new number (weighed_cost task.strategy mark) placing None
          → work_left task.strategy.budget new < work_left task.strategy.budget old
      closed_less placing done closes =
          let first = taken_work task.strategy.budget old mid (f, number) taken.kept taken.noted taken.taken in
          let rest = by placing done closes in
          omega (arith, first, rest)
        where
          by : (placing : Placing K) → Offered placing → Closes after new number (weighed_cost task.strategy mark) placing None
              → work_left task.strategy.budget new ≤ work_left task.strategy.budget mid
          by Whole (inl (past, doing, stays, all, less, near)) (same, none) =
              subst (λ s. work_left task.strategy.budget s ≤ work_left task.strategy.budget mid) (sym same) less
          by Whole (inr (y, out, gave_up)) closes = absurd (cc)
          by (Later later) (inl (past, doing, stays, all, less, near)) (reopens, none) =
              let again = reopened_work task.strategy.budget after new number (weighed_cost task.strategy mark) reopens.0 later reopens.2
              (reopened_rises task after new number x mark later reopens f doing.present past.0) reopens in
              omega (arith, again, less)
          by (Later later) (inr (y, out, gave_up)) closes = absurd (cc)
          by (NoRoom y) done (same, out) = absurd (none-some y out)

    abbrev Work : ℕ → Option K → Type 0
    Work number left_out = ExpandsTaken task old new number left_out

    work_kept : (number : ℕ) → Work number None → IsKept task new
    work_kept number (f, x, mark, mid, taken, not_won, present, (children, are, (after, placing, expands, closes))) =
        closed_kept number f x mark mid taken present not_won children are after placing
        (offered number f x mark mid taken present not_won children are after placing expands) closes

    work_given_up : (number : ℕ) (y : K) → Work number (Some y) → IsGivenUp task new y number
    work_given_up number y (f, x, mark, mid, taken, not_won, present, (children, are, (after, placing, expands, closes))) =
        closed_given_up number f x mark mid taken present not_won children are after placing y
        (offered number f x mark mid taken present not_won children are after placing expands) closes

    work_less : (number : ℕ) → Work number None → work_left task.strategy.budget new < work_left task.strategy.budget old
    work_less number (f, x, mark, mid, taken, not_won, present, (children, are, (after, placing, expands, closes))) =
        closed_less number f x mark mid taken present not_won children are after placing
        (offered number f x mark mid taken present not_won children are after placing expands) closes

    -- a turn that leaves the search running leaves less to do
    pub takes_less : Advances task old new Running → work_left task.strategy.budget new < work_left task.strategy.budget old
    takes_less t = ⊎_elim
        (λ dropped. taken_work task.strategy.budget old new (dropped.0, dropped.1) dropped.4.kept dropped.4.noted dropped.4.taken)
        (λ work. work_less work.0 work.1)
        t

    drop_kept : DropsTaken task old new → IsKept task new
    drop_kept (f, number, x, mark, taken, not_won, stale) = record {
      sound = taken_sound task old new f number kept.sound taken.kept taken.noted taken.taken;
      settled = λ j y l at. others_settled task old new f number x mark kept taken j y l
          (λ h is same e.
          let there = kept_back old new j y l taken.kept at in
          let both = same_entry old number y x l mark (subst (λ k. IsStored old k y l) e there) taken.stands in
          stale_elsewhere old number (weighed_cost task.strategy mark) f h stale
          (subst (λ m. IsAt task old number m h) both.1 (subst (λ k. IsAt task old k l h) e is)) same) at;
    }

    won_found : (number : ℕ) → Advances task old new (Won number) → IsFound task new number
    won_found number (f, x, mark, taken, won) =
        let high = taken_high task old new f number x mark kept.sound taken in (
          taken_sound task old new f number kept.sound taken.kept taken.noted taken.taken,
          (
            x,
            mark,
            subst (λ es. slice_get es number ≡ Some (x, mark)) (sym taken.kept) taken.stands,
            won,
            λ i y m at lt. kept_done task.strategy.expansion task old new y m.cost (weighed_cost task.strategy mark) taken.kept
                (less_done task.strategy.expansion task old y m.cost (weighed_cost task.strategy mark) f (omega (arith, high))
                (below_least task old f number kept taken.least i y m (kept_back old new i y m taken.kept at)
                (omega (arith, lt, high, same_f task old new i m taken.noted)))),
            λ i y m ne at. others_settled task old new f number x mark kept taken i y m (λ h is same e. ne e) at,
          ),
        )

    none_exhausted : Advances task old new CannotWin → IsExhausted task new
    none_exhausted (empty, same) = subst (IsExhausted task) (sym same) (
      kept.sound,
      λ i y m at. elim (kept.settled i y m at) [
        | inl is_open ↦ absurd (none_waits (f_of task old i m) i is_open.0)
        | inr (inl done) ↦ done
        | inr (inr later) ↦ absurd (by task.strategy.expansion i y m later)
      ],
    )
      where
        none_waits : (f i : ℕ) → Contains old.waiting (f, i) → ⊥
        none_waits f i waits = let p = subst (λ ps. Contains ps (f, i)) empty waits in omega (arith, p.1)

        by : (expansion : Expansion) (i : ℕ) (y : K) (m : Mark) → IsOpenLater expansion task old i y m → ⊥
        by expansion.Full i y m later = later
        by expansion.Partial i y m (f, is_open, below) = none_waits f i is_open.0

    -- what a search holds after a turn
    pub takes_holds : (status : Status K) → Advances task old new status → Holds task new status
    takes_holds Running t = ⊎_elim (λ dropped. drop_kept dropped) (λ work. work_kept work.0 work.1) t
    takes_holds (Won number) t = won_found number t
    takes_holds CannotWin t = none_exhausted t
    takes_holds (GaveUp y number) t = work_given_up number y t
    takes_holds Stopped t = absurd t

  -- what a search that is done shows
  pub holds_shows : IsLawful task.graph → task.strategy.weight.parts ≤ task.strategy.weight.times → (s : Store K) (status : Status K) → Holds task s status → Shows task s status
  holds_shows lawful heavy s Running h = tt
  holds_shows lawful heavy s (Won number) (sound, (x, mark, at, won, done, settled)) =
      let reached = sound.reached number x mark at in (
        x,
        mark,
        at,
        won,
        reached,
        lawful.answers x mark.cost reached won,
        none_below task lawful heavy s (weighed_cost task.strategy mark) sound done
            (λ n wins reach. let le = open_under task.strategy.weight mark.cost (bound_at s number) n heavy (sound.under number x mark at n wins reach) in omega (arith, le)),
      )
  holds_shows lawful heavy s CannotWin (sound, done) = λ n wins. ⊎_elim (λ reach. reach)
      (λ up.
      let closed = closed_inside task s (suc n) sound (λ i x m at lt. expanded_covered task s x m.cost (suc n) up (done i x m at)) in
      absurd (let over = lawful.closed (suc n) (rows s) closed n wins in omega (arith, over)))
      (limit_cases task.limit n)
  holds_shows lawful heavy s (GaveUp y number) (sound, full, fresh, needed, came, others) =
      let keys : List K = keys_of s.stored ++ y ∷ [] in
      let many : length keys ≡ task.strategy.budget + 1 = (let room = sound.room in let l = length-keys_of s.stored in omega (arith, length_push (keys_of s.stored) y, room, l, full)) in (
        keys,
        record {
          many = many;
          once = λ i j x a b. ⊎_elim
              (λ one. ⊎_elim
              (λ two. sound.once i j x one.0 two.0 one.1 two.1)
              (λ two. absurd (fresh i one.0 (subst (λ v. IsStored s i v one.0) two.1 one.1)))
              (key_cases s.stored y j x b))
              (λ one. ⊎_elim
              (λ two. absurd (fresh j two.0 (subst (λ v. IsStored s j v two.0) one.1 two.1)))
              (λ two. one.0 ∙ sym two.0)
              (key_cases s.stored y j x b))
              (key_cases s.stored y i x a);
          needed = λ i x a. ⊎_elim
              (λ one. sound.needed i x one.0 one.1)
              (λ last. subst (IsNeeded task.strategy.expansion task.graph task.strategy.weight) (sym last.1) needed)
              (key_cases s.stored y i x a);
        },
      )
  holds_shows lawful heavy s Stopped h = tt
