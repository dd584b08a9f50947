-- Lemmas on offering the children of a key one after the other.
use Rattle.std.proofs.Common.{◌≡◌, ◌≢◌, ℕ, ◌+◌, ◌<◌, ◌≤◌, ◌⊎◌, suc, Option, Some, None, List, [], ◌∷◌, ◌++◌, length, refl, sym, ◌∙◌, ap, subst, inl, inr, ⊎_elim, arith}
use Rattle.std.specs.Prelude.{Bool, true, false, Contains, IfSome, IsTrue, MatchOption, min}
use Rattle.std.proofs.Math.Nat.{mul-le-mul_left}
use Rattle.std.proofs.lemmas.List.{length_push}
use Rattle.std.proofs.lemmas.List.Elements.{Contains-append_right}
use Rattle.indexmap.specs.Layout.{length-set_value_at}
use Rattle.fc_best_first.specs.declared.books.Mark.{Mark}
use Rattle.fc_best_first.specs.declared.books.Offered.{Offered}
use Rattle.fc_best_first.specs.declared.books.Offered.TheVariants.{Known, Lowered, Added, Full, PutOff, Past}
use Rattle.fc_best_first.specs.declared.spaces.Child.{Child}
use Rattle.fc_best_first.specs.declared.strategies.Expansion.{Expansion}
use Rattle.fc_best_first.specs.declared.strategies.Expansion.TheVariants as expansion
use Rattle.fc_best_first.specs.declared.strategies.Expansion.TheVariants.{Partial}
use Rattle.fc_best_first.specs.declared.turns.Status.{Status}
use Rattle.fc_best_first.specs.declared.turns.Status.TheVariants.{Running, Won, CannotWin, GaveUp, Stopped}
use Rattle.fc_best_first.specs.declared.turns.Placing.{Placing}
use Rattle.fc_best_first.specs.declared.turns.Placing.TheVariants.{Whole, Later, NoRoom}
use Rattle.fc_best_first.specs.Graph.{Graph, Task, IsReached}
use Rattle.fc_best_first.specs.Limits.{IsWithinLimit, ReachesLimit, weigh}
use Rattle.fc_best_first.specs.Store.{Store, Candidate, Offers, PutsOff}
use Rattle.fc_best_first.specs.Turn.{Advances, AreChildren, Closes, Expands, ExpandsTaken, candidate_of, put_off}
use Rattle.fc_best_first.specs.Kept.{AreNoted}
use Rattle.fc_best_first.specs.inner.Turn.{AreReached, Becomes, IsLaterNear, IsReady, put_off_first}
use Rattle.fc_best_first.specs.declared.books.Opening.{Opening}
use Rattle.fc_best_first.proofs.KeptLemmas.{puts_added, puts_lowered, still_noted}
use Rattle.fc_best_first.proofs.OfferLemmas.{noted_shown, reach_more}

-- a child that found no place is told, whatever was put off before
pub put_off_room : {K : Type 0} (first : Option ℕ) (y : K) → put_off_first first (NoRoom y) ≡ NoRoom y
put_off_room None y = refl
put_off_room (Some f) y = refl

-- one more is put off before the others, and then the first
put_off_next : {K : Type 0} (f g : ℕ) (others : Placing K) → put_off (min f g) others ≡ put_off f (put_off g others)
put_off_next f g Whole = ap Later (omega arith)
put_off_next f g (Later h) = ap Later (omega arith)
put_off_next f g (NoRoom y) = refl

-- where one more was put off, the least counts
pub put_off_least : {K : Type 0} (first : Option ℕ) (f least : ℕ) (others : Placing K)
    → MatchOption first (least ≡ f) (λ before. least ≡ min before f)
    → put_off_first first (put_off f others) ≡ put_off_first (Some least) others
put_off_least None f least others is = ap (λ h. put_off h others) (sym is)
put_off_least (Some before) f least others is = sym (put_off_next before f others) ∙ ap (λ h. put_off h others) (sym is)

pub near_least : (K : Type 0) (expansion : Expansion) (taken cost : ℕ) (first : Option ℕ) (f least : ℕ)
    → IsLaterNear {K = K} expansion taken cost (put_off_first first Whole) → expansion ≡ Partial → taken < f → f ≤ cost + 28050
    → MatchOption first (least ≡ f) (λ before. least ≡ min before f)
    → IsLaterNear {K = K} expansion taken cost (put_off_first (Some least) Whole)
near_least K expansion taken cost None f least near partial lt le is = (partial, omega (arith, lt, is), omega (arith, le, is))
near_least K expansion taken cost (Some before) f least near partial lt le is =
    (partial, omega (arith, lt, is, near.1), omega (arith, le, is, near.2))

-- what was put off before all others
pub first_near : (K : Type 0) (expansion : Expansion) (taken cost : ℕ) (first : Option ℕ)
    → IfSome first (λ f. (expansion ≡ Partial) × (taken < f) × (f ≤ cost + 28050))
    → IsLaterNear {K = K} expansion taken cost (put_off_first first Whole)
first_near K expansion taken cost None near = tt
first_near K expansion taken cost (Some f) near = near

-- what is past what was taken, and near, is past it
pub later_past : (taken most : ℕ) (until : Option ℕ) → IfSome until (λ later. (taken < later) × (later ≤ most)) → IfSome until (λ later. taken < later)
later_past taken most None near = near
later_past taken most (Some later) near = near.0

-- what may leave children out at a first visit alone was one
pub visited_first : (first some : Bool) → (first ≡ false → some ≡ false) → some ≡ true → IsTrue first
visited_first true some later told = refl
visited_first false some later told = let never = later refl in absurd (cc)

-- and twice is once
put_off_again : {K : Type 0} (f : ℕ) (others : Placing K) → put_off f (put_off f others) ≡ put_off f others
put_off_again f Whole = ap Later (omega arith)
put_off_again f (Later g) = ap Later (omega arith)
put_off_again f (NoRoom y) = refl

-- what is put off is put off past what was taken, no further than its own f, and by partial expansion alone
pub off_past : (expansion : Expansion) (taken f later : ℕ) → PutsOff expansion taken f later
    → (taken < later) × (later ≤ f) × (expansion ≡ Partial)
off_past expansion.Full taken f later off = absurd off
off_past expansion.Partial taken f later off = (off.0, off.1, refl)

module _ {K : Type 0} where
  -- no offer goes past the budget
  pub offers_room : (task : Task K) (taken : ℕ) (old new : Store K) (offer : Candidate K) (o : Offered K)
      → length old.stored ≤ task.strategy.budget → Offers task taken old new offer o → length new.stored ≤ task.strategy.budget
  offers_room task taken old new offer Known room (i, was, at, le, same) =
      subst (λ s. length s.stored ≤ task.strategy.budget) (sym same) room
  offers_room task taken old new offer Lowered room (i, was, at, lt, anew, (stored, opened, noted)) =
      let same : length new.stored ≡ length old.stored = ap length stored ∙ length-set_value_at old.stored i offer.mark in
      omega (arith, same, room)
  offers_room task taken old new offer Added room (fresh, opens, admits, short, (lt, stored, opened, noted)) =
      let more = ap length stored ∙ length_push old.stored (offer.key, offer.mark) in
      omega (arith, more, lt)
  offers_room task taken old new offer (Full y) room (fresh, opens, admits, short, (is, full, same)) =
      subst (λ s. length s.stored ≤ task.strategy.budget) (sym same) room
  offers_room task taken old new offer (PutOff later) room (off, within, same) =
      subst (λ s. length s.stored ≤ task.strategy.budget) (sym same) room
  offers_room task taken old new offer Past room (past, same) =
      subst (λ s. length s.stored ≤ task.strategy.budget) (sym same) room

  -- and each keeps what is noted
  pub offers_noted : (task : Task K) (taken : ℕ) (old new : Store K) (offer : Candidate K) (o : Offered K)
      → AreNoted task.graph old → Offers task taken old new offer o → AreNoted task.graph new
  offers_noted task taken old new offer Known noted (i, was, at, le, same) =
      subst (AreNoted task.graph) (sym same) noted
  offers_noted task taken old new offer Lowered noted (i, was, at, lt, (before, there, anew), lowers) =
      still_noted task.strategy.weight task.graph old new offer.key offer.mark offer.opening i
      (puts_lowered task.strategy old new offer.key offer.mark was offer.opening i at lt (before, there, anew) lowers)
      (subst (λ n. task.graph.shown offer.key offer.opening.bound n) (sym anew.2)
      (subst (λ n. task.graph.shown offer.key n before.note) (sym anew.1)
      (noted_shown task.graph old i offer.key was before noted at there))) noted
  offers_noted task taken old new offer Added noted (fresh, opens, admits, short, stores) =
      still_noted task.strategy.weight task.graph old new offer.key offer.mark offer.opening (length old.stored)
      (puts_added task.strategy old new offer fresh stores) opens.1 noted
  offers_noted task taken old new offer (Full y) noted (fresh, opens, admits, short, (is, full, same)) =
      subst (AreNoted task.graph) (sym same) noted
  offers_noted task taken old new offer (PutOff later) noted (off, within, same) =
      subst (AreNoted task.graph) (sym same) noted
  offers_noted task taken old new offer Past noted (past, same) =
      subst (AreNoted task.graph) (sym same) noted

  -- a child that found its place, and the others after it
  pub expands_on : (task : Task K) (taken : ℕ) (origin : Mark) (child : Child K) (children : List (Child K)) (old mid new : Store K)
      (placing : Placing K) (opening : Opening) (o : Offered K) → ((y : K) → o ≡ Full y → ⊥) → ((f : ℕ) → o ≡ PutOff f → ⊥)
      → Offers task taken old mid (candidate_of origin child opening) o
      → Expands task taken origin children mid new placing
      → Expands task taken origin (child ∷ children) old new placing
  expands_on task taken origin child children old mid new placing opening o placed stays offers rest =
      (opening, inr (inl (mid, by o placed stays offers, rest)))
    where
      by : (p : Offered K) → ((y : K) → p ≡ Full y → ⊥) → ((f : ℕ) → p ≡ PutOff f → ⊥)
          → Offers task taken old mid (candidate_of origin child opening) p
          → Offers task taken old mid (candidate_of origin child opening) Known
          ⊎ (Offers task taken old mid (candidate_of origin child opening) Lowered
          ⊎ (Offers task taken old mid (candidate_of origin child opening) Added
          ⊎ Offers task taken old mid (candidate_of origin child opening) Past))
      by Known q s h = inl h
      by Lowered q s h = inr (inl h)
      by Added q s h = inr (inr (inl h))
      by Past q s h = inr (inr (inr h))
      by (Full y) q s h = absurd (q y refl)
      by (PutOff f) q s h = absurd (s f refl)

  -- a child that was put off, and the others after it
  pub expands_off : (task : Task K) (taken : ℕ) (origin : Mark) (child : Child K) (children : List (Child K)) (old mid new : Store K)
      (placing : Placing K) (opening : Opening) (f : ℕ) (o : Offered K) → o ≡ PutOff f
      → Offers task taken old mid (candidate_of origin child opening) o
      → Expands task taken origin children mid new placing
      → Expands task taken origin (child ∷ children) old new (put_off f placing)
  expands_off task taken origin child children old mid new placing opening f o is offers rest =
      let here : Offers task taken old mid (candidate_of origin child opening) (PutOff f) =
      subst (Offers task taken old mid (candidate_of origin child opening)) is offers in (
        opening,
        inr (inr (
          f,
          (here.0, here.1, refl),
          (placing, subst (λ s. Expands task taken origin children s new placing) here.2 rest, refl),
        )),
      )

  -- a child that found no place, whatever others are after it
  pub expands_full : (task : Task K) (taken : ℕ) (origin : Mark) (child : Child K) (children : List (Child K)) (old new : Store K)
      (key : K) (opening : Opening) (o : Offered K) → o ≡ Full key
      → Offers task taken old new (candidate_of origin child opening) o
      → Expands task taken origin (child ∷ children) old new (NoRoom key)
  expands_full task taken origin child children old new key opening o is offers =
      let full : Offers task taken old new (candidate_of origin child opening) (Full key) =
      subst (Offers task taken old new (candidate_of origin child opening)) is offers in
      (opening, inl ((full.0, full.1, full.2, full.3, (refl, full.4.1, full.4.2)), ap NoRoom full.4.0))

  -- none that is stored is lost
  offers_grow : (task : Task K) (taken : ℕ) (old new : Store K) (offer : Candidate K) (o : Offered K)
      → Offers task taken old new offer o → length old.stored ≤ length new.stored
  offers_grow task taken old new offer Known (i, was, at, le, same) =
      let size = ap (λ (s : Store K). length s.stored) same in omega (arith, size)
  offers_grow task taken old new offer Lowered (i, was, at, lt, anew, (stored, opened, noted)) =
      let size = ap length stored ∙ length-set_value_at old.stored i offer.mark in omega (arith, size)
  offers_grow task taken old new offer Added (fresh, opens, admits, short, (lt, stored, opened, noted)) =
      let more = ap length stored ∙ length_push old.stored (offer.key, offer.mark) in omega (arith, more)
  offers_grow task taken old new offer (Full y) (fresh, opens, admits, short, (is, full, same)) =
      let size = ap (λ (s : Store K). length s.stored) same in omega (arith, size)
  offers_grow task taken old new offer (PutOff later) (off, within, same) =
      let size = ap (λ (s : Store K). length s.stored) same in omega (arith, size)
  offers_grow task taken old new offer Past (past, same) =
      let size = ap (λ (s : Store K). length s.stored) same in omega (arith, size)

  pub expands_grow : (task : Task K) (taken : ℕ) (origin : Mark) (children : List (Child K)) (old new : Store K) (placing : Placing K)
      → Expands task taken origin children old new placing → length old.stored ≤ length new.stored
  expands_grow task taken origin [] old new placing (same, whole) =
      let size = ap (λ (s : Store K). length s.stored) same in omega (arith, size)
  expands_grow task taken origin (child ∷ children) old new placing (opening, inl (full, out)) =
      offers_grow task taken old new (candidate_of origin child opening) (Full child.key) full
  expands_grow task taken origin (child ∷ children) old new placing (opening, inr (inl (mid, how, rest))) =
      let first : length old.stored ≤ length mid.stored = ⊎_elim
      (λ known. offers_grow task taken old mid (candidate_of origin child opening) Known known)
      (λ other. ⊎_elim
      (λ lowered. offers_grow task taken old mid (candidate_of origin child opening) Lowered lowered)
      (λ new_one. ⊎_elim
      (λ added. offers_grow task taken old mid (candidate_of origin child opening) Added added)
      (λ past. offers_grow task taken old mid (candidate_of origin child opening) Past past)
      new_one)
      other)
      how in
      let then = expands_grow task taken origin children mid new placing rest in
      omega (arith, first, then)
  expands_grow task taken origin (child ∷ children) old new placing (opening, inr (inr (later, off, (others, rest, is)))) =
      expands_grow task taken origin children old new others rest

  -- a key of which children were put off can be opened again
  pub placing_ready : (expansion : Expansion) (g : Graph K) (s : Store K) (number taken cost : ℕ) (placing : Placing K)
      → AreNoted g s → number < length s.stored → cost ≤ taken → IsLaterNear expansion taken cost placing
      → IsReady s number cost placing
  placing_ready expansion g s number taken cost Whole noted lt le near = tt
  placing_ready expansion g s number taken cost (Later f) noted lt le near =
      let long = noted.0 in
      (omega (arith, long, lt), (let past = near.1 in omega (arith, past, le)), near.2)
  placing_ready expansion g s number taken cost (NoRoom y) noted lt le near = tt

  -- a turn that expands a key, by what becomes of it
  pub becomes_advances : (task : Task K) (old after new : Store K) (number cost : ℕ) (placing : Placing K)
      → ((left_out : Option K) → Closes after new number cost placing left_out → ExpandsTaken task old new number left_out)
      → (status : Status K) → Becomes after new number cost placing status → Advances task old new status
  becomes_advances task old after new number cost placing works Running closes = inr (number, works None closes)
  becomes_advances task old after new number cost placing works (GaveUp y from) (closes, same) =
      subst (λ n. ExpandsTaken task old new n (Some y)) (sym same) (works (Some y) closes)
  becomes_advances task old after new number cost placing works (Won n) h = absurd h
  becomes_advances task old after new number cost placing works CannotWin h = absurd h
  becomes_advances task old after new number cost placing works Stopped h = absurd h

  -- the children of a key that was reached can be reached
  pub children_reached : (g : Graph K) (x : K) (children : List (Child K)) → ((d : ℕ) × IsReached g x d) → AreChildren g x children
      → AreReached g children
  children_reached g x children (d, (edges, reached)) are child there =
      let edge = are.edges child there in
      (d + child.cost, (suc edges, (x, d, child.cost, reached, edge, refl)))

  -- children that are left out are put off together, or are past the limit, before the others are offered
  module _ (task : Task K) (taken : ℕ) (origin : Mark) (old new : Store K) (opening : Opening) where
    -- such a child
    abbrev pub IsLeftOut : ℕ → Child K → Type 0
    IsLeftOut bound child = (1 ≤ child.cost) × (bound ≤ task.graph.bound child.key)

    left_off : (bound later : ℕ) (child : Child K) → task.strategy.expansion ≡ Partial → taken < later
        → later ≡ weigh task.strategy.weight (origin.cost + 1) bound → IsLeftOut bound child
        → PutsOff task.strategy.expansion taken (weigh task.strategy.weight (origin.cost + child.cost) (task.graph.bound child.key)) later
    left_off bound later child partial lt is left =
        let cost = mul-le-mul_left task.strategy.weight.parts left.0 in
        let far = mul-le-mul_left task.strategy.weight.times left.1 in
        subst (λ e. PutsOff e taken (weigh task.strategy.weight (origin.cost + child.cost) (task.graph.bound child.key)) later) (sym partial)
        (lt, omega (arith, is, cost, far))

    expands_together : (bound later : ℕ) (children : List (Child K)) (child : Child K) (others : List (Child K)) (placing : Placing K)
        → task.strategy.expansion ≡ Partial → taken < later → later ≡ weigh task.strategy.weight (origin.cost + 1) bound
        → IsWithinLimit task.limit task.strategy.weight.times later
        → ((c : Child K) → Contains (child ∷ others) c → IsLeftOut bound c) → Expands task taken origin children old new placing
        → Expands task taken origin (child ∷ others ++ children) old new (put_off later placing)
    expands_together bound later children child [] placing partial lt is within left rest = (
      opening,
      inr (inr (
        later,
        (left_off bound later child partial lt is (left child (0, omega arith, refl)), within, refl),
        (placing, rest, refl),
      )),
    )
    expands_together bound later children child (next ∷ more) placing partial lt is within left rest = (
      opening,
      inr (inr (
        later,
        (left_off bound later child partial lt is (left child (0, omega arith, refl)), within, refl),
        (
          put_off later placing,
          expands_together bound later children next more placing partial lt is within
              (λ c there. left c (Contains-append_right (child ∷ []) (next ∷ more) c there)) rest,
          sym (put_off_again later placing),
        ),
      )),
    )

    expands_past : (bound : ℕ) (children others : List (Child K)) (placing : Placing K) → ReachesLimit task.limit (origin.cost + 1 + bound)
        → ((child : Child K) → Contains others child → IsLeftOut bound child) → Expands task taken origin children old new placing
        → Expands task taken origin (others ++ children) old new placing
    expands_past bound children [] placing past left rest = rest
    expands_past bound children (child ∷ others) placing past left rest = (
      opening,
      inr (inl (
        old,
        inr (inr (inr (
          reach_more task.limit (origin.cost + 1 + bound) (origin.cost + child.cost + task.graph.bound child.key)
              (omega (arith, (left child (0, omega arith, refl)).0, (left child (0, omega arith, refl)).1)) past,
          refl,
        ))),
        expands_past bound children others placing past (λ c there. left c (Contains-append_right (child ∷ []) others c there)) rest,
      )),
    )

    pub expands_left : (bound : ℕ) (children others : List (Child K)) (until : Option ℕ) (placing : Placing K) → task.strategy.expansion ≡ Partial
        → MatchOption until (ReachesLimit task.limit (origin.cost + 1 + bound))
        (λ later. (later ≡ weigh task.strategy.weight (origin.cost + 1) bound) × IsWithinLimit task.limit task.strategy.weight.times later)
        → IfSome until (λ later. taken < later) → others ≢ [] → ((child : Child K) → Contains others child → IsLeftOut bound child)
        → Expands task taken origin children old new placing → Expands task taken origin (others ++ children) old new (put_off_first until placing)
    expands_left bound children others None placing partial past lt some left rest = expands_past bound children others placing past left rest
    expands_left bound children [] (Some later) placing partial is lt some left rest = absurd (some refl)
    expands_left bound children (child ∷ others) (Some later) placing partial is lt some left rest =
        expands_together bound later children child others placing partial lt is.0 is.1 left rest

    -- where none is left out, these are all
    pub none_left : (children others : List (Child K)) (placing : Placing K) → ((others ≢ []) → ⊥) → Expands task taken origin children old new placing
        → Expands task taken origin (others ++ children) old new placing
    none_left children [] placing none rest = rest
    none_left children (child ∷ others) placing none rest = absurd (none (λ e. cc))
