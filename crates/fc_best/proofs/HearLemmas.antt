-- What a listener hears of searches, one after the other.
use Rattle.std.proofs.Common.{⊎_elim, ◌≡◌, ◌∙◌, ap, sym, subst, refl, arith, ℕ, suc, ◌≤◌, List, [], ◌∷◌, ◌++◌, length, Option, Some, None}
use Rattle.std.specs.Prelude.{All, AllPairs, IfErr, IfSome, Result, Ok, Err}
use Rattle.std.proofs.lemmas.List.Elements.{All-nil, All-cons, All-append}
use Rattle.std.proofs.lemmas.List.Kept.{AllPairs-cons}
use Rattle.fc_position.specs.Board.{Board}
use Rattle.fc_moves.specs.declared.steps.Move.{Move}
use Rattle.fc_moves.specs.GameRules.{GameRules}
use Rattle.fc_moves.specs.Run.{Wins}
use Rattle.fc_methods.specs.Method.{QuestionData}
use Rattle.fc_search.specs.Watch.{HearsAll, Better, Far, Report}
use Rattle.fc_answers.specs.declared.answers.Verdict.{Verdict}
use Rattle.fc_best.specs.declared.attempts.Shown.{Shown}
use Rattle.fc_search.specs.declared.listeners.Progress.{Progress}
use Rattle.fc_best.specs.declared.standings.Standing.{Standing}
use Rattle.fc_best.specs.Best.{IsFloor}
use Rattle.fc_best.specs.inner.Attempt.{IsEnd, IsGoodList, IsShown}
use Rattle.fc_best.specs.inner.Standing.{IsLeastOf, Stands, limit_of}
use Rattle.fc_best.specs.inner.Watch.{HearsFurther, HearsList, HearsOn, HearsSome, HasNoBetter, IsFurther, IsFurtherTold, IsSoUp, Rises, list_in, with_floor}
use Rattle.fc_best.specs.Watch.{HearsTold, HearsToEnd, IsNoWorse, IsSo, IsTold, IsToldOf, floor_heard, last_list, list_told, moves_heard}

-- what is so holds of a fault, whichever it is
pub if_err : {T E : Type 0} (r : Result T E) (P : Type 0) → P → IfErr r (λ e. P)
if_err (Ok x) P is = tt
if_err (Err e) P is = is

-- after some that were heard more are
hears_both : {L E : Type 0} (hears : L → E → L → Type 0) (old mid new : L) (heard more : List E)
    → HearsAll hears old heard mid → HearsAll hears mid more new → HearsAll hears old (heard ++ more) new
hears_both hears old mid new [] more same rest = subst (λ m. HearsAll hears m more new) same rest
hears_both hears old mid new (far ∷ later) more (next, first, rest) then = (next, first, hears_both hears next mid new later more rest then)

-- the list that was heard last of some and then of others
last_both : (before : Option (List Move × ℕ)) (heard more : List Report) → last_list before (heard ++ more) ≡ last_list (last_list before heard) more
last_both before [] more = refl
last_both before (Far far ∷ later) more = last_both before later more
last_both before (Better moves floor ∷ later) more = last_both (Some (moves, floor)) later more

-- what is told again is no worse
same_listed : (one two : Option ℕ) → two ≡ one → IfSome one (λ n. (m : ℕ) × (two ≡ Some m) × (m ≤ n))
same_listed None two same = tt
same_listed (Some n) two same = (n, same, omega arith)

pub no_worse_same : (one two : Report) → moves_heard two ≡ moves_heard one → floor_heard two ≡ floor_heard one → IsNoWorse one two
no_worse_same one two listed least = record {
  listed = same_listed (moves_heard one) (moves_heard two) listed;
  least = let same = least in omega (arith, same);
}

-- what is no worse than what is no worse is so
listed_on : (one two three : Option ℕ) → IfSome one (λ n. (m : ℕ) × (two ≡ Some m) × (m ≤ n))
    → IfSome two (λ n. (m : ℕ) × (three ≡ Some m) × (m ≤ n)) → IfSome one (λ n. (m : ℕ) × (three ≡ Some m) × (m ≤ n))
listed_on None two three first second = tt
listed_on (Some n) two three (m, same, le) second =
    let more = subst (λ o. IfSome o (λ k. (j : ℕ) × (three ≡ Some j) × (j ≤ k))) same second in
    (more.0, more.1, let next = more.2 in omega (arith, le, next))

pub no_worse_on : (one two three : Report) → IsNoWorse one two → IsNoWorse two three → IsNoWorse one three
no_worse_on one two three first second = record {
  listed = listed_on (moves_heard one) (moves_heard two) (moves_heard three) first.listed second.listed;
  least = let low = first.least in let high = second.least in omega (arith, low, high);
}

-- what got no worse up to one and then up to another did so
rises_first : (one two last : Report) (heard : List Report) → IsNoWorse one two → Rises two heard last → Rises one heard last
rises_first one two last [] first rises = no_worse_on one two last first rises
rises_first one two last (next ∷ later) first (no_worse, rest) = (no_worse_on one two next first no_worse, rest)

rises_both : (first mid last : Report) (heard more : List Report) → Rises first heard mid → Rises mid more last → Rises first (heard ++ more) last
rises_both first mid last [] more one two = rises_first first mid last more one two
rises_both first mid last (next ∷ later) more (no_worse, rest) two = (no_worse, rises_both next mid last later more rest two)

-- then each is no worse than the first, and than those before it
rises_above : (first last : Report) (heard : List Report) → Rises first heard last → All (IsNoWorse first) heard
rises_above first last [] rises = All-nil (IsNoWorse first)
rises_above first last (next ∷ later) (no_worse, rest) =
    All-cons (IsNoWorse first) next later no_worse (λ k d within. no_worse_on first next _ no_worse (rises_above next last later rest k d within))

rises_pairs : (first last : Report) (heard : List Report) → Rises first heard last → AllPairs IsNoWorse heard
rises_pairs first last [] rises = λ i j d lt within. absurd (omega (arith, lt, within))
rises_pairs first last (next ∷ later) (no_worse, rest) =
    AllPairs-cons IsNoWorse next later (rises_above next last later rest) (rises_pairs next last later rest)

-- while one search goes on nothing changes, and no list is heard
further_rises : (before : Progress) (first last : Report) (heard : List Report) → IsFurtherTold before first → All (IsFurtherTold before) heard
    → IsNoWorse (Far before) last → Rises first heard last
further_rises before (Better moves floor) last heard none all no_worse = absurd none
further_rises before (Far first) last [] one all no_worse =
    no_worse_on (Far first) (Far before) last (no_worse_same (Far first) (Far before) (sym one.shortest) (sym one.at_least)) no_worse
further_rises before (Far first) last (Better moves floor ∷ later) one all no_worse =
    let none : ⊥ = all 0 (Far first) (omega arith) in absurd none
further_rises before (Far first) last (Far far ∷ later) one all no_worse =
    let next : IsFurther before far = all 0 (Far first) (omega arith) in (
      no_worse_same (Far first) (Far far) (next.shortest ∙ sym one.shortest) (next.at_least ∙ sym one.at_least),
      further_rises before (Far far) last later next (λ k d within. all (suc k) d (omega (arith, within))) no_worse,
    )

further_keeps : (before : Progress) (list : Option (List Move × ℕ)) (heard : List Report) → All (IsFurtherTold before) heard → last_list list heard ≡ list
further_keeps before list [] all = refl
further_keeps before list (Far far ∷ later) all = further_keeps before list later (λ k d within. all (suc k) d (omega (arith, within)))
further_keeps before list (Better moves floor ∷ later) all = let none : ⊥ = all 0 (Better moves floor) (omega arith) in absurd none

-- there is a list of as many moves as are told
listed_so : (g : GameRules) (b : Board) (P : List Move → Type 0) (list : Option (List Move)) (told : Option ℕ)
    → IfSome list (λ moves. IsGoodList g b moves × P moves) → told ≡ limit_of list
    → IfSome told (λ n. (moves : List Move) × Wins g b moves × (length moves ≡ n))
listed_so g b P None told good same = subst (λ o. IfSome o (λ n. (moves : List Move) × Wins g b moves × (length moves ≡ n))) (sym same) tt
listed_so g b P (Some moves) told good same =
    subst (λ o. IfSome o (λ n. (moves : List Move) × Wins g b moves × (length moves ≡ n))) (sym same) (moves, good.0.wins, refl)

-- the floor that is told is one
least_by : (g : GameRules) (b : Board) (floor : Option ℕ) (n : ℕ) → IsShown g b floor → IfSome floor (λ m. n ≡ m) → IsFloor g b n
least_by g b None n none same = λ moves wins. absurd (none moves wins)
least_by g b (Some m) n floor same = subst (IsFloor g b) (sym same) floor

least_so : (q : QuestionData) (b : Board) (P : Shown → Type 0) (shown : Option Shown) (n : ℕ) → IfSome shown (λ end. IsEnd q b end × P end)
    → IsLeastOf shown n → IsFloor q.game b n
least_so q b P None n is none = λ moves wins. omega (arith, none)
least_so q b P (Some end) n is same = least_by q.game b end.floor n is.0.0 same

module _ (q : QuestionData) (b : Board) where
  -- how far searches are that stand so
  pub told_stands : (s : Standing) → Stands q b s → IsTold q b s.far
  told_stands s (searches, tails, is) = record {
    budgeted = is.told.budget;
    least = least_so q b _ s.shown s.far.at_least is.shown is.told.least;
    listed = listed_so q.game b _ s.list s.far.shortest is.list is.told.shortest;
  }

  -- and so is what is told after that
  told_further : (before far : Progress) → IsTold q b before → IsFurther before far → IsTold q b far
  told_further before far told further = record {
    budgeted = further.budget ∙ told.budgeted;
    least = subst (IsFloor q.game b) (sym further.at_least) told.least;
    listed = subst (λ o. IfSome o (λ n. (moves : List Move) × Wins q.game b moves × (length moves ≡ n))) (sym further.shortest) told.listed;
  }

  -- what is heard after that is so
  further_so : (before : Progress) (heard : List Report) → IsTold q b before → All (IsFurtherTold before) heard → All (IsSo q b) heard
  further_so before [] told all = All-nil (IsSo q b)
  further_so before (Far far ∷ later) told all =
      All-cons (IsSo q b) (Far far) later (told_further before far told (all 0 (Far far) (omega arith)))
      (further_so before later told (λ k d within. all (suc k) d (omega (arith, within))))
  further_so before (Better moves floor ∷ later) told all = let none : ⊥ = all 0 (Better moves floor) (omega arith) in absurd none

  -- and so are the list and the floor of searches that stand so
  list_so : (P : List Move → Type 0) (list : Option (List Move)) (moves : List Move) → IfSome list (λ ms. IsGoodList q.game b ms × P ms)
      → list ≡ Some moves → Wins q.game b moves
  list_so P list moves good same = (subst (λ o. IfSome o (λ ms. IsGoodList q.game b ms × P ms)) same good).0.wins

  list_stands : (s : Standing) (moves : List Move) → Stands q b s → s.list ≡ Some moves → IsSo q b (Better moves s.far.at_least)
  list_stands s moves (searches, tails, is) same = (list_so _ s.list moves is.list same, (told_stands s (searches, tails, is)).least)

  -- as many moves as are told of it
  count_stands : (s : Standing) → Stands q b s → s.far.shortest ≡ limit_of s.list
  count_stands s (searches, tails, is) = is.told.shortest

  -- a list that is told with its floor is as good as what is told of it
  list_as_told : (s : Standing) (moves : List Move) → Stands q b s → s.list ≡ Some moves → s.far.shortest ≡ Some (length moves)
  list_as_told s moves stands same = count_stands s stands ∙ ap limit_of same

  -- where none is better, the list is the one before
  none_before : (old new : Option ℕ) → IfSome old (λ n. (m : ℕ) × (new ≡ Some m) × (m ≤ n)) → new ≡ None → old ≡ None
  none_before None new kept none = refl
  none_before (Some n) new (m, some, le) none = absurd (cc)

  no_limit : (list : Option (List Move)) → limit_of list ≡ None → list ≡ None
  no_limit None same = refl
  no_limit (Some moves) same = absurd (cc)

  still_listed : (s last : Standing) → Stands q b s → Stands q b last → IsNoWorse (Far s.far) (Far last.far)
      → (limit_of last.list ≡ limit_of s.list → last.list ≡ s.list) → HasNoBetter s.far last → list_in s ≡ list_in last
  still_listed s last was stands no_worse same better =
      ⊎_elim
      (λ (none : last.list ≡ None).
      let before : s.list ≡ None = no_limit s.list (sym (count_stands s was) ∙ none_before s.far.shortest last.far.shortest no_worse.listed (count_stands last stands ∙ ap limit_of none)) in
      ap (λ o. with_floor o s.far.at_least) before ∙ sym (ap (λ o. with_floor o last.far.at_least) none))
      (λ (equal : (last.far.shortest ≡ s.far.shortest) × (last.far.at_least ≡ s.far.at_least)).
      let one : last.list ≡ s.list = same (sym (count_stands last stands) ∙ equal.0 ∙ count_stands s was) in
      ap (λ o. with_floor o s.far.at_least) (sym one) ∙ ap (λ n. with_floor last.list n) (sym equal.1))
      better

  module _ {L : Type 0} (hears : L → Report → L → Type 0) where
    pub hears_none : (s : Standing) (old new : L) → new ≡ old → HearsOn hears q b s s old new
    hears_none s old new same = ([], same, (All-nil (IsSo q b), no_worse_same (Far s.far) (Far s.far) refl refl), refl)

    pub hears_more : (first mid last : Standing) (old between new : L) → HearsOn hears q b first mid old between
        → HearsOn hears q b mid last between new → HearsOn hears q b first last old new
    hears_more first mid last old between new (heard, hearing, (told, rises), list) (more, then, (so, on), next) = (
      heard ++ more,
      hears_both hears old between new heard more hearing then,
      (All-append (IsSo q b) heard more told so, rises_both (Far first.far) (Far mid.far) (Far last.far) heard more rises on),
      last_both (list_in first) heard more ∙ ap (λ o. last_list o more) list ∙ next,
    )

    pub some_more : (first mid : Standing) (old between new : L) → HearsOn hears q b first mid old between
        → HearsSome hears q b mid between new → HearsSome hears q b first old new
    some_more first mid old between new (heard, hearing, (told, rises), list) (more, last, then, (so, on)) = (
      heard ++ more,
      last,
      hears_both hears old between new heard more hearing then,
      (All-append (IsSo q b) heard more told so, rises_both (Far first.far) (Far mid.far) last heard more rises on),
    )

    -- where the searches so far stand so, and one more is heard after them
    hears_search : (s : Standing) (last : Report) (old new : L) → Stands q b s → HearsFurther hears s.far old new → IsNoWorse (Far s.far) last
        → (heard : List Report) × HearsAll hears old heard new × IsSoUp q b (Far s.far) heard last × (last_list (list_in s) heard ≡ list_in s)
    hears_search s last old new stands (heard, hearing, further) no_worse = (
      heard,
      hearing,
      (
        further_so s.far heard (told_stands s stands) further,
        further_rises s.far (Far s.far) last heard (record { budget = refl; shortest = refl; at_least = refl }) further no_worse,
      ),
      further_keeps s.far (list_in s) heard further,
    )

    pub hears_still : (s : Standing) (old new : L) → Stands q b s → HearsFurther hears s.far old new → HearsOn hears q b s s old new
    hears_still s old new stands further = hears_search s (Far s.far) old new stands further (no_worse_same (Far s.far) (Far s.far) refl refl)

    pub some_further : (s : Standing) (old new : L) → Stands q b s → HearsFurther hears s.far old new → HearsSome hears q b s old new
    some_further s old new stands further =
        let on = hears_still s old new stands further in (on.0, Far s.far, on.1, on.2)

    -- and then the list, where it is better
    hears_silent : (s last : Standing) (old mid new : L) → Stands q b s → Stands q b last → HearsFurther hears s.far old mid
        → IsNoWorse (Far s.far) (Far last.far) → (limit_of last.list ≡ limit_of s.list → last.list ≡ s.list)
        → HasNoBetter s.far last × (new ≡ mid) → HearsOn hears q b s last old new
    hears_silent s last old mid new was stands further no_worse same (none, silent) =
        let on = hears_search s (Far last.far) old mid was further no_worse in
        subst (λ l. HearsOn hears q b s last old l) (sym silent) (on.0, on.1, on.2, on.3 ∙ still_listed s last was stands no_worse same none)

    hears_better : (s last : Standing) (moves : List Move) (old mid new : L) → Stands q b s → Stands q b last → HearsFurther hears s.far old mid
        → IsNoWorse (Far s.far) (Far last.far) → last.list ≡ Some moves → hears mid (Better moves last.far.at_least) new
        → HearsOn hears q b s last old new
    hears_better s last moves old mid new was stands further no_worse some hearing =
        let better : Report = Better moves last.far.at_least in
        let equal = list_as_told last moves stands some in
        let up : IsNoWorse (Far last.far) better = no_worse_same (Far last.far) better (sym equal) refl in
        let down : IsNoWorse better (Far last.far) = no_worse_same better (Far last.far) equal refl in
        let (heard, hearing_it, (so, rises), list) = hears_search s (Far last.far) old mid was further no_worse in (
          heard ++ better ∷ [],
          hears_both hears old mid new heard (better ∷ []) hearing_it (new, hearing, refl),
          (
            All-append (IsSo q b) heard (better ∷ []) so (All-cons (IsSo q b) better [] (list_stands last moves stands some) (All-nil (IsSo q b))),
            rises_both (Far s.far) (Far last.far) (Far last.far) heard (better ∷ []) rises (up, down),
          ),
          last_both (list_in s) heard (better ∷ []) ∙ sym (ap (λ o. with_floor o last.far.at_least) some),
        )

    pub hears_listed : (s last : Standing) (old mid new : L) → Stands q b s → Stands q b last → HearsFurther hears s.far old mid
        → IsNoWorse (Far s.far) (Far last.far) → (limit_of last.list ≡ limit_of s.list → last.list ≡ s.list) → HearsList hears s.far last mid new
        → HearsOn hears q b s last old new
    hears_listed s last old mid new was stands further no_worse same told =
        ⊎_elim
        (λ silent. hears_silent s last old mid new was stands further no_worse same silent)
        (λ better. hears_better s last better.0 old mid new was stands further no_worse better.1 better.2)
        told

    -- what was heard from the first search on
    pub some_told : (first : Standing) (old new : L) → HearsSome hears q b first old new → HearsTold hears q b old new
    some_told first old new (heard, last, hearing, (so, rises)) = (heard, (hearing, so, rises_pairs (Far first.far) last heard rises))

    -- and of the verdict last
    pub hears_end : (first last : Standing) (old mid new : L) (verdict : Verdict) → HearsOn hears q b first last old mid → hears mid (Far last.far) new
        → first.list ≡ None → Stands q b last → IsToldOf q b verdict last.far → list_in last ≡ list_told verdict → HearsToEnd hears q b verdict old new
    hears_end first last old mid new verdict (heard, hearing, (so, rises), list) end none stands of_verdict listed =
        let far : Report = Far last.far in
        let still = no_worse_same far far refl refl in (
          heard,
          last.far,
          (
            hears_both hears old mid new heard (far ∷ []) hearing (new, end, refl),
            All-append (IsSo q b) heard (far ∷ []) so (All-cons (IsSo q b) far [] (told_stands last stands) (All-nil (IsSo q b))),
            rises_pairs (Far first.far) far (heard ++ far ∷ []) (rises_both (Far first.far) far far heard (far ∷ []) rises (still, still)),
          ),
          of_verdict,
          sym (ap (λ o. last_list (with_floor o first.far.at_least) heard) none) ∙ list ∙ listed,
        )

    -- it is of what is so, and gets no worse
    pub end_told : (old new : L) (verdict : Verdict) → HearsToEnd hears q b verdict old new → HearsTold hears q b old new
    end_told old new verdict (heard, far, these, of_verdict, listed) = (heard ++ Far far ∷ [], these)
