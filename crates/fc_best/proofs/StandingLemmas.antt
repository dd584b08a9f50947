-- What the searches so far have found and shown, after one more.
use Rattle.std.proofs.Common.{zero, suc, ⊎_elim, ◌≡◌, ◌∙◌, ◌⊎◌, inl, inr, ℕ, ◌-◌, ◌≤◌, Option, Some, None, List, ◌∷◌, length, refl, sym, subst, ap, arith, IsTrue}
use Rattle.std.specs.Prelude.{IfSome, IsSome, All, Contains, false, max}
use Rattle.std.proofs.lemmas.List.Elements.{All-nil, All-cons}
use Rattle.std.proofs.lemmas.List.Sums.{sum_by-cons}
use Rattle.fc_position.specs.Board.{Board}
use Rattle.fc_moves.specs.declared.steps.Move.{Move}
use Rattle.fc_moves.specs.GameRules.{GameRules}
use Rattle.fc_moves.specs.MoveText.{HasText}
use Rattle.fc_moves.specs.Run.{ReachesMore}
use Rattle.fc_answers.specs.Table.{Listing}
use Rattle.fc_answers.specs.declared.answers.TheConstants.{MOST_MOVES}
use Rattle.fc_best_first.specs.Limits.{Ratio}
use Rattle.fc_bound.specs.declared.kinds.BoundKind.{BoundKind}
use Rattle.fc_bound.specs.declared.kinds.BoundKind.TheVariants.{Plain}
use Rattle.fc_methods.specs.Method.{QuestionData}
use Rattle.fc_search.specs.Search.{State}
use Rattle.fc_search.specs.Shown.{HasShown}
use Rattle.fc_best.specs.declared.attempts.Attempt.{Attempt}
use Rattle.fc_best.specs.declared.attempts.Shown.{Shown}
use Rattle.fc_search.specs.declared.listeners.Progress.{Progress}
use Rattle.fc_best.specs.declared.standings.Standing.{Standing}
use Rattle.fc_best.specs.Best.{HasGivenUp, HaveGivenUp, IsListOf, of_search, of_tail, IsOfQuestion}
use Rattle.fc_best.specs.Watch.{IsNoWorse}
use Rattle.fc_search.specs.Watch.{Far}
use Rattle.fc_best.specs.inner.Attempt.{HasNoTable, IsAttempt, IsEnd, IsFoundIn, IsGivenUp, IsGoodList, IsShownIn, IsTableOf, Raises, ShowsNone, floor_of}
use Rattle.fc_best.specs.inner.Standing.{AllGaveUp, IsLeastOf, IsShorter, IsShownBy, Stands, greater, limit_of, look_with, newest, with_share}
use Rattle.fc_best.specs.inner.Watch.{IsAfter, IsFurther, floor_shown}

-- the first of a list is one of it, and so is one of the rest
pub first_of : {X : Type 0} (x : X) (xs : List X) → Contains (x ∷ xs) x
first_of x xs = (0, omega arith, refl)

pub rest_of : {X : Type 0} (x y : X) (xs : List X) → Contains xs y → Contains (x ∷ xs) y
rest_of x y xs (k, lt, is) = (suc k, omega (arith, lt), is)

-- what holds of what is there holds of it by what follows
pub if_some : {X : Type 0} (P Q : X → Type 0) (o : Option X) → ((x : X) → P x → Q x) → IfSome o P → IfSome o Q
if_some P Q None follows is = tt
if_some P Q (Some x) follows is = follows x is

-- of two numbers one is no greater
in_order : (n m : ℕ) → (n ≤ m) ⊎ (m ≤ n)
in_order zero m = inl (omega arith)
in_order (suc n) zero = inr (omega arith)
in_order (suc n) (suc m) = ⊎_elim (λ le. inl (omega (arith, le))) (λ le. inr (omega (arith, le))) (in_order n m)

-- a list that rests on searches rests on them and one more
list_after : (g : GameRules) (b : Board) (ended : State) (searches tails : List State) (moves : List Move) → IsListOf g b searches tails moves
    → IsListOf g b (ended ∷ searches) tails moves
list_after g b ended searches tails moves (of_search ms found) =
    of_search ms (record { one = found.one; of_these = rest_of ended found.one searches found.of_these; found = found.found })
list_after g b ended searches tails moves (of_tail ms front old tail one parts of shorter of_these there found) =
    of_tail ms front old tail one parts (list_after g b ended searches tails _ of) shorter of_these there found

-- and so does what was shown
shown_after : (q : QuestionData) (ended : State) (searches : List State) (floor : Option ℕ) → IsShownBy q searches floor → IsShownBy q (ended ∷ searches) floor
shown_after q ended searches None is =
    record { one = is.one; of_these = rest_of ended is.one searches is.of_these; shown = is.shown }
shown_after q ended searches (Some n) is =
    record { one = is.one; of_these = rest_of ended is.one searches is.of_these; bound = is.bound; shown = is.shown }

-- what the search itself showed rests on it
shown_first : (q : QuestionData) (kind : BoundKind) (ended : State) (searches : List State) (floor : Option ℕ) → ended.problem.method.bound ≡ kind
    → IfSome floor (λ n. kind ≡ q.method.bound) → HasShown ended floor → IsShownBy q (ended ∷ searches) floor
shown_first q kind ended searches None by bound shown = record { one = ended; of_these = first_of ended searches; shown = shown }
shown_first q kind ended searches (Some n) by bound shown =
    record { one = ended; of_these = first_of ended searches; bound = by ∙ bound; shown = shown }

-- a table of a question with another weight and budget is one of the question
tabled_so : (q : QuestionData) (b : Board) (weight : Ratio) (share : ℕ) (floor : Option ℕ) (table : Option Listing) → share ≤ q.method.strategy.budget
    → IfSome table (IsTableOf (with_share q weight share) b floor) → IfSome table (IsTableOf q b floor)
tabled_so q b weight share floor None within h = tt
tabled_so q b weight share floor (Some table) within h =
    record { rule = h.rule; bound = h.bound; few = (let few = h.few in omega (arith, few, within)); backed = h.backed }

-- what is shown newly, or was before, is so, and rests on the searches
newest_shown : (q : QuestionData) (kind : BoundKind) (b : Board) (weight : Ratio) (share : ℕ) (ended : State) (searches : List State) (new old : Option Shown)
    → share ≤ q.method.strategy.budget → ended.problem.method.bound ≡ kind → IfSome new (IsShownIn (with_share q weight share) b ended)
    → IfSome new (λ end. IfSome end.floor (λ n. kind ≡ q.method.bound))
    → IfSome old (λ end. IsEnd q b end × IsShownBy q searches end.floor)
    → IfSome (newest new old) (λ end. IsEnd q b end × IsShownBy q (ended ∷ searches) end.floor)
newest_shown q kind b weight share ended searches (Some end) old within by is bound was =
    ((is.0.0, tabled_so q b weight share end.floor end.table within is.0.1), shown_first q kind ended searches end.floor by bound is.1)
newest_shown q kind b weight share ended searches None (Some end) within by is bound was = (was.0, shown_after q ended searches end.floor was.1)
newest_shown q kind b weight share ended searches None None within by is bound was = tt

-- what holds of both holds of the newest
newest_both : {X : Type 0} (P : X → Type 0) (new old : Option X) → IfSome new P → IfSome old P → IfSome (newest new old) P
newest_both P (Some x) old is was = is
newest_both P None old is was = was

-- what holds of two lists holds of the shorter one
pub shorter_both : (P : List Move → Type 0) (new old list : Option (List Move)) → IsShorter new old list → IfSome new P → IfSome old P → IfSome list P
shorter_both P new old list short is was =
    ⊎_elim (λ same. subst (λ o. IfSome o P) (sym same) is) (λ same. subst (λ o. IfSome o P) (sym same) was) short.one

-- where that none wins is shown newly, that is what is shown
none_newly : (new old : Option Shown) → ShowsNone new → ShowsNone (newest new old)
none_newly None old (end, same, none) = absurd (cc)
none_newly (Some x) old is = is

-- all gave up, with the greater budget, where one more did
more_gave_up : (q : QuestionData) (b : Board) (searches : List State) (ended : State) (shown new : Option Shown) (before : Option ℕ) (told : ℕ)
    → AllGaveUp q b searches shown before → IsGivenUp q.game b ended told → told ≤ q.method.strategy.budget
    → AllGaveUp q b (ended ∷ searches) new (greater before (Some told))
more_gave_up q b searches ended shown new None told (none, unshown) is few = (
  record {
    each = All-cons HasGivenUp ended searches is.gave_up (subst (All HasGivenUp) (sym none) (All-nil HasGivenUp));
    one = ended;
    of_these = first_of ended searches;
    budgeted = is.budgeted;
    earned = is.earned;
  },
  few,
  is.more,
)
more_gave_up q b searches ended shown new (Some before) told (have, least, reaches) is few =
    let each = All-cons HasGivenUp ended searches is.gave_up have.each in
    ⊎_elim
    (λ (le : before ≤ told). let greatest : told ≡ max before told = omega (arith, le) in
    subst (λ n. HaveGivenUp (ended ∷ searches) n × (n ≤ q.method.strategy.budget) × ReachesMore q.game b n) greatest
    (record { each = each; one = ended; of_these = first_of ended searches; budgeted = is.budgeted; earned = is.earned }, few, is.more))
    (λ (le : told ≤ before). let greatest : before ≡ max before told = omega (arith, le) in
    subst (λ n. HaveGivenUp (ended ∷ searches) n × (n ≤ q.method.strategy.budget) × ReachesMore q.game b n) greatest
    (record { each = each; one = have.one; of_these = rest_of ended have.one searches have.of_these; budgeted = have.budgeted; earned = have.earned }, least, reaches))
    (in_order before told)

-- where no list is found, it is shown that none wins, or all gave up
none_found : (q : QuestionData) (b : Board) (searches : List State) (ended : State) (old new : Option Shown) (before told : Option ℕ)
    → (ShowsNone old → ⊥) → ShowsNone old ⊎ AllGaveUp q b searches old before
    → IfSome told (λ n. IsGivenUp q.game b ended n × (n ≤ q.method.strategy.budget)) → (told ≡ None → ShowsNone new)
    → ShowsNone (newest new old) ⊎ AllGaveUp q b (ended ∷ searches) (newest new old) (greater before told)
none_found q b searches ended old new before None going was is none = inl (none_newly new old (none refl))
none_found q b searches ended old new before (Some told) going (inl shown) is none = absurd (going shown)
none_found q b searches ended old new before (Some told) going (inr gave) is none =
    inr (more_gave_up q b searches ended old (newest new old) before told gave is.0 is.1)

-- what was given up with is no more than the budget, of which it is a share
given_so : (q : QuestionData) (b : Board) (ended : State) (share : ℕ) (told : Option ℕ) → share ≤ q.method.strategy.budget
    → IfSome told (λ n. IsGivenUp q.game b ended n × (n ≤ share)) → IfSome told (λ n. IsGivenUp q.game b ended n × (n ≤ q.method.strategy.budget))
given_so q b ended share None all h = tt
given_so q b ended share (Some told) all h = (h.0, let few = h.1 in omega (arith, few, all))

-- the floor that is told is the one that is shown
raised_from : (before : Option ℕ) (n new floor : ℕ) → IfSome before (λ m. n ≡ m) → (before ≡ None → ⊥) → Raises before (Some floor) → new ≡ max n floor
    → new ≡ floor
raised_from None n new floor least going raises most = absurd (going refl)
raised_from (Some m) n new floor least going raises most = omega (arith, least, raises, most)

raised_to : (old : Option Shown) (n new floor : ℕ) → IsLeastOf old n → (ShowsNone old → ⊥) → Raises (floor_of old) (Some floor) → new ≡ max n floor
    → new ≡ floor
raised_to None n new floor none going raises most = omega (arith, none, most)
raised_to (Some end) n new floor least going raises most = raised_from end.floor n new floor least (λ none. going (end, refl, none)) raises most

least_with : (old : Option Shown) (floor : Option ℕ) (n new : ℕ) → IsLeastOf old n → (ShowsNone old → ⊥) → Raises (floor_of old) floor
    → new ≡ max n (floor_shown floor) → IfSome floor (λ m. new ≡ m)
least_with old None n new least going raises most = tt
least_with old (Some floor) n new least going raises most = raised_to old n new floor least going raises most

pub least_after : (one old : Option Shown) (n new : ℕ) → IsLeastOf old n → (ShowsNone old → ⊥)
    → IfSome one (λ end. Raises (floor_of old) end.floor) → new ≡ max n (floor_shown (floor_of one)) → IsLeastOf (newest one old) new
least_after None old n new least going raises most = let same : n ≡ new = omega (arith, most) in subst (IsLeastOf old) same least
least_after (Some end) old n new least going raises most = least_with old end.floor n new least going raises most

-- what the searches tell is no worse than before
pub rises_after : (old list : Option (List Move)) (before far : Progress) → before.shortest ≡ limit_of old → far.shortest ≡ limit_of list
    → IfSome old (λ moves. (shorter : List Move) × (list ≡ Some shorter) × (length shorter ≤ length moves)) → before.at_least ≤ far.at_least
    → IsNoWorse (Far before) (Far far)
rises_after None list before far was is kept least = record {
  listed = subst (λ o. IfSome o (λ n. (m : ℕ) × (far.shortest ≡ Some m) × (m ≤ n))) (sym was) tt;
  least = least;
}
rises_after (Some moves) list before far was is (shorter, same, le) least = record {
  listed = subst (λ o. IfSome o (λ n. (m : ℕ) × (far.shortest ≡ Some m) × (m ≤ n))) (sym was) (length shorter, is ∙ ap limit_of same, le);
  least = least;
}

pub after_rises : (q : QuestionData) (b : Board) (old : Standing) (new list : Option (List Move)) (last far : Progress) (shown : Option ℕ) → Stands q b old
    → IsFurther old.far last → IsShorter new old.list list → IsAfter last shown (limit_of list) far → IsNoWorse (Far old.far) (Far far)
after_rises q b old new list last far shown (searches, tails, was) further short after =
    rises_after old.list list old.far far was.told.shortest after.shortest short.kept
    (let same = further.at_least in let most = after.at_least in omega (arith, same, most))

pub after_stands : (q : QuestionData) (kind : BoundKind) (b : Board) (weight : Ratio) (share : ℕ) (old : Standing) (attempt : Attempt) (last new : Progress)
    (list : Option (List Move)) (shown : Option Shown) (most : Option ℕ) → Stands q b old → IsFurther old.far last
    → IsAfter last (floor_of attempt.shown) (limit_of list) new → IsShorter attempt.list old.list list → shown ≡ newest attempt.shown old.shown
    → most ≡ greater old.given_up attempt.given_up → (ShowsNone old.shown → ⊥) → share ≤ old.left → attempt.stored ≤ old.left
    → IfSome attempt.shown (λ end. Raises (floor_of old.shown) end.floor) → (IsTrue old.has_table → IfSome attempt.shown (λ end. IsSome end.table))
    → (old.has_table ≡ false → HasNoTable attempt.shown)
    → IsAttempt (with_share q weight share) kind b (limit_of old.list) attempt
    → Stands q b (record {
      list = list;
      shown = shown;
      left = old.left - attempt.stored;
      given_up = most;
      has_table = old.has_table;
      open_share = attempt.open_share;
      far = new;
    })
after_stands q kind b weight share old attempt last new list shown most (searches, tails, was) further after short ends gave going within room raised made unmade is = (
  is.ended ∷ searches,
  tails,
  record {
    asked = All-cons (IsOfQuestion q b) is.ended searches
        (record { game = is.asked.game; start = is.asked.start; rule = is.asked.rule; bound = is.asked.bound; weight = is.asked.weight; budget = is.asked.budget; over = is.asked.over }) was.asked;
    middle = was.middle;
    spent = let sum = sum_by-cons (λ (e : State). length e.store.stored) is.ended searches in let size = is.stored in let all = was.spent in omega (arith, sum, size, all, room);
    list = shorter_both (λ moves. IsGoodList q.game b moves × IsListOf q.game b (is.ended ∷ searches) tails moves) attempt.list old.list list short
        (if_some (IsFoundIn q.game b is.ended) (λ moves. IsGoodList q.game b moves × IsListOf q.game b (is.ended ∷ searches) tails moves) attempt.list
        (λ moves found. (found.0, of_search moves (record { one = is.ended; of_these = first_of is.ended searches; found = found.1 }))) is.list)
        (if_some (λ moves. IsGoodList q.game b moves × IsListOf q.game b searches tails moves)
        (λ moves. IsGoodList q.game b moves × IsListOf q.game b (is.ended ∷ searches) tails moves) old.list
        (λ moves good. (good.0, list_after q.game b is.ended searches tails moves good.1)) was.list);
    shown = subst (λ o. IfSome o (λ (end : Shown). IsEnd q b end × IsShownBy q (is.ended ∷ searches) end.floor)) (sym ends)
        (newest_shown q kind b weight share is.ended searches attempt.shown old.shown (let all = was.spent in omega (arith, all, within)) is.by_kind is.shown is.bound was.shown);
    none = λ nothing.
        let both = short.none nothing in
        subst (λ g. ShowsNone shown ⊎ AllGaveUp q b (is.ended ∷ searches) shown g) (sym gave)
        (subst (λ o. ShowsNone o ⊎ AllGaveUp q b (is.ended ∷ searches) o (greater old.given_up attempt.given_up)) (sym ends)
        (none_found q b searches is.ended old.shown attempt.shown old.given_up attempt.given_up going (was.none both.1)
        (given_so q b is.ended share attempt.given_up (let all = was.spent in omega (arith, all, within)) is.given_up)
        (λ kept. is.none both.0 kept (ap limit_of both.1))));
    tabled = λ wanted. subst (λ o. IfSome o (λ (end : Shown). IsSome end.table)) (sym ends)
        (newest_both (λ (end : Shown). IsSome end.table) attempt.shown old.shown (made wanted) (was.tabled wanted));
    bare = λ unwanted. subst HasNoTable (sym ends)
        (newest_both (λ (end : Shown). end.table ≡ None) attempt.shown old.shown (unmade unwanted) (was.bare unwanted));
    told = record {
      budget = after.budget ∙ further.budget ∙ was.told.budget;
      least = subst (λ o. IsLeastOf o new.at_least) (sym ends)
          (least_after attempt.shown old.shown old.far.at_least new.at_least was.told.least going raised
          (after.at_least ∙ ap (λ n. max n (floor_shown (floor_of attempt.shown))) further.at_least));
      shortest = after.shortest;
    };
  },
)

-- a list that a search found has few moves
pub attempt_few : (q : QuestionData) (kind : BoundKind) (b : Board) (limit : Option ℕ) (one : Attempt) → IsAttempt q kind b limit one
    → IfSome one.list (λ moves. length moves ≤ MOST_MOVES)
attempt_few q kind b limit one is =
    if_some (IsFoundIn q.game b is.ended) (λ moves. length moves ≤ MOST_MOVES) one.list (λ moves found. found.0.few) is.list

-- what a look for any list found is so of the question by the plain bound
pub look_found : (q asked : QuestionData) (b : Board) (weight : Ratio) (share : ℕ) (limit : Option ℕ) (one : Attempt)
    → asked ≡ look_with q weight share → limit ≡ None → IsAttempt asked asked.method.bound b limit one
    → IsAttempt (look_with q weight share) Plain b None one
look_found q asked b weight share limit one same none is =
    subst (λ a. IsAttempt a a.method.bound b None one) same (subst (λ l. IsAttempt asked asked.method.bound b l one) none is)

-- what a search by a weight and a share found is so of the question
pub attempt_found : (q asked : QuestionData) (b : Board) (weight : Ratio) (share : ℕ) (old limit : Option ℕ) (one : Attempt)
    → asked ≡ with_share q weight share → limit ≡ old → IsAttempt asked asked.method.bound b limit one
    → IsAttempt (with_share q weight share) q.method.bound b old one
attempt_found q asked b weight share old limit one same below is =
    subst (λ a. IsAttempt a a.method.bound b old one) same (subst (λ l. IsAttempt asked asked.method.bound b l one) below is)

-- the list of searches that stand so can be written
pub list_written : (q : QuestionData) (b : Board) (s : Standing) → Stands q b s → IfSome s.list (λ moves. All HasText moves × (length moves ≤ MOST_MOVES))
list_written q b s (searches, tails, is) =
    if_some (λ moves. IsGoodList q.game b moves × IsListOf q.game b searches tails moves) (λ moves. All HasText moves × (length moves ≤ MOST_MOVES)) s.list
    (λ moves good. (good.0.written, good.0.few)) is.list
