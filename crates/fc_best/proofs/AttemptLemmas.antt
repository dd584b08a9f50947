-- What a search that ran to its end has found and shown.
use Rattle.std.proofs.Common.{◌≡◌, ◌∙◌, inl, inr, ℕ, ◌≤◌, Option, Some, None, Ok, List, length, refl, sym, subst, ap, arith}
use Rattle.std.specs.Prelude.{IfSome, IfNone, IsSome}
use Rattle.fc_position.specs.Board.{Board}
use Rattle.fc_moves.specs.declared.steps.Move.{Move}
use Rattle.fc_moves.specs.Run.{ReachesMore}
use Rattle.fc_answers.specs.Table.{Listing}
use Rattle.fc_best_first.specs.declared.searches.Step.TheVariants.{Done}
use Rattle.fc_best_first.specs.declared.turns.Status.{Status}
use Rattle.fc_best_first.specs.declared.turns.Status.TheVariants as ends
use Rattle.fc_best_first.specs.Search.{reply_of}
use Rattle.fc_bound.specs.declared.kinds.BoundKind.{BoundKind}
use Rattle.fc_bound.specs.declared.kinds.BoundKind.TheVariants.{Plain}
use Rattle.fc_answers.specs.Answer.{IsBackedWhole}
use Rattle.fc_best_first.specs.Limits.{IsGreatBudget, IsWeight, Ratio}
use Rattle.fc_moves.specs.GameRules.{GameRules}
use Rattle.fc_methods.specs.Method.{QuestionData}
use Rattle.fc_search.specs.Need.{NeedsMore}
use Rattle.fc_search.specs.Problem.{Problem, problem_below}
use Rattle.fc_search.specs.Search.{State, HasRun}
use Rattle.fc_search.specs.Shown.{BacksShown, HasFound, HasFoundBy, HasShown, HasShownBy}
use Rattle.fc_best.specs.declared.attempts.Attempt.{Attempt}
use Rattle.fc_best.specs.declared.attempts.Shown.{Shown}
use Rattle.fc_best.specs.inner.Attempt.{HasNoTable, IsAttempt, IsFoundIn, IsGivenUp, IsGoodList, IsInRange, IsShown, IsShownAt, IsShownIn, IsTableOf, Raises, ShowsNone}
use Rattle.fc_best.specs.inner.Standing.{look_with, loss_by, loss_with, under, with_share}

-- what a search found is a good list
good_by : (s : State) (status : Status (List ℕ)) (moves : List Move) → HasFoundBy s status (Some moves) → IsGoodList s.problem.game s.problem.start moves
good_by s (ends.Won number) moves is = record { wins = is.wins; written = is.written; few = is.short }
good_by s ends.Running moves is = absurd is
good_by s ends.CannotWin moves is = absurd is
good_by s (ends.GaveUp y number) moves is = absurd is
good_by s ends.Stopped moves is = absurd is

found_in : (s : State) (found : Option (List Move)) → HasFound s found → IfSome found (IsFoundIn s.problem.game s.problem.start s)
found_in s None is = tt
found_in s (Some moves) is = (good_by s s.status moves is, is)

-- one that is done, found none, didn't give up and has no limit shows that none wins
lost_shown : (s : State) (status : Status (List ℕ)) → reply_of status ≡ Ok Done → HasFoundBy s status None
    → ((y : List ℕ) (number : ℕ) → status ≡ ends.GaveUp y number → ⊥) → s.problem.limit ≡ None → HasShownBy s status None
lost_shown s ends.Running done none still free = absurd (cc)
lost_shown s ends.Stopped done none still free = absurd (cc)
lost_shown s (ends.Won number) done none still free = absurd none
lost_shown s (ends.GaveUp y number) done none still free = absurd (still y number refl)
lost_shown s ends.CannotWin done none still free = sym free

-- what is shown of a problem is so of its question, and its table is one of the question
table_so : (q : QuestionData) (b : Board) (limit shown : Option ℕ) (table : Option Listing)
    → IfSome table (BacksShown (problem_below q b limit) shown)
    → IfSome table (λ t. (t.rule ≡ q.method.rule) × (t.bound ≡ q.method.bound) × (length t.rows ≤ q.method.strategy.budget))
    → IfSome table (IsTableOf q b shown)
table_so q b limit shown None backs searched = tt
table_so q b limit shown (Some table) backs searched = record { rule = searched.0; bound = searched.1; few = searched.2; backed = backs }

shown_in : (q : QuestionData) (b : Board) (limit : Option ℕ) (s : State) (shown : Option Shown) → s.problem ≡ problem_below q b limit
    → IfSome shown (IsShownAt s) → IfSome shown (IsShownIn q b s)
shown_in q b limit s None same is = tt
shown_in q b limit s (Some end) same is = (
  (
    subst (λ (x : Problem). IsShown x.game x.start end.floor) same is.so,
    table_so q b limit end.floor end.table (subst (λ x. IfSome end.table (BacksShown x end.floor)) same is.backs)
        (subst (λ (x : Problem). IfSome end.table (λ t. (t.rule ≡ x.method.rule) × (t.bound ≡ x.method.bound) × (length t.rows ≤ x.method.strategy.budget))) same is.searched),
  ),
  is.shown,
)

-- a floor is by the bound that it is by
same_floor : (kind : BoundKind) (floor : Option ℕ) → IfSome floor (λ n. kind ≡ kind)
same_floor kind None = tt
same_floor kind (Some n) = refl

by_itself : (kind : BoundKind) (shown : Option Shown) → IfSome shown (λ end. IfSome end.floor (λ floor. kind ≡ kind))
by_itself kind None = tt
by_itself kind (Some end) = same_floor kind end.floor

-- one that gave up did so with its budget
given_up_so : (s : State) (g : Option ℕ)
    → IfSome g (λ told. (told ≡ s.problem.method.strategy.budget) × NeedsMore s.problem × ReachesMore s.problem.game s.problem.start told)
    → IfSome g (λ told. (y : List ℕ) × (number : ℕ) × (s.status ≡ ends.GaveUp y number))
    → IfSome g (λ told. IsGivenUp s.problem.game s.problem.start s told × (told ≤ s.problem.method.strategy.budget))
given_up_so s None earned gave = tt
given_up_so s (Some told) (same, more, reaches) gave = (
  record { gave_up = gave; budgeted = sym same; earned = more; more = reaches },
  let equal = same in omega (arith, equal),
)

-- a number that is missing is missing
none_ends : (s : State) (g : Option ℕ) → g ≡ None → IfNone g ((y : List ℕ) (number : ℕ) → s.status ≡ ends.GaveUp y number → ⊥)
    → (y : List ℕ) (number : ℕ) → s.status ≡ ends.GaveUp y number → ⊥
none_ends s None is still = still
none_ends s (Some told) is still = absurd (cc)

pub attempted : (q : QuestionData) (b : Board) (limit : Option ℕ) (s : State) (list : Option (List Move)) (shown : Option Shown)
    (stored : ℕ) (given_up : Option ℕ) (ajar : ℕ) → s.problem ≡ problem_below q b limit
    → HasRun (problem_below q b limit) s.store s.status → reply_of s.status ≡ Ok Done
    → HasFound s list → IfSome shown (IsShownAt s) → (HasShown s None → ShowsNone shown)
    → IfSome given_up (λ told. (told ≡ s.problem.method.strategy.budget) × NeedsMore s.problem × ReachesMore s.problem.game s.problem.start told)
    → IfSome given_up (λ told. (y : List ℕ) × (number : ℕ) × (s.status ≡ ends.GaveUp y number))
    → IfNone given_up ((y : List ℕ) (number : ℕ) → s.status ≡ ends.GaveUp y number → ⊥)
    → stored ≡ length s.store.stored → stored ≤ s.problem.method.strategy.budget
    → IsInRange q → IsAttempt q q.method.bound b limit
    (record { list = list; shown = shown; stored = stored; given_up = given_up; open_share = ajar })
attempted q b limit s list shown stored given_up ajar same ran done found told lost earned gave still size most range = record {
  ended = s;
  asked = record {
    game = ap (λ x. x.game) same;
    start = ap (λ x. x.start) same;
    rule = ap (λ x. x.method.rule) same;
    bound = inl (ap (λ x. x.method.bound) same);
    weight = subst IsWeight (sym (ap (λ x. x.method.strategy.weight) same)) range.weight;
    budget = subst IsGreatBudget (sym (ap (λ x. x.method.strategy.budget) same)) range.budget;
    over = record { ran = subst (λ x. HasRun x s.store s.status) (sym same) ran; done = done };
  };
  by_kind = ap (λ x. x.method.bound) same;
  limited = ap (λ x. x.limit) same;
  list = subst (λ (x : Problem). IfSome list (IsFoundIn x.game x.start s)) same (found_in s list found);
  shown = shown_in q b limit s shown same told;
  bound = by_itself q.method.bound shown;
  stored = size;
  room = subst (λ (x : Problem). stored ≤ x.method.strategy.budget) same most;
  given_up = subst (λ (x : Problem). IfSome given_up (λ told. IsGivenUp x.game x.start s told × (told ≤ x.method.strategy.budget))) same (given_up_so s given_up earned gave);
  none = λ nothing kept free.
      lost (lost_shown s s.status done (subst (HasFoundBy s s.status) nothing found) (none_ends s given_up kept still) (ap (λ x. x.limit) same ∙ free));
}

-- what lists all that can be reached does so under another bound
whole_by : (g : GameRules) (b : Board) (kind : BoundKind) (table : Listing) → IsBackedWhole g b table
    → IsBackedWhole g b (record { rule = table.rule; bound = kind; rows = table.rows })
whole_by g b kind table is = record {
  listed = record { known = is.listed.known; few = is.listed.few; rising = is.listed.rising; classes = is.listed.classes };
  closed = is.closed;
  free = is.free;
}

-- the table of a look that showed that none wins is one of the question, under its bound
looked_table : (q : QuestionData) (b : Board) (weight : Ratio) (share : ℕ) (kind : BoundKind) (table : Option Listing) → kind ≡ q.method.bound
    → IfSome table (IsTableOf (look_with q weight share) b None) → IfSome (under kind table) (IsTableOf (with_share q weight share) b None)
looked_table q b weight share kind None same is = tt
looked_table q b weight share kind (Some table) same is =
    record { rule = is.rule; bound = same; few = is.few; backed = whole_by q.game b kind table is.backed }

-- what is left of what a look showed is so of the question
looked_end : (q : QuestionData) (b : Board) (weight : Ratio) (share : ℕ) (kind : BoundKind) (s : State) (floor : Option ℕ) (table : Option Listing)
    → kind ≡ q.method.bound → IsShownIn (look_with q weight share) b s (record { floor = floor; table = table })
    → IfSome (loss_with kind floor table) (IsShownIn (with_share q weight share) b s)
looked_end q b weight share kind s (Some floor) table same is = tt
looked_end q b weight share kind s None table same is = ((is.0.0, looked_table q b weight share kind table same is.0.1), is.1)

looked_shown : (q : QuestionData) (b : Board) (weight : Ratio) (share : ℕ) (kind : BoundKind) (s : State) (shown : Option Shown) → kind ≡ q.method.bound
    → IfSome shown (IsShownIn (look_with q weight share) b s) → IfSome (loss_by kind shown) (IsShownIn (with_share q weight share) b s)
looked_shown q b weight share kind s None same is = tt
looked_shown q b weight share kind s (Some end) same is = looked_end q b weight share kind s end.floor end.table same is

-- no floor is left of it
module _ (P : ℕ → Type 0) where
  unfloored_with : (kind : BoundKind) (floor : Option ℕ) (table : Option Listing) → IfSome (loss_with kind floor table) (λ end. IfSome end.floor P)
  unfloored_with kind None table = tt
  unfloored_with kind (Some floor) table = tt

  pub unfloored : (kind : BoundKind) (shown : Option Shown) → IfSome (loss_by kind shown) (λ end. IfSome end.floor P)
  unfloored kind None = tt
  unfloored kind (Some end) = unfloored_with kind end.floor end.table

raised_with : (kind : BoundKind) (least floor : Option ℕ) (table : Option Listing) → IfSome (loss_with kind floor table) (λ end. Raises least end.floor)
raised_with kind None None table = tt
raised_with kind (Some n) None table = tt
raised_with kind least (Some floor) table = tt

pub lost_raises : (kind : BoundKind) (least : Option ℕ) (shown : Option Shown) → IfSome (loss_by kind shown) (λ end. Raises least end.floor)
lost_raises kind least None = tt
lost_raises kind least (Some end) = raised_with kind least end.floor end.table

-- that none wins is left
still_lost_with : (kind : BoundKind) (floor : Option ℕ) (table : Option Listing) → floor ≡ None → ShowsNone (loss_with kind floor table)
still_lost_with kind None table none = (record { floor = None; table = under kind table }, refl, refl)
still_lost_with kind (Some floor) table none = absurd (cc)

still_lost : (kind : BoundKind) (shown : Option Shown) → ShowsNone shown → ShowsNone (loss_by kind shown)
still_lost kind None (end, same, none) = absurd (cc)
still_lost kind (Some now) (end, same, none) =
    still_lost_with kind now.floor now.table (search (same, none))

-- a look is a search of the question, once what it showed is that none wins, with a table under the question's bound
pub looked_attempt : (q : QuestionData) (b : Board) (weight : Ratio) (share : ℕ) (kind : BoundKind) (one : Attempt) (shown : Option Shown)
    → kind ≡ q.method.bound → shown ≡ loss_by kind one.shown → IsAttempt (look_with q weight share) Plain b None one
    → IsAttempt (with_share q weight share) Plain b None
    (record { list = one.list; shown = shown; stored = one.stored; given_up = one.given_up; open_share = one.open_share })
looked_attempt q b weight share kind one shown same left is = record {
  ended = is.ended;
  asked = record { game = is.asked.game; start = is.asked.start; rule = is.asked.rule; bound = inr is.by_kind; weight = is.asked.weight; budget = is.asked.budget; over = is.asked.over };
  by_kind = is.by_kind;
  limited = is.limited;
  list = is.list;
  shown = subst (λ o. IfSome o (IsShownIn (with_share q weight share) b is.ended)) (sym left) (looked_shown q b weight share kind is.ended one.shown same is.shown);
  bound = subst (λ o. IfSome o (λ (end : Shown). IfSome end.floor (λ floor. Plain ≡ q.method.bound))) (sym left) (unfloored (λ floor. Plain ≡ q.method.bound) kind one.shown);
  stored = is.stored;
  room = is.room;
  given_up = is.given_up;
  none = λ nothing kept free. subst ShowsNone (sym left) (still_lost kind one.shown (is.none nothing kept free));
}

-- of a table of what shows that none wins one is made
tabled_with : (kind : BoundKind) (floor : Option ℕ) (table : Option Listing) → IsSome table → IfSome (loss_with kind floor table) (λ end. IsSome end.table)
tabled_with kind (Some floor) table some = tt
tabled_with kind None (Some table) some = refl
tabled_with kind None None some = absurd (cc)

pub lost_tabled : (kind : BoundKind) (shown : Option Shown) → IfSome shown (λ end. IsSome end.table) → IfSome (loss_by kind shown) (λ end. IsSome end.table)
lost_tabled kind None some = tt
lost_tabled kind (Some end) some = tabled_with kind end.floor end.table some

-- and without one where it had none
bare_with : (kind : BoundKind) (floor : Option ℕ) (table : Option Listing) → table ≡ None → HasNoTable (loss_with kind floor table)
bare_with kind (Some floor) table none = tt
bare_with kind None (Some table) none = absurd (cc)
bare_with kind None None none = refl

pub lost_bare : (kind : BoundKind) (shown : Option Shown) → HasNoTable shown → HasNoTable (loss_by kind shown)
lost_bare kind None none = tt
lost_bare kind (Some end) none = bare_with kind end.floor end.table none
