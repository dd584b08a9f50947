-- What boards along a list, one by one, say of the whole list.
use Rattle.std.proofs.Common.{inl, inr, ◌<◌, ◌≤◌, ◌≡◌, ◌∙◌, ◌⊎◌, ℕ, ◌+◌, Option, Some, None, Result, Ok, Err, List, [], ◌∷◌, ◌++◌, length, take, drop, refl, sym, subst, ap, arith}
use Rattle.fc_position.specs.Position.{IsWon}
use Rattle.fc_moves.proofs.StepLemmas.{run_once}
use Rattle.std.specs.Prelude.{All, Bool, Contains, IfOk, IsTrue, ◌↔◌, IsSomeAnd, MatchOption}
use Rattle.std.proofs.lemmas.List.Elements.{All-contains, All-weaker}
use Rattle.std.proofs.lemmas.List.{take-append-drop}
use Rattle.std.proofs.lemmas.Option.{none-some}
use Rattle.fc_position.specs.Board.{Board}
use Rattle.fc_moves.specs.declared.steps.Move.{Move}
use Rattle.fc_moves.specs.GameRules.{GameRules}
use Rattle.fc_moves.specs.Run.{Run, Wins}
use Rattle.fc_answers.specs.declared.answers.Verdict.{Verdict}
use Rattle.fc_answers.specs.declared.answers.Verdict.TheVariants.{Shortest, Won, CannotWin, GaveUp}
use Rattle.fc_methods.specs.Method.{QuestionData}
use Rattle.fc_best.specs.Best.{IsBestVerdict}
use Rattle.fc_review.specs.Review.{IsAsked, IsBoardAfter, IsKnownAlong, IsLastWon, IsLostAfter, IsOpenAfter, IsReview, IsTraceOf, IsUnsettled, IsWonAfter, Loses, SaysAll, TellsList, first_behind}
use Rattle.fc_review.proofs.SpanLemmas.{all_said}
use Rattle.fc_review.specs.declared.known_boards.KnownBoard.{KnownBoard}
use Rattle.fc_review.specs.declared.reviews.Review.{Review}

-- a front of a list that runs does so
front_runs : (g : GameRules) (b d : Board) (ms ns : List Move) → Run g b (ms ++ ns) d → (c : Board) × Run g b ms c
front_runs g b d [] ns run = (b, refl)
front_runs g b d (m ∷ ms) ns (mid, step, rest) = let on = front_runs g mid d ms ns rest in (on.0, (mid, step, on.1))

pub front_of_run : (h g : GameRules) (b : Board) (n : ℕ) (all front : List Move) → h ≡ g → ((d : Board) × Run g b all d) → front ≡ take n all
    → (c : Board) × Run h b front c
front_of_run h g b n all front game (d, run) same =
    let whole = subst (λ l. Run g b l d) (sym (take-append-drop n all)) run in
    let on = front_runs g b d (take n all) (drop n all) whole in
    (on.0, subst (λ x. Run x b front on.0) (sym game) (subst (λ l. Run g b l on.0) (sym same) on.1))

-- a best verdict that none wins says so
lost_known : (q : QuestionData) (b : Board) (moves : List Move) (known : KnownBoard) → IsKnownAlong q b moves known → known.verdict ≡ CannotWin
    → IsLostAfter q.game b moves known.after
lost_known q b moves known is lost =
    let best = subst (λ v. IsBestVerdict q is.board v) lost is.best in (is.board, is.after, best.right)

-- and one that gave up
open_known : (q : QuestionData) (b : Board) (moves : List Move) (known : KnownBoard) (told : ℕ) → IsKnownAlong q b moves known → known.verdict ≡ GaveUp told
    → IsOpenAfter q b moves known.after
open_known q b moves known told is up = (is.board, is.after, (told, subst (λ v. IsBestVerdict q is.board v) up is.best))

-- a list that is told wins
wins_told : (q : QuestionData) (b : Board) (verdict : Verdict) → IsBestVerdict q b verdict → TellsList verdict → (list : List Move) × Wins q.game b list
wins_told q b (Shortest moves) best told = (moves, best.right.wins)
wins_told q b (Won moves floor) best told = (moves, best.right.0)
wins_told q b CannotWin best told = absurd told
wins_told q b (GaveUp up) best told = absurd told

-- a verdict that tells no list and no loss gave up
not_lost : (verdict : Verdict) → (TellsList verdict → ⊥) → (verdict ≡ CannotWin) ⊎ ((told : ℕ) × (verdict ≡ GaveUp told))
not_lost (Shortest moves) none = absurd (none tt)
not_lost (Won moves floor) none = absurd (none tt)
not_lost CannotWin none = inl refl
not_lost (GaveUp told) none = inr (told, refl)

-- the move between a board from which a list wins and a lost one loses
loses : (q : QuestionData) (b : Board) (moves : List Move) (known : KnownBoard) (n : ℕ) → IsWonAfter q b moves known → IsLostAfter q.game b moves n
    → n ≡ known.after + 1 → Loses q.game b moves known.after
loses q b moves known n (is, tells) lost place = record {
  before = is.board;
  there = is.after;
  won = wins_told q is.board known.verdict is.best tells;
  lost = subst (IsLostAfter q.game b moves) place lost;
}

-- what is known of the last won board and of the first lost one
won_known : (q : QuestionData) (b : Board) (moves : List Move) (asked : List KnownBoard) (won : KnownBoard) → All (IsKnownAlong q b moves) asked
    → IsLastWon asked (Some won) → IsWonAfter q b moves won
won_known q b moves asked won known is = (All-contains (IsKnownAlong q b moves) asked won known is.0.0, is.0.1)

zero_past : (n : ℕ) → 0 ≡ n + 1 → ⊥
zero_past n same = omega (arith, same)

-- a lost board right behind the last won one is the first lost one
next_lost : (asked : List KnownBoard) (count : ℕ) (won : KnownBoard) (lost : Option ℕ) (known : KnownBoard) → IsSomeAnd lost (λ n. n ≤ known.after)
    → known.after ≡ won.after + 1
    → MatchOption lost (IsAsked asked count) (λ h. (won.after + 1 ≤ h) × ((h ≡ 0) ⊎ ((last : ℕ) × (h ≡ last + 1) × IsAsked asked last)))
    → lost ≡ Some (won.after + 1)
next_lost asked count won None known some same before = absurd some
next_lost asked count won (Some n) known most same before =
    let exact : n ≡ won.after + 1 = omega (arith, most, same, before.0) in ap Some exact

-- it isn't known which move loses, by a board behind the last won one that is lost, or gave up
at_lost : (q : QuestionData) (b : Board) (moves : List Move) (asked : List KnownBoard) (won : Option KnownBoard) (lost : Option ℕ) (k : KnownBoard)
    → IsTraceOf asked (length moves) (record { won = won; lost = lost }) → IsKnownAlong q b moves k → Contains asked k → k.after ≡ first_behind won → k.verdict ≡ CannotWin
    → ((known : KnownBoard) → won ≡ Some known → lost ≡ Some (known.after + 1) → ⊥) → IsUnsettled q b moves
at_lost q b moves asked None lost k is known there place loss fine =
    inr (inl (subst (IsLostAfter q.game b moves) place (lost_known q b moves k known loss)))
at_lost q b moves asked (Some won) lost k is known there place loss fine =
    let first = All-contains (λ known. known.verdict ≡ CannotWin → IsSomeAnd lost (λ n. n ≤ known.after)) asked k is.lost.1 there loss in
    absurd (fine won refl (next_lost asked (length moves) won lost k first place is.before))

at_asked : (q : QuestionData) (b : Board) (moves : List Move) (asked : List KnownBoard) (won : Option KnownBoard) (lost : Option ℕ) (k : KnownBoard)
    → IsTraceOf asked (length moves) (record { won = won; lost = lost }) → IsKnownAlong q b moves k → Contains asked k → k.after ≡ first_behind won
    → (k.verdict ≡ CannotWin) ⊎ ((told : ℕ) × (k.verdict ≡ GaveUp told))
    → ((known : KnownBoard) → won ≡ Some known → lost ≡ Some (known.after + 1) → ⊥) → IsUnsettled q b moves
at_asked q b moves asked won lost k is known there place (inl loss) fine = at_lost q b moves asked won lost k is known there place loss fine
at_asked q b moves asked won lost k is known there place (inr (told, up)) fine = inr (inr (k.after, open_known q b moves k told known up))

-- no list is told from a board behind the last won one
past_won : (asked : List KnownBoard) (won : Option KnownBoard) (k : KnownBoard) → IsLastWon asked won → Contains asked k → k.after ≡ first_behind won
    → TellsList k.verdict → ⊥
past_won asked won k is there place tells =
    let before = All-contains (λ known. TellsList known.verdict → known.after < first_behind won) asked k is.1 there tells in omega (arith, before, place)

at_behind : (q : QuestionData) (b : Board) (moves : List Move) (asked : List KnownBoard) (won : Option KnownBoard) (lost : Option ℕ)
    → All (IsKnownAlong q b moves) asked → IsTraceOf asked (length moves) (record { won = won; lost = lost })
    → (first_behind won ≡ length moves + 1) ⊎ IsAsked asked (first_behind won)
    → ((known : KnownBoard) → won ≡ Some known → lost ≡ Some (known.after + 1) → ⊥) → IsUnsettled q b moves
at_behind q b moves asked None lost known is (inl past) fine = absurd (zero_past (length moves) past)
at_behind q b moves asked (Some won) lost known is (inl last) fine =
    inl (won, won_known q b moves asked won known is.won, omega (arith, last))
at_behind q b moves asked won lost known is (inr (k, there, place)) fine =
    at_asked q b moves asked won lost k is (All-contains (IsKnownAlong q b moves) asked k known there) there place
    (not_lost k.verdict (past_won asked won k is.won there place)) fine

-- where it isn't known which move loses
pub unsettled : (q : QuestionData) (b : Board) (moves : List Move) (review : Review) → IsReview q b moves review
    → ((known : KnownBoard) → review.won ≡ Some known → review.lost ≡ Some (known.after + 1) → ⊥) → IsUnsettled q b moves
unsettled q b moves review is none = at_behind q b moves is.asked review.won review.lost is.known is.trace is.trace.behind none

-- it isn't known, as the last won board isn't the one before the first lost one, or there is none
after_or : Option KnownBoard → ℕ
after_or None = 0
after_or (Some known) = known.after

count_or : Option ℕ → ℕ
count_or None = 0
count_or (Some n) = n

same_after : (k l : KnownBoard) → Some k ≡ Some l → k.after ≡ l.after
unfolding after_or
same_after k l same = ap after_or same

same_count : (m n : ℕ) → Some m ≡ Some n → m ≡ n
unfolding count_or
same_count m n same = ap count_or same

pub unsettled_between : (q : QuestionData) (b : Board) (moves : List Move) (review : Review) (won : KnownBoard) (n : ℕ) → review.won ≡ Some won
    → review.lost ≡ Some n → (n ≡ won.after + 1 → ⊥) → IsReview q b moves review → IsUnsettled q b moves
unsettled_between q b moves review won n same-won same-lost apart is = unsettled q b moves review is
    (λ known same next. apart (same_count n (known.after + 1) (sym same-lost ∙ next) ∙ ap (λ a. a + 1) (same_after known won (sym same ∙ same-won))))

pub unsettled_won : (q : QuestionData) (b : Board) (moves : List Move) (review : Review) (won : KnownBoard) → review.won ≡ Some won → review.lost ≡ None
    → IsReview q b moves review → IsUnsettled q b moves
unsettled_won q b moves review won same-won same-lost is = unsettled q b moves review is
    (λ known same next. none-some (known.after + 1) (sym same-lost ∙ next))

pub unsettled_none : (q : QuestionData) (b : Board) (moves : List Move) (review : Review) → review.won ≡ None → IsReview q b moves review
    → IsUnsettled q b moves
unsettled_none q b moves review same-won is = unsettled q b moves review is (λ known same next. none-some known (sym same-won ∙ same))

-- what is known by the boards along a list that were asked is a review of it
pub reviewed_by : {J E : Type 0} (P : J → KnownBoard → Type 0) (old new : J) (q : QuestionData) (b : Board) (moves : List Move) (r : Result Review E)
    → ((known : KnownBoard) → P old known → IsKnownAlong q b moves known)
    → IfOk r (λ review. (asked : List KnownBoard) × SaysAll (λ o known n. (n ≡ o) × P o known) old asked new × IsTraceOf asked (length moves) review)
    → IfOk r (IsReview q b moves)
reviewed_by P old new q b moves (Ok review) along (asked, said, trace) = record {
  asked = asked;
  known = All-weaker (P old) (IsKnownAlong q b moves) along asked (all_said P old new asked said);
  trace = trace;
}
reviewed_by P old new q b moves (Err refused) along trace = tt

-- a list wins where the board to which it leads is won
pub wins_by : (g : GameRules) (b c : Board) (moves : List Move) (t : Bool) → Run g b moves c → (IsTrue t ↔ IsWon c) → IsTrue t ↔ Wins g b moves
wins_by g b c moves t run won = (λ yes. (c, run, won.0 yes), λ wins. won.1 (subst IsWon (run_once g b wins.0 c moves wins.1 run) wins.2))

-- the board after a front of a list
pub is_after : (g : GameRules) (b c : Board) (moves front : List Move) (count : ℕ) → count ≤ length moves → front ≡ take count moves → Run g b front c
    → IsBoardAfter g b moves count c
is_after g b c moves front count within same run = record { within = within; run = subst (λ l. Run g b l c) same run }
