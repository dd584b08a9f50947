-- What is known along a list by the boards that were asked, as one more is asked.
use Rattle.std.proofs.Common.{inl, inr, ◌≤◌, ◌<◌, ◌≡◌, ◌∙◌, ◌⊎◌, ℕ, ◌+◌, Option, Some, None, List, [], ◌∷◌, ◌++◌, refl, sym, subst, arith}
use Rattle.std.specs.Prelude.{All, MatchOption}
use Rattle.std.proofs.lemmas.List.Elements.{All-contains, All-cons, All-nil, All-push, All-weaker, Contains-append_left, Contains-push}
use Rattle.fc_answers.specs.declared.answers.Verdict.{Verdict}
use Rattle.fc_answers.specs.declared.answers.Verdict.TheVariants.{Shortest, Won, CannotWin, GaveUp}
use Rattle.fc_review.specs.Review.{IsAsked, IsFirstLost, IsLastWon, IsTraceOf, SaysAll, TellsList, first_behind}
use Rattle.fc_review.specs.declared.known_boards.KnownBoard.{KnownBoard}
use Rattle.fc_review.specs.declared.reviews.Review.{Review}
use Rattle.fc_review.specs.declared.spans.Open.{Open}
use Rattle.fc_review.specs.inner.Span.{AreJoined, AreKeptBefore, AreKeptBehind, AreOpen, IsClosed, IsGap, IsSpan, LiesBetween}

-- one more is said
pub says_on : {J : Type 0} (says : J → KnownBoard → J → Type 0) (old mid new : J) (asked : List KnownBoard) (known : KnownBoard)
    → SaysAll says old asked mid → says mid known new → SaysAll says old (asked ++ known ∷ []) new
says_on says old mid new [] known same said = (new, subst (λ j. says j known new) same said, refl)
says_on says old mid new (k ∷ ks) known (j, first, rest) said = (j, first, says_on says j mid new ks known rest said)

-- what an unchanging one says of each board holds of all
pub all_said : {J : Type 0} (P : J → KnownBoard → Type 0) (old new : J) (asked : List KnownBoard)
    → SaysAll (λ o known n. (n ≡ o) × P o known) old asked new → All (P old) asked
all_said P old new [] same = All-nil (P old)
all_said P old new (k ∷ ks) (mid, (same, said), rest) = All-cons (P old) k ks said (subst (λ j. All (P j) ks) same (all_said P mid new ks rest))

-- what was asked stays so
asked_on : (asked : List KnownBoard) (known : KnownBoard) (n : ℕ) → IsAsked asked n → IsAsked (asked ++ known ∷ []) n
asked_on asked known n (k, there, same) = (k, Contains-append_left asked (known ∷ []) k there, same)

asked_now : (asked : List KnownBoard) (known : KnownBoard) → IsAsked (asked ++ known ∷ []) known.after
asked_now asked known = (known, Contains-push asked known, refl)

-- a board that was asked is one of the list
asked_within : (asked : List KnownBoard) (count n : ℕ) → All (λ known. known.after ≤ count) asked → IsAsked asked n → n ≤ count
asked_within asked count n within (k, there, same) =
    let most : k.after ≤ count = All-contains (λ known. known.after ≤ count) asked k within there in omega (arith, most, same)

lost_asked : (asked : List KnownBoard) (lost : ℕ) → IsFirstLost asked (Some lost) → IsAsked asked lost
lost_asked asked lost first = let at = first.0 in (at.0, at.1, at.2)

-- a board between is one of the list
pub lies_within : (asked : List KnownBoard) (count n : ℕ) (won : Option KnownBoard) (o : Option Open) (lost : Option ℕ) → IsSpan asked count won o lost
    → LiesBetween (first_behind won) o lost n → n ≤ count
lies_within asked count n won None None span lies = absurd lies
lies_within asked count n won None (Some lost) span lies =
    let most = asked_within asked count lost span.within (lost_asked asked lost span.first_lost) in omega (arith, most, lies.1)
lies_within asked count n won (Some o) None span lies =
    let most = asked_within asked count o.first span.within span.gap.0.first in omega (arith, most, lies.1)
lies_within asked count n won (Some o) (Some lost) span (inl lies) =
    let most = asked_within asked count o.first span.within span.gap.0.first in omega (arith, most, lies.1)
lies_within asked count n won (Some o) (Some lost) span (inr lies) =
    let most = asked_within asked count lost span.within (lost_asked asked lost span.first_lost) in omega (arith, most, lies.1)

-- a verdict that is no loss, and didn't give up, tells a list
pub tells_left : (verdict : Verdict) → (verdict ≡ CannotWin → ⊥) → ((told : ℕ) → verdict ≡ GaveUp told → ⊥) → TellsList verdict
tells_left (Shortest moves) none open_none = tt
tells_left (Won moves floor) none open_none = tt
tells_left CannotWin none open_none = none refl
tells_left (GaveUp told) none open_none = open_none told refl

-- a verdict that gave up tells no list and no loss
up_tells : (told : ℕ) (verdict : Verdict) → verdict ≡ GaveUp told → TellsList verdict → ⊥
up_tells told verdict up tells = subst TellsList up tells

is_loss : Verdict → Type 0
is_loss (Shortest moves) = ⊥
is_loss (Won moves floor) = ⊥
is_loss CannotWin = Unit {0}
is_loss (GaveUp told) = ⊥

up_no_loss : (told : ℕ) (verdict : Verdict) → verdict ≡ GaveUp told → verdict ≡ CannotWin → ⊥
unfolding is_loss
up_no_loss told verdict up lost = subst is_loss (sym lost ∙ up) tt

told_no_loss : (verdict : Verdict) → TellsList verdict → verdict ≡ CannotWin → ⊥
told_no_loss verdict tells lost = subst TellsList lost tells

-- a board between is behind the last won one
low_below : (asked : List KnownBoard) (count n : ℕ) (won : Option KnownBoard) (o : Option Open) (lost : Option ℕ) → IsSpan asked count won o lost
    → LiesBetween (first_behind won) o lost n → first_behind won ≤ n
low_below asked count n won None None span lies = absurd lies
low_below asked count n won None (Some lost) span lies = lies.0
low_below asked count n won (Some o) None span lies = lies.0
low_below asked count n won (Some o) (Some lost) span (inl lies) = lies.0
low_below asked count n won (Some o) (Some lost) span (inr lies) =
    let least = span.gap.0.least in
    let order = span.gap.0.order in omega (arith, least, order, lies.0)

-- and before the first lost one
lost_above : (asked : List KnownBoard) (count n h : ℕ) (won : Option KnownBoard) (o : Option Open) → IsSpan asked count won o (Some h)
    → LiesBetween (first_behind won) o (Some h) n → n < h
lost_above asked count n h won None span lies = lies.1
lost_above asked count n h won (Some o) span (inl lies) =
    let order = span.gap.0.order in
    let last = span.gap.1 in omega (arith, lies.1, order, last)
lost_above asked count n h won (Some o) span (inr lies) = lies.1

-- boards of which one more was asked are within the list
within_on : (asked : List KnownBoard) (count : ℕ) (known : KnownBoard) → All (λ k. k.after ≤ count) asked → known.after ≤ count
    → All (λ k. k.after ≤ count) (asked ++ known ∷ [])
within_on asked count known all one = All-push (λ k. k.after ≤ count) asked known all one

-- the last won one where one more was asked that tells no list
won_stays : (asked : List KnownBoard) (won : Option KnownBoard) (known : KnownBoard) → IsLastWon asked won → (TellsList known.verdict → ⊥)
    → IsLastWon (asked ++ known ∷ []) won
won_stays asked None known is none = (
  tt,
  All-push (λ k. TellsList k.verdict → k.after < 0) asked known is.1 (λ tells. absurd (none tells)),
)
won_stays asked (Some won) known is none = (
  (Contains-append_left asked (known ∷ []) won is.0.0, is.0.1),
  All-push (λ k. TellsList k.verdict → k.after < won.after + 1) asked known is.1 (λ tells. absurd (none tells)),
)

-- the first lost one where one more was asked that isn't lost
lost_stays : (asked : List KnownBoard) (lost : Option ℕ) (known : KnownBoard) → IsFirstLost asked lost → (known.verdict ≡ CannotWin → ⊥)
    → IsFirstLost (asked ++ known ∷ []) lost
lost_stays asked None known is none = (tt, All-push (λ k. k.verdict ≡ CannotWin → ⊥) asked known is.1 none)
lost_stays asked (Some n) known is none =
    let at = is.0 in (
      (at.0, Contains-append_left asked (known ∷ []) at.0 at.1, at.2, at.3),
      All-push (λ k. k.verdict ≡ CannotWin → n ≤ k.after) asked known is.1 (λ lost. absurd (none lost)),
    )

-- a later won one is the last
won_new : (asked : List KnownBoard) (won : Option KnownBoard) (known : KnownBoard) → IsLastWon asked won → TellsList known.verdict
    → first_behind won ≤ known.after → IsLastWon (asked ++ known ∷ []) (Some known)
won_new asked won known is tells later = (
  (Contains-push asked known, tells),
  All-push (λ k. TellsList k.verdict → k.after < known.after + 1) asked known
      (All-weaker (λ k. TellsList k.verdict → k.after < first_behind won) (λ k. TellsList k.verdict → k.after < known.after + 1)
      (λ k before told. let less = before told in omega (arith, less, later)) asked is.1)
      (λ told. omega arith),
)

-- an earlier lost one is the first
lost_new_none : (asked : List KnownBoard) (known : KnownBoard) → IsFirstLost asked None → known.verdict ≡ CannotWin
    → IsFirstLost (asked ++ known ∷ []) (Some known.after)
lost_new_none asked known is lost = (
  (known, Contains-push asked known, refl, lost),
  All-push (λ k. k.verdict ≡ CannotWin → known.after ≤ k.after) asked known
      (All-weaker (λ k. k.verdict ≡ CannotWin → ⊥) (λ k. k.verdict ≡ CannotWin → known.after ≤ k.after) (λ k none is'. absurd (none is')) asked is.1)
      (λ is'. omega arith),
)

lost_new_some : (asked : List KnownBoard) (n : ℕ) (known : KnownBoard) → IsFirstLost asked (Some n) → known.verdict ≡ CannotWin → known.after < n
    → IsFirstLost (asked ++ known ∷ []) (Some known.after)
lost_new_some asked n known is lost below = (
  (known, Contains-push asked known, refl, lost),
  All-push (λ k. k.verdict ≡ CannotWin → known.after ≤ k.after) asked known
      (All-weaker (λ k. k.verdict ≡ CannotWin → n ≤ k.after) (λ k. k.verdict ≡ CannotWin → known.after ≤ k.after)
      (λ k least is'. let far = least is' in omega (arith, far, below)) asked is.1)
      (λ is'. omega arith),
)

lost_new : (asked : List KnownBoard) (count : ℕ) (won : Option KnownBoard) (o : Option Open) (lost : Option ℕ) (known : KnownBoard)
    → IsSpan asked count won o lost → LiesBetween (first_behind won) o lost known.after → known.verdict ≡ CannotWin
    → IsFirstLost (asked ++ known ∷ []) (Some known.after)
lost_new asked count won o None known span lies lost = lost_new_none asked known span.first_lost lost
lost_new asked count won o (Some n) known span lies lost =
    lost_new_some asked n known span.first_lost lost (lost_above asked count known.after n won o span lies)

-- open boards, one more of the list being asked, from another one on
open_on : (asked : List KnownBoard) (low least : ℕ) (o : Open) (known : KnownBoard) → AreOpen asked low o → least ≤ o.first
    → AreOpen (asked ++ known ∷ []) least o
open_on asked low least o known is from = record {
  least = from;
  order = is.order;
  first = asked_on asked known o.first is.first;
  last = asked_on asked known o.last is.last;
}

-- what is open behind a won board that was asked
gap_won : (asked : List KnownBoard) (count : ℕ) (won : Option KnownBoard) (o : Option Open) (lost : Option ℕ) (known : KnownBoard) (kept : Option Open)
    → IsSpan asked count won o lost → LiesBetween (first_behind won) o lost known.after → AreKeptBehind o known.after kept
    → IsGap (asked ++ known ∷ []) count (known.after + 1) kept lost
gap_won asked count won None None known kept span lies same = absurd lies
gap_won asked count won None (Some h) known kept span lies same =
    subst (λ k. IsGap (asked ++ known ∷ []) count (known.after + 1) k (Some h)) (sym same) (omega (arith, lies.1))
gap_won asked count won (Some o) None known kept span lies (inl (below, same)) =
    subst (λ k. IsGap (asked ++ known ∷ []) count (known.after + 1) k None) (sym same)
    (open_on asked (first_behind won) (known.after + 1) o known span.gap.0 (omega (arith, below)), span.gap.1)
gap_won asked count won (Some o) None known kept span lies (inr (above, same)) = absurd (omega (arith, above, lies.1))
gap_won asked count won (Some o) (Some h) known kept span lies (inl (below, same)) =
    subst (λ k. IsGap (asked ++ known ∷ []) count (known.after + 1) k (Some h)) (sym same)
    (open_on asked (first_behind won) (known.after + 1) o known span.gap.0 (omega (arith, below)), span.gap.1)
gap_won asked count won (Some o) (Some h) known kept span lies (inr (above, same)) =
    let before = lost_above asked count known.after h won (Some o) span lies in
    subst (λ k. IsGap (asked ++ known ∷ []) count (known.after + 1) k (Some h)) (sym same) (omega (arith, before))

pub span_on_won : (asked : List KnownBoard) (count : ℕ) (won : Option KnownBoard) (o : Option Open) (lost : Option ℕ) (known : KnownBoard) (kept : Option Open)
    → TellsList known.verdict → AreKeptBehind o known.after kept → IsSpan asked count won o lost
    → LiesBetween (first_behind won) o lost known.after → IsSpan (asked ++ known ∷ []) count (Some known) kept lost
span_on_won asked count won o lost known kept tells same span lies = record {
  within = within_on asked count known span.within (lies_within asked count known.after won o lost span lies);
  last_won = won_new asked won known span.last_won tells (low_below asked count known.after won o lost span lies);
  first_lost = lost_stays asked lost known span.first_lost (told_no_loss known.verdict tells);
  gap = gap_won asked count won o lost known kept span lies same;
}

-- what is open before a lost board that was asked
gap_lost : (asked : List KnownBoard) (count : ℕ) (won : Option KnownBoard) (o : Option Open) (lost : Option ℕ) (known : KnownBoard) (kept : Option Open)
    → IsSpan asked count won o lost → LiesBetween (first_behind won) o lost known.after → AreKeptBefore o known.after kept
    → IsGap (asked ++ known ∷ []) count (first_behind won) kept (Some known.after)
gap_lost asked count won None lost known kept span lies same =
    subst (λ k. IsGap (asked ++ known ∷ []) count (first_behind won) k (Some known.after)) (sym same) (low_below asked count known.after won None lost span lies)
gap_lost asked count won (Some o) None known kept span lies (inl (below, same)) =
    subst (λ k. IsGap (asked ++ known ∷ []) count (first_behind won) k (Some known.after)) (sym same)
    (open_on asked (first_behind won) (first_behind won) o known span.gap.0 span.gap.0.least, below)
gap_lost asked count won (Some o) (Some h) known kept span lies (inl (below, same)) =
    subst (λ k. IsGap (asked ++ known ∷ []) count (first_behind won) k (Some known.after)) (sym same)
    (open_on asked (first_behind won) (first_behind won) o known span.gap.0 span.gap.0.least, below)
gap_lost asked count won (Some o) lost known kept span lies (inr (above, same)) =
    subst (λ k. IsGap (asked ++ known ∷ []) count (first_behind won) k (Some known.after)) (sym same) (low_below asked count known.after won (Some o) lost span lies)

pub span_on_lost : (asked : List KnownBoard) (count : ℕ) (won : Option KnownBoard) (o : Option Open) (lost : Option ℕ) (known : KnownBoard) (kept : Option Open)
    → known.verdict ≡ CannotWin → AreKeptBefore o known.after kept → IsSpan asked count won o lost
    → LiesBetween (first_behind won) o lost known.after → IsSpan (asked ++ known ∷ []) count won kept (Some known.after)
span_on_lost asked count won o lost known kept is same span lies = record {
  within = within_on asked count known span.within (lies_within asked count known.after won o lost span lies);
  last_won = won_stays asked won known span.last_won (λ tells. told_no_loss known.verdict tells is);
  first_lost = lost_new asked count won o lost known span lies is;
  gap = gap_lost asked count won o lost known kept span lies same;
}

-- open boards with one more
open_one : (asked : List KnownBoard) (low : ℕ) (known : KnownBoard) (joined : Open) → low ≤ known.after → joined.first ≡ known.after
    → joined.last ≡ known.after → AreOpen (asked ++ known ∷ []) low joined
open_one asked low known joined least first last = record {
  least = omega (arith, least, first);
  order = omega (arith, first, last);
  first = subst (IsAsked (asked ++ known ∷ [])) (sym first) (asked_now asked known);
  last = subst (IsAsked (asked ++ known ∷ [])) (sym last) (asked_now asked known);
}

open_before : (asked : List KnownBoard) (low : ℕ) (o : Open) (known : KnownBoard) (joined : Open) → AreOpen asked low o → low ≤ known.after
    → known.after < o.first → joined.first ≡ known.after → joined.last ≡ o.last → AreOpen (asked ++ known ∷ []) low joined
open_before asked low o known joined is least below first last =
    let order = is.order in
    record {
      least = omega (arith, least, first);
      order = omega (arith, first, last, below, order);
      first = subst (IsAsked (asked ++ known ∷ [])) (sym first) (asked_now asked known);
      last = subst (IsAsked (asked ++ known ∷ [])) (sym last) (asked_on asked known o.last is.last);
    }

open_behind : (asked : List KnownBoard) (low : ℕ) (o : Open) (known : KnownBoard) (joined : Open) → AreOpen asked low o → o.first ≤ known.after
    → joined.first ≡ o.first → joined.last ≡ known.after → AreOpen (asked ++ known ∷ []) low joined
open_behind asked low o known joined is above first last =
    let least = is.least in
    record {
      least = omega (arith, least, first);
      order = omega (arith, first, last, above);
      first = subst (IsAsked (asked ++ known ∷ [])) (sym first) (asked_on asked known o.first is.first);
      last = subst (IsAsked (asked ++ known ∷ [])) (sym last) (asked_now asked known);
    }

-- what is open once one more is
gap_open : (asked : List KnownBoard) (count : ℕ) (won : Option KnownBoard) (o : Option Open) (lost : Option ℕ) (known : KnownBoard) (joined : Open)
    → IsSpan asked count won o lost → LiesBetween (first_behind won) o lost known.after → AreJoined o known.after joined
    → IsGap (asked ++ known ∷ []) count (first_behind won) (Some joined) lost
gap_open asked count won None None known joined span lies same = absurd lies
gap_open asked count won None (Some h) known joined span lies (first, last) =
    let before = lies.1 in
    (open_one asked (first_behind won) known joined lies.0 first last, omega (arith, before, last))
gap_open asked count won (Some o) None known joined span lies (inl (below, first, last)) =
    (open_before asked (first_behind won) o known joined span.gap.0 lies.0 below first last, last ∙ span.gap.1)
gap_open asked count won (Some o) None known joined span lies (inr (above, first, last)) = absurd (omega (arith, above, lies.1))
gap_open asked count won (Some o) (Some h) known joined span lies (inl (below, first, last)) =
    let least = low_below asked count known.after won (Some o) (Some h) span lies in
    let before = span.gap.1 in
    (open_before asked (first_behind won) o known joined span.gap.0 least below first last, omega (arith, before, last))
gap_open asked count won (Some o) (Some h) known joined span lies (inr (above, first, last)) =
    let before = lost_above asked count known.after h won (Some o) span lies in
    (open_behind asked (first_behind won) o known joined span.gap.0 above first last, omega (arith, before, last))

pub span_on_open : (asked : List KnownBoard) (count : ℕ) (won : Option KnownBoard) (o : Option Open) (lost : Option ℕ) (known : KnownBoard) (told : ℕ) (joined : Open)
    → known.verdict ≡ GaveUp told → AreJoined o known.after joined → IsSpan asked count won o lost
    → LiesBetween (first_behind won) o lost known.after → IsSpan (asked ++ known ∷ []) count won (Some joined) lost
span_on_open asked count won o lost known told joined up same span lies = record {
  within = within_on asked count known span.within (lies_within asked count known.after won o lost span lies);
  last_won = won_stays asked won known span.last_won (up_tells told known.verdict up);
  first_lost = lost_stays asked lost known span.first_lost (up_no_loss told known.verdict up);
  gap = gap_open asked count won o lost known joined span lies same;
}

-- where none lies between, that is all
before_lost : (asked : List KnownBoard) (won : Option KnownBoard) (h : ℕ) → IsLastWon asked won → h ≡ first_behind won
    → (h ≡ 0) ⊎ ((last : ℕ) × (h ≡ last + 1) × IsAsked asked last)
before_lost asked None h is same = inl same
before_lost asked (Some won) h is same = inr (won.after, same, (won, is.0.0, refl))

trace_of : (asked : List KnownBoard) (count : ℕ) (won : Option KnownBoard) (o : Option Open) (lost : Option ℕ) → IsSpan asked count won o lost
    → ((first_behind won ≡ count + 1) ⊎ IsAsked asked (first_behind won))
    → MatchOption lost (IsAsked asked count) (λ h. (first_behind won ≤ h) × ((h ≡ 0) ⊎ ((last : ℕ) × (h ≡ last + 1) × IsAsked asked last)))
    → IsTraceOf asked count (record { won = won; lost = lost })
trace_of asked count won o lost span behind before =
    record { won = span.last_won; lost = span.first_lost; behind = behind; before = before }

pub closed : (asked : List KnownBoard) (count : ℕ) (won : Option KnownBoard) (o : Option Open) (lost : Option ℕ) → IsSpan asked count won o lost
    → IsClosed (first_behind won) o lost → IsTraceOf asked count (record { won = won; lost = lost })
closed asked count won None None span none = trace_of asked count won None None span (inl span.gap.0) span.gap.1
closed asked count won None (Some h) span none =
    let least = span.gap in
    let same : h ≡ first_behind won = omega (arith, least, none) in
    trace_of asked count won None (Some h) span (inr (subst (IsAsked asked) same (lost_asked asked h span.first_lost)))
    (least, before_lost asked won h span.last_won same)
closed asked count won (Some o) None span none =
    let least = span.gap.0.least in
    let same : o.first ≡ first_behind won = omega (arith, least, none) in
    trace_of asked count won (Some o) None span (inr (subst (IsAsked asked) same span.gap.0.first))
    (subst (IsAsked asked) span.gap.1 span.gap.0.last)
closed asked count won (Some o) (Some h) span none =
    let least = span.gap.0.least in
    let order = span.gap.0.order in
    let before = span.gap.1 in
    let same : o.first ≡ first_behind won = omega (arith, least, none.0) in
    trace_of asked count won (Some o) (Some h) span (inr (subst (IsAsked asked) same span.gap.0.first))
    (omega (arith, least, order, before), inr (o.last, omega (arith, before, none.1), span.gap.0.last))

-- a review with these says so
pub trace_same : (asked : List KnownBoard) (count : ℕ) (won : Option KnownBoard) (lost : Option ℕ) (review : Review) → review.won ≡ won → review.lost ≡ lost
    → IsTraceOf asked count (record { won = won; lost = lost }) → IsTraceOf asked count review
trace_same asked count won lost review same-won same-lost is = record {
  won = subst (IsLastWon asked) (sym same-won) is.won;
  lost = subst (IsFirstLost asked) (sym same-lost) is.lost;
  behind = subst (λ w. (first_behind w ≡ count + 1) ⊎ IsAsked asked (first_behind w)) (sym same-won) is.behind;
  before = subst (λ w. MatchOption review.lost (IsAsked asked count) (λ h. (first_behind w ≤ h) × ((h ≡ 0) ⊎ ((last : ℕ) × (h ≡ last + 1) × IsAsked asked last)))) (sym same-won)
      (subst (λ l. MatchOption l (IsAsked asked count) (λ h. (first_behind won ≤ h) × ((h ≡ 0) ⊎ ((last : ℕ) × (h ≡ last + 1) × IsAsked asked last)))) (sym same-lost) is.before);
}
