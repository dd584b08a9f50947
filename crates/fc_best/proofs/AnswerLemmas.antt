-- The answer of searches that stand so.
use Rattle.std.proofs.Common.{⊎_elim, zero, suc, ◌≡◌, ◌∙◌, ◌⊎◌, inl, inr, ℕ, ◌<◌, ◌≤◌, Option, Some, None, List, length, refl, sym, subst, ap, arith}
use Rattle.std.specs.Prelude.{IfSome}
use Rattle.fc_position.specs.Board.{Board}
use Rattle.fc_moves.specs.declared.steps.Move.{Move}
use Rattle.fc_moves.specs.Run.{CannotWin as NoneWins, ReachesMore}
use Rattle.fc_answers.specs.Answer.{IsBackedBelow, IsBackedBy}
use Rattle.fc_answers.specs.Table.{Listing}
use Rattle.fc_answers.specs.declared.answers.Verdict.{Verdict}
use Rattle.fc_answers.specs.declared.answers.Verdict.TheVariants.{Shortest, Won, CannotWin, GaveUp}
use Rattle.fc_methods.specs.Method.{QuestionData}
use Rattle.fc_search.specs.Search.{State}
use Rattle.fc_best.specs.declared.attempts.Shown.{Shown}
use Rattle.fc_best.specs.declared.standings.Standing.{Standing}
use Rattle.fc_best.specs.Best.{HaveGivenUp, IsBestAnswer, IsFloor, IsFloorOf, IsListOf, IsOfSearches, RestsOn}
use Rattle.fc_best.specs.Watch.{IsToldOf, list_told}
use Rattle.fc_best.specs.inner.Watch.{list_in, with_floor}
use Rattle.fc_best.specs.inner.Attempt.{IsEnd, IsGoodList, IsShown, IsTableOf, ShowsNone}
use Rattle.fc_best.specs.inner.Standing.{AllGaveUp, IsLeastOf, IsShownBy, IsStanding, Stands, limit_of}

-- a number is no greater than another, or greater
le_or_more : (n m : ℕ) → (n ≤ m) ⊎ (m < n)
le_or_more zero m = inl (omega arith)
le_or_more (suc n) zero = inr (omega arith)
le_or_more (suc n) (suc m) = ⊎_elim (λ le. inl (omega (arith, le))) (λ more. inr (omega (arith, more))) (le_or_more n m)

-- what is no number is missing
pub no_number : (o : Option ℕ) → ((n : ℕ) → o ≡ Some n → ⊥) → o ≡ None
no_number None is = refl
no_number (Some n) is = absurd (is n refl)

-- what is shown to be a floor isn't that none wins
no_end : (end other : Shown) (n : ℕ) → Some other ≡ Some end → end.floor ≡ Some n → other.floor ≡ None → ⊥
no_end end other n same floor none = absurd (cc)

module _ (q : QuestionData) (b : Board) where
  -- what is shown last
  end_so : (searches : List State) (shown : Option Shown) (end : Shown) → shown ≡ Some end → IfSome shown (λ e. IsEnd q b e × IsShownBy q searches e.floor)
      → IsEnd q b end × IsShownBy q searches end.floor
  end_so searches shown end same is = subst (λ o. IfSome o (λ (e : Shown). IsEnd q b e × IsShownBy q searches e.floor)) same is

  -- the verdict is of the searches that stand so
  of_searches : (searches tails : List State) (s : Standing) (verdict : Verdict) → IsStanding q b searches tails s → RestsOn q b searches tails verdict
      → IsOfSearches q b verdict
  of_searches searches tails s verdict was rests = record {
    searches = searches;
    tails = tails;
    asked = was.asked;
    middle = was.middle;
    spent = let all = was.spent in omega (arith, all);
    rests = rests;
  }

  -- what backs it is its table
  lost_backed : (table : Option Listing) → IfSome table (IsTableOf q b None) → IfSome table (IsBackedBy q.game b CannotWin)
  lost_backed None is = tt
  lost_backed (Some table) is = is.backed

  floor_backed : (table : Option Listing) (n : ℕ) → IfSome table (IsTableOf q b (Some n)) → IfSome table (IsBackedBelow q.game b n)
  floor_backed None n is = tt
  floor_backed (Some table) n is = is.backed

  searched_so : (table : Option Listing) (floor : Option ℕ) → IfSome table (IsTableOf q b floor)
      → IfSome table (λ t. (t.rule ≡ q.method.rule) × (t.bound ≡ q.method.bound) × (length t.rows ≤ q.method.strategy.budget))
  searched_so None floor is = tt
  searched_so (Some table) floor is = (is.rule, is.bound, is.few)

  pub lost_best : (s : Standing) (end : Shown) → Stands q b s → s.shown ≡ Some end → end.floor ≡ None
      → IsBestAnswer q b (record { verdict = CannotWin; table = end.table })
  lost_best s end (searches, tails, was) same none =
      let so = end_so searches s.shown end same was.shown in
      let tabled = subst (λ f. IfSome end.table (IsTableOf q b f)) none so.0.1 in
      record {
        told = record {
          right = subst (IsShown q.game b) none so.0.0;
          searched = of_searches searches tails s CannotWin was (subst (IsShownBy q searches) none so.1);
          written = tt;
          few = tt;
        };
        backed = lost_backed end.table tabled;
        tabled = searched_so end.table None tabled;
      }

  -- a list as long as a floor is a shortest one
  shortest_best : (searches tails : List State) (s : Standing) (moves : List Move) (table : Option Listing) (n : ℕ) → IsStanding q b searches tails s
      → IsGoodList q.game b moves → IsListOf q.game b searches tails moves → IsFloor q.game b n → IsFloorOf q searches n
      → IfSome table (IsTableOf q b (Some n)) → length moves ≤ n → IsBestAnswer q b (record { verdict = Shortest moves; table = table })
  shortest_best searches tails s moves table n was good of floor by tabled short =
      let least = floor moves good.wins in
      let same : n ≡ length moves = omega (arith, least, short) in
      let meets = subst (λ k. IfSome table (IsTableOf q b (Some k))) same tabled in
      record {
        told = record {
          right = record { wins = good.wins; least = subst (IsFloor q.game b) same floor };
          searched = of_searches searches tails s (Shortest moves) was (of, subst (IsFloorOf q searches) same by);
          written = (good.written, let few = good.few in omega (arith, few));
          few = good.few;
        };
        backed = floor_backed table (length moves) meets;
        tabled = searched_so table (Some (length moves)) meets;
      }

  won_best : (searches tails : List State) (s : Standing) (moves : List Move) (table : Option Listing) (n : ℕ) → IsStanding q b searches tails s
      → IsGoodList q.game b moves → IsListOf q.game b searches tails moves → IsFloor q.game b n → IsFloorOf q searches n
      → IfSome table (IsTableOf q b (Some n)) → n < length moves → IsBestAnswer q b (record { verdict = Won moves n; table = table })
  won_best searches tails s moves table n was good of floor by tabled long = record {
    told = record {
      right = (good.wins, floor, long);
      searched = of_searches searches tails s (Won moves n) was (of, by);
      written = (good.written, let few = good.few in omega (arith, few));
      few = good.few;
    };
    backed = floor_backed table n tabled;
    tabled = searched_so table (Some n) tabled;
  }

  -- either the one or the other is told
  pub listed_best : (s : Standing) (end : Shown) (moves : List Move) (n : ℕ) (verdict : Verdict) → Stands q b s → s.shown ≡ Some end → end.floor ≡ Some n
      → s.list ≡ Some moves → (length moves ≤ n → verdict ≡ Shortest moves) → (n < length moves → verdict ≡ Won moves n)
      → IsBestAnswer q b (record { verdict = verdict; table = end.table })
  listed_best s end moves n verdict (searches, tails, was) same floor list short long =
      let so = end_so searches s.shown end same was.shown in
      let good : IsGoodList q.game b moves × IsListOf q.game b searches tails moves =
      subst (λ o. IfSome o (λ ms. IsGoodList q.game b ms × IsListOf q.game b searches tails ms)) list was.list in
      let shown : IsFloor q.game b n = subst (IsShown q.game b) floor so.0.0 in
      let by : IsFloorOf q searches n = subst (IsShownBy q searches) floor so.1 in
      let tabled = subst (λ f. IfSome end.table (IsTableOf q b f)) floor so.0.1 in
      ⊎_elim
      (λ (le : length moves ≤ n). subst (λ v. IsBestAnswer q b (record { verdict = v; table = end.table })) (sym (short le))
      (shortest_best searches tails s moves end.table n was good.0 good.1 shown by tabled le))
      (λ (less : n < length moves). subst (λ v. IsBestAnswer q b (record { verdict = v; table = end.table })) (sym (long less))
      (won_best searches tails s moves end.table n was good.0 good.1 shown by tabled less))
      (le_or_more (length moves) n)

  -- where all gave up, the greatest budget of theirs is told
  gave_so : (searches tails : List State) (s : Standing) (end : Shown) (given : Option ℕ) (told : ℕ) → IsStanding q b searches tails s
      → s.shown ≡ Some end → AllGaveUp q b searches s.shown given → IfSome given (λ n. told ≡ n)
      → IsBestAnswer q b (record { verdict = GaveUp told; table = None })
  gave_so searches tails s end None told was same (none, unshown) equal = absurd (cc)
  gave_so searches tails s end (Some n) told was same (have, few, more) equal = record {
    told = record {
      right = subst (λ k. (k ≤ q.method.strategy.budget) × ReachesMore q.game b k) (sym equal) (few, more);
      searched = of_searches searches tails s (GaveUp told) was (subst (HaveGivenUp searches) (sym equal) have);
      written = tt;
      few = tt;
    };
    backed = tt;
    tabled = tt;
  }

  pub gave_best : (s : Standing) (end : Shown) (n told : ℕ) → Stands q b s → s.shown ≡ Some end → end.floor ≡ Some n → s.list ≡ None
      → IfSome s.given_up (λ k. told ≡ k) → IsBestAnswer q b (record { verdict = GaveUp told; table = None })
  gave_best s end n told (searches, tails, was) same floor nothing equal =
      ⊎_elim
      (λ (lost : ShowsNone s.shown). absurd (no_end end lost.0 n (sym lost.1 ∙ same) floor lost.2))
      (λ (gave : AllGaveUp q b searches s.shown s.given_up). gave_so searches tails s end s.given_up told was same gave equal)
      (was.none nothing)

  -- what was told last is of the answer
  listed_told : (list : Option (List Move)) (told : Option ℕ) (P : List Move → Type 0) → NoneWins q.game b
      → IfSome list (λ moves. IsGoodList q.game b moves × P moves) → told ≡ limit_of list → told ≡ None
  listed_told None told P none good same = same
  listed_told (Some moves) told P none good same = absurd (none moves good.0.wins)

  pub lost_told : (s : Standing) (end : Shown) → Stands q b s → s.shown ≡ Some end → end.floor ≡ None → IsToldOf q b CannotWin s.far
  lost_told s end (searches, tails, was) same none =
      let so = end_so searches s.shown end same was.shown in
      let lost : NoneWins q.game b = subst (IsShown q.game b) none so.0.0 in
      record { listed = listed_told s.list s.far.shortest _ lost was.list was.told.shortest; least = tt; shown = tt }

  pub gave_told : (s : Standing) (end : Shown) (n told : ℕ) → Stands q b s → s.shown ≡ Some end → end.floor ≡ Some n → s.list ≡ None
      → IsToldOf q b (GaveUp told) s.far
  gave_told s end n told (searches, tails, was) same floor nothing =
      let so = end_so searches s.shown end same was.shown in
      let by : IsFloorOf q searches n = subst (IsShownBy q searches) floor so.1 in
      let least : s.far.at_least ≡ n =
      subst (λ f. IfSome f (λ k. s.far.at_least ≡ k)) floor (subst (λ o. IsLeastOf o s.far.at_least) same was.told.least) in
      record {
        listed = was.told.shortest ∙ ap limit_of nothing;
        least = tt;
        shown = record {
          searches = searches;
          asked = was.asked;
          spent = let all = was.spent in omega (arith, all);
          shown = subst (IsFloorOf q searches) (sym least) by;
        };
      }

  pub listed_is_told : (s : Standing) (end : Shown) (moves : List Move) (n : ℕ) (verdict : Verdict) → Stands q b s → s.shown ≡ Some end
      → end.floor ≡ Some n → s.list ≡ Some moves → (length moves ≤ n → verdict ≡ Shortest moves) → (n < length moves → verdict ≡ Won moves n)
      → IsToldOf q b verdict s.far
  listed_is_told s end moves n verdict (searches, tails, was) same floor list short long =
      let so = end_so searches s.shown end same was.shown in
      let good : IsGoodList q.game b moves × IsListOf q.game b searches tails moves =
      subst (λ o. IfSome o (λ ms. IsGoodList q.game b ms × IsListOf q.game b searches tails ms)) list was.list in
      let shown : IsFloor q.game b n = subst (IsShown q.game b) floor so.0.0 in
      let count : s.far.shortest ≡ Some (length moves) = was.told.shortest ∙ ap limit_of list in
      let least : s.far.at_least ≡ n =
      subst (λ f. IfSome f (λ k. s.far.at_least ≡ k)) floor (subst (λ o. IsLeastOf o s.far.at_least) same was.told.least) in
      ⊎_elim
      (λ (le : length moves ≤ n).
      let most = shown moves good.0.wins in
      let equal : s.far.at_least ≡ length moves = omega (arith, least, most, le) in
      subst (λ v. IsToldOf q b v s.far) (sym (short le)) (record { listed = count; least = equal; shown = tt }))
      (λ (more : n < length moves). subst (λ v. IsToldOf q b v s.far) (sym (long more)) (record { listed = count; least = least; shown = tt }))
      (le_or_more (length moves) n)

  -- and so is the list with its floor
  no_list : (list : Option (List Move)) (P : List Move → Type 0) → NoneWins q.game b → IfSome list (λ moves. IsGoodList q.game b moves × P moves) → list ≡ None
  no_list None P none good = refl
  no_list (Some moves) P none good = absurd (none moves good.0.wins)

  pub lost_listed : (s : Standing) (end : Shown) → Stands q b s → s.shown ≡ Some end → end.floor ≡ None → list_in s ≡ list_told CannotWin
  lost_listed s end (searches, tails, was) same none =
      let so = end_so searches s.shown end same was.shown in
      let lost : NoneWins q.game b = subst (IsShown q.game b) none so.0.0 in
      ap (λ o. with_floor o s.far.at_least) (no_list s.list _ lost was.list)

  pub gave_listed : (s : Standing) (told : ℕ) → s.list ≡ None → list_in s ≡ list_told (GaveUp told)
  gave_listed s told nothing = ap (λ o. with_floor o s.far.at_least) nothing

  pub listed_as_told : (s : Standing) (end : Shown) (moves : List Move) (n : ℕ) (verdict : Verdict) → Stands q b s → s.shown ≡ Some end
      → end.floor ≡ Some n → s.list ≡ Some moves → (length moves ≤ n → verdict ≡ Shortest moves) → (n < length moves → verdict ≡ Won moves n)
      → list_in s ≡ list_told verdict
  listed_as_told s end moves n verdict (searches, tails, was) same floor list short long =
      let so = end_so searches s.shown end same was.shown in
      let good : IsGoodList q.game b moves × IsListOf q.game b searches tails moves =
      subst (λ o. IfSome o (λ ms. IsGoodList q.game b ms × IsListOf q.game b searches tails ms)) list was.list in
      let shown : IsFloor q.game b n = subst (IsShown q.game b) floor so.0.0 in
      let here : list_in s ≡ Some (moves, s.far.at_least) = ap (λ o. with_floor o s.far.at_least) list in
      let least : s.far.at_least ≡ n =
      subst (λ f. IfSome f (λ k. s.far.at_least ≡ k)) floor (subst (λ o. IsLeastOf o s.far.at_least) same was.told.least) in
      ⊎_elim
      (λ (le : length moves ≤ n).
      let most = shown moves good.0.wins in
      let equal : s.far.at_least ≡ length moves = omega (arith, least, most, le) in
      subst (λ v. list_in s ≡ list_told v) (sym (short le)) (here ∙ ap (λ k. Some (moves, k)) equal))
      (λ (more : n < length moves). subst (λ v. list_in s ≡ list_told v) (sym (long more)) (here ∙ ap (λ k. Some (moves, k)) least))
      (le_or_more (length moves) n)
