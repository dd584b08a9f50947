-- What a search that is done has found and shown.
use Rattle.std.proofs.Common.{◌≡◌, ℕ, ◌+◌, ◌*◌, ◌<◌, ◌≤◌, Option, Some, None, Ok, List, length, refl, sym, subst, arith}
use Rattle.std.specs.List.Sorted.{IsPermutation}
use Rattle.std.proofs.lemmas.Option.{same_Some}
use Rattle.std.specs.Prelude.{MatchOption}
use Rattle.std.proofs.Math.Nat.{mul-le-mul_left}
use Rattle.fc_position.specs.Board.{Board}
use Rattle.fc_moves.specs.declared.steps.Move.{Move}
use Rattle.fc_moves.specs.GameRules.{IsPositionOf}
use Rattle.fc_moves.specs.Run.{CannotWin, ReachesMore, Wins}
use Rattle.fc_answers.specs.Answer.{IsBackedBelow, IsBackedWhole}
use Rattle.fc_answers.specs.Table.{IsRising, Listing}
use Rattle.fc_answers.specs.inner.Table.{at_no_cost, inside}
use Rattle.fc_best_first.specs.declared.searches.Step.TheVariants.{Done}
use Rattle.fc_best_first.specs.declared.turns.Status.{Status}
use Rattle.fc_best_first.specs.declared.turns.Status.TheVariants as status
use Rattle.fc_best_first.specs.Limits.{IsUpTo, ReachesLimit}
use Rattle.fc_best_first.specs.Kept.{IsCoveredBelow, IsDone, IsSound, f_of}
use Rattle.fc_best_first.specs.declared.books.Mark.{Mark}
use Rattle.fc_best_first.proofs.FloorLemmas.{at_same, under_less}
use Rattle.fc_codes.specs.Spelled.{board_of_code}
use Rattle.fc_best_first.specs.Search.{reply_of}
use Rattle.fc_best_first.specs.Shown.{AreSettledBut, Holds, IsGivenUp, Shows}
use Rattle.fc_best_first.specs.Store.{Store, IsStored, bound_at}
use Rattle.fc_best_first.proofs.ClosedLemmas.{IsAt, expanded_covered}
use Rattle.fc_best_first.proofs.KeptLemmas.{same_entry, stands_within}
use Rattle.fc_bound.specs.Kinds.{guide_of}
use Rattle.fc_classes.specs.Namings.{IsNaming, by_codes}
use Rattle.fc_search.specs.Need.{NeedsMore}
use Rattle.fc_search.specs.Problem.{Problem, classes_of, task_of_problem}
use Rattle.fc_search.specs.Search.{State}
use Rattle.fc_search.specs.Shown.{number_within, HasFound, HasFoundBy, HasShownBy, IsFloorAt, IsFloorBut}
use Rattle.fc_search.specs.inner.Stored.{costs_of}
use Rattle.fc_search.specs.inner.Walk.{IsAtClass}
use Rattle.fc_search.proofs.NeedLemmas.{needs_more, needs_reach}
use Rattle.fc_search.proofs.AnswerLemmas.{backed_below, backed_whole, capped_most, capped_up, floor_at_holds, floor_but_holds, run_texts, won_within}

-- the list that leads to the won class is one that the search has found
pub found_there : (s : State) (number : ℕ) (ms : List Move) (b : Board) → IsNaming (by_codes s.problem.start) s.problem.game s.problem.start
    → IsPositionOf s.problem.game s.problem.start → s.problem.method.strategy.budget ≤ 16000000 → s.status ≡ status.Won number
    → Holds (task_of_problem s.problem) s.store (status.Won number) → Shows (task_of_problem s.problem) s.store (status.Won number)
    → IsAtClass s.problem.game s.store s.problem.start number ms b → HasFound s (Some ms)
found_there s number ms b names fits most stands held shows walked =
    let won = won_within s.problem s.store names fits number ms b shows walked in
    subst (λ v. HasFoundBy s v (Some ms)) (sym stands)
    (record {
      class = won.0;
      mark = won.1;
      stands = won.2;
      few = won.3;
      wins = won.4;
      least = λ others w.
          let more = mul-le-mul_left s.problem.method.strategy.weight.parts won.3 in let far = won.5 others w in omega (arith, more, far);
      written = run_texts s.problem.game s.problem.start b ms fits walked.3;
      short =
          let low = held.0.low number won.0 won.1 won.2 in
          let inside_store = stands_within s.store number won.0 won.1 won.2 in
          let room = held.0.room in
          let cost = won.3 in omega (arith, low, inside_store, room, most, cost);
    })

-- a search that gave up needed more classes than its budget, and reached more positions
pub gave_up_told : (s : State) (y : List ℕ) (number told : ℕ) → IsNaming (by_codes s.problem.start) s.problem.game s.problem.start
    → IsPositionOf s.problem.game s.problem.start → Shows (task_of_problem s.problem) s.store (status.GaveUp y number)
    → told ≡ s.problem.method.strategy.budget
    → (told ≡ s.problem.method.strategy.budget) × NeedsMore s.problem × ReachesMore s.problem.game s.problem.start told
gave_up_told s y number told names fits (keys, are) same =
    let more = needs_more s.problem keys names fits are in
    (same, more, subst (ReachesMore s.problem.game s.problem.start) (sym same) (needs_reach s.problem more))

-- where no list that is wanted wins, none is below the limit, or none wins
pub none_below : (pr : Problem) (s : Store (List ℕ)) (limit : Option ℕ) → pr.limit ≡ limit → Shows (task_of_problem pr) s status.CannotWin
    → MatchOption limit (CannotWin pr.game pr.start) (λ floor. (moves : List Move) → Wins pr.game pr.start moves → floor ≤ length moves)
none_below pr s None same none = λ moves wins. subst (λ l. ReachesLimit l (length moves)) same (none (length moves) (moves, refl, wins))
none_below pr s (Some floor) same none = λ moves wins. subst (λ l. ReachesLimit l (length moves)) same (none (length moves) (moves, refl, wins))

-- what some number is that is told as another
some_same : (n floor : ℕ) → Some n ≡ Some floor → floor ≡ n
some_same n floor e = sym (same_Some n floor e)

module _ (s : State) (names : IsNaming (by_codes s.problem.start) s.problem.game s.problem.start) (fits : IsPositionOf s.problem.game s.problem.start)
    (heavy : s.problem.method.strategy.weight.parts ≤ s.problem.method.strategy.weight.times) where
  -- what is shown by a number below which the stored classes are covered: no list has fewer moves
  abbrev Holding : ℕ → Type 0
  Holding floor = ((i : ℕ) (y : List ℕ) (m : Mark) → IsStored s.store i y m
      → m.cost + bound_at s.store i < floor
      → IsCoveredBelow (classes_of s.problem) s.store y m.cost floor)
      × ((others : List Move) → Wins s.problem.game s.problem.start others → floor ≤ length others)

  -- such is what is told where each stored class but one is open or expanded
  but_holding : (number floor : ℕ) → IsSound (task_of_problem s.problem) s.store → AreSettledBut (task_of_problem s.problem) s.store number
      → IsFloorBut s number floor → Holding floor
  but_holding number floor sound settled (x, mark, at, least) =
      let most = mark.cost + bound_at s.store number in
      floor_but_holds s.problem s.store names fits heavy number x mark (number_within s.problem.limit most) floor sound settled at
      (capped_most s.problem.limit most) least (capped_up s.problem.limit most floor least.within)

  -- and where that one was taken when the search gave up
  at_holding : (y : List ℕ) (number floor : ℕ) → IsGivenUp (task_of_problem s.problem) s.store y number → IsFloorAt s number floor → Holding floor
  at_holding y number floor held (most, (x, mark, f, at, is_at, told), least) =
      let taken = held.4.4 in
      let both = same_entry s.store number x held.4.0 mark held.4.1 at taken.stands in
      let here : IsAt (task_of_problem s.problem) s.store number mark held.4.3 =
      subst (λ m. IsAt (task_of_problem s.problem) s.store number m held.4.3) (sym both.1) taken.at in
      let same : f ≡ held.4.3 = at_same s.store number (s.problem.method.strategy.weight.parts * mark.cost) f held.4.3 is_at here in
      floor_at_holds s.problem s.store names fits heavy number x mark f (number_within s.problem.limit most) floor held.0 held.5 at
      (under_less (task_of_problem s.problem) s.store number mark f most (number_within s.problem.limit most) (capped_most s.problem.limit most) told.under)
      (subst (λ h. f_of (task_of_problem s.problem) s.store number mark < h → IsDone s.problem.method.strategy.expansion (task_of_problem s.problem) s.store x mark.cost h) (sym same)
      (subst (λ v. f_of (task_of_problem s.problem) s.store number mark < held.4.3 → IsDone s.problem.method.strategy.expansion (task_of_problem s.problem) s.store v mark.cost held.4.3) (sym both.0)
      (subst (λ m. f_of (task_of_problem s.problem) s.store number m < held.4.3 → IsDone s.problem.method.strategy.expansion (task_of_problem s.problem) s.store held.4.0 m.cost held.4.3) (sym both.1) taken.done)))
      least (capped_up s.problem.limit most floor least.within)

  -- no list has fewer moves than what is told
  pub floor_told : (number floor : ℕ) → IsSound (task_of_problem s.problem) s.store → AreSettledBut (task_of_problem s.problem) s.store number
      → IsFloorBut s number floor → (others : List Move) → Wins s.problem.game s.problem.start others → floor ≤ length others
  floor_told number floor sound settled told = (but_holding number floor sound settled told).1

  pub floor_at_told : (y : List ℕ) (number floor : ℕ) → IsGivenUp (task_of_problem s.problem) s.store y number → IsFloorAt s number floor
      → (others : List Move) → Wins s.problem.game s.problem.start others → floor ≤ length others
  floor_at_told y number floor held told = (at_holding y number floor held told).1

  -- a table of the search: of its rule and bound, in order, of these rows
  pub record IsTableWith (table : Listing) (all : List (List ℕ × ℕ)) : Type 0 where
    pub rule : table.rule ≡ s.problem.method.rule
    pub bound : table.bound ≡ s.problem.method.bound
    pub known : table.rule ≤ 2
    pub few : length table.rows ≤ 16000000
    pub rising : IsRising table.rows
    pub rows : IsPermutation all table.rows

  -- the table of the stored classes below such a number shows it
  below_told : (n : ℕ) (table : Listing) → IsSound (task_of_problem s.problem) s.store → Holding n
      → IsTableWith table (inside (guide_of s.problem.method.bound) n (costs_of s.problem.start s.store))
      → IsBackedBelow s.problem.game s.problem.start n table
  below_told n table sound holding made =
      backed_below s.problem s.store names fits n table sound holding.0
      made.rule made.bound made.known made.few made.rising made.rows

  -- the table of a search that is done, below the number that it has shown, shows that
  pub number_backed : (status : Status (List ℕ)) (n : ℕ) (table : Listing) → reply_of status ≡ Ok Done
      → Holds (task_of_problem s.problem) s.store status → HasShownBy s status (Some n)
      → IsTableWith table (inside (guide_of s.problem.method.bound) n (costs_of s.problem.start s.store))
      → IsBackedBelow s.problem.game s.problem.start n table
  number_backed status.Running n table done held told made = absurd (cc)
  number_backed status.Stopped n table done held told made = absurd (cc)
  number_backed (status.Won number) n table done held (floor, is, told) made =
      below_told n table held.0 (but_holding number n held.0 held.1.5 (subst (IsFloorBut s number) (some_same n floor is) told)) made
  number_backed (status.GaveUp y number) n table done held (floor, is, told) made =
      below_told n table held.0 (at_holding y number n held (subst (IsFloorAt s number) (some_same n floor is) told)) made
  number_backed status.CannotWin n table done held told made =
      let self : n ≤ n = omega arith in
      backed_below s.problem s.store names fits n table held.0
      (λ i y m there lt. expanded_covered (task_of_problem s.problem) s.store y m.cost n (subst (λ l. IsUpTo l n) told self) (held.1 i y m there))
      made.rule made.bound made.known made.few made.rising made.rows

  -- and that of one that has shown that none wins
  pub none_backed : (status : Status (List ℕ)) (table : Listing) → reply_of status ≡ Ok Done
      → Holds (task_of_problem s.problem) s.store status → HasShownBy s status None
      → IsTableWith table (at_no_cost (costs_of s.problem.start s.store)) → IsBackedWhole s.problem.game s.problem.start table
  none_backed status.Running table done held told made = absurd (cc)
  none_backed status.Stopped table done held told made = absurd (cc)
  none_backed (status.Won number) table done held (floor, is, told) made = absurd (cc)
  none_backed (status.GaveUp y number) table done held (floor, is, told) made = absurd (cc)
  none_backed status.CannotWin table done held told made =
      backed_whole s.problem s.store names fits (sym told) table held made.rule made.known made.few made.rising made.rows
