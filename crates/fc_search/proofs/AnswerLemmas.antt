-- What a search that is done holds makes its verdict right, and its table backs it.
use Rattle.std.proofs.Common.{inl, ◌≡◌, ℕ, zero, suc, ◌+◌, ◌*◌, ◌<◌, ◌≤◌, Bool, List, [], ◌∷◌, length, Option, Some, None, refl, sym, ◌∙◌, ap, subst, arith, nat_lt}
use Rattle.std.specs.Prelude.{All, Contains}
use Rattle.std.specs.List.Sorted.{IsPermutation}
use Rattle.std.proofs.lemmas.List.{length-map}
use Rattle.std.proofs.lemmas.List.Sorted.{IsPermutation-sym, Contains-permutation, length_permutation}
use Rattle.std.proofs.lemmas.List.Sums.{length-filter, count_by-le-length}
use Rattle.std.proofs.Math.Nat.{le_of_mul-le-mul_left, mul-le-mul_left}
use Rattle.fc_position.specs.Board.{Board}
use Rattle.fc_position.specs.Position.{IsPosition, IsWon}
use Rattle.fc_moves.specs.declared.steps.Move.{Move}
use Rattle.fc_moves.specs.GameRules.{GameRules, IsPositionOf}
use Rattle.fc_moves.specs.MoveText.{HasText}
use Rattle.fc_moves.specs.Run.{Run, Wins}
use Rattle.fc_moves.proofs.StepLemmas.{step_keeps, allowed_has_text}
use Rattle.fc_bound.specs.Kinds.{guide_of, low_of}
use Rattle.fc_tables.specs.Table as boards
use Rattle.fc_tables.proofs.RowLemmas.{inside_all, costs_free}
use Rattle.fc_best_first.specs.declared.books.Mark.{Mark}
use Rattle.fc_best_first.specs.declared.turns.Status.TheVariants as status
use Rattle.fc_best_first.specs.Kept.{IsCoveredBelow, IsDone, IsSound, f_of}
use Rattle.fc_best_first.specs.Limits.{IsEven, IsUpTo, Ratio, ReachesLimit, weigh}
use Rattle.fc_best_first.specs.Shown.{AreSettledBut, IsFound, IsExhausted, IsLeastOpen, IsUnder, Shows}
use Rattle.fc_best_first.specs.Store.{Store, IsStored, bound_at}
use Rattle.fc_best_first.proofs.KeptLemmas.{same_entry, stands_within}
use Rattle.fc_best_first.proofs.FloorLemmas.{open_floors}
use Rattle.fc_best_first.specs.Graph.{IsClosedInside, IsLawful}
use Rattle.fc_best_first.proofs.ClosedLemmas.{closed_inside, expanded_covered, light_covered, noted_under, rows as codes_of}
use Rattle.fc_tables.specs.Table.{as_boards}
use Rattle.fc_canonical.specs.Spelled.{IsKeyIn, board_of_bytes}
use Rattle.fc_codes.specs.Spelled.{board_of_code}
use Rattle.fc_classes.specs.Namings.{IsNaming, by_codes, by_keys}
use Rattle.fc_classes.proofs.TableLemmas.{board_listed, name_listed, closed_board, lawful}
use Rattle.fc_answers.specs.declared.answers.Verdict.TheVariants.{Shortest, Won, CannotWin, GaveUp}
use Rattle.fc_methods.specs.Method.{QuestionData, shortest_asked}
use Rattle.fc_search.specs.Problem.{Problem, classes_of, problem_of, shortest_from, task_of_problem}
use Rattle.fc_answers.specs.declared.answers.Verdict.{Verdict}
use Rattle.fc_answers.specs.Verdict.{IsRight}
use Rattle.fc_search.specs.Search.{IsOneOfThree, IsVerdict}
use Rattle.fc_answers.specs.Answer.{IsBackedBelow, IsBackedWhole}
use Rattle.fc_answers.specs.Table.{Listing, HaveKeysOnce, IsRising}
use Rattle.fc_answers.specs.inner.Table.{at_no_cost, inside}
use Rattle.fc_answers.proofs.OrderLemmas.{in_order}
use Rattle.fc_answers.proofs.RowLemmas.{free_listed, freely_listed, inside_listed, inside_once, listed_inside, no_cost_once}
use Rattle.fc_search.specs.Shown.{number_within}
use Rattle.fc_search.specs.inner.Stored.{costs_of}
use Rattle.fc_search.specs.inner.Walk.{IsAtClass}
use Rattle.fc_search.proofs.BetweenLemmas.{rows_between}
use Rattle.fc_search.proofs.NeedLemmas.{needs_more, needs_reach}
use Rattle.fc_search.proofs.RowLemmas.{boards_same, costs_in, key_in, stored_name, stored_once, stored_long}
use Rattle.fc_bound.proofs.KindLemmas.{bounds_lower, guides_under}

-- where there is no limit, no number is past it
up_to : {limit : Option ℕ} → limit ≡ None → (n : ℕ) → IsUpTo limit n
up_to whole n = subst (λ l. IsUpTo l n) (sym whole) tt

-- the limit, where there is one, is no less than what is capped by it, and that is no more than it was
pub capped_most : (limit : Option ℕ) (n : ℕ) → number_within limit n ≤ n
capped_most None n = omega arith
capped_most (Some limit) n = omega arith

pub capped_up : (limit : Option ℕ) (n floor : ℕ) → floor ≤ number_within limit n → IsUpTo limit floor
capped_up None n floor le = tt
capped_up (Some limit) n floor le = omega (arith, le)

-- each move of a run from a position of the game has a text
pub run_texts : (g : GameRules) (b c : Board) (ms : List Move) → IsPositionOf g b → Run g b ms c → All HasText ms
run_texts g b c [] p run k d lt = absurd (omega (arith, lt))
run_texts g b c (m ∷ ms) p (mid, step, rest) zero d lt = allowed_has_text g b m p.position (mid, step)
run_texts g b c (m ∷ ms) p (mid, step, rest) (suc k) d lt =
    run_texts g mid c ms (step_keeps g b mid m p step) rest k d (omega (arith, lt))

-- where a bound counts as often as a cost, what is no more, weighed, is no more
even_most : (weight : Ratio) (cost n : ℕ) → 1 ≤ weight.parts → IsEven weight → weight.parts * cost ≤ weight.times * n → cost ≤ n
even_most weight cost n some even le =
    let same : weight.times * n ≡ weight.parts * n = ap (λ w. w * n) even in
    let all : weight.parts * cost ≤ weight.parts * n = omega (arith, le, same) in
    le_of_mul-le-mul_left all some

-- and what is below a cost is below it, weighed
even_below : (weight : Ratio) (cost bound n : ℕ) → 1 ≤ weight.parts → IsEven weight → cost + bound < n
    → weigh weight cost bound < weight.parts * n
even_below weight cost bound n some even lt =
    let same : weight.times * bound ≡ weight.parts * bound = ap (λ w. w * bound) even in
    let all : weight.parts * (cost + bound + 1) ≤ weight.parts * n = mul-le-mul_left weight.parts (omega (arith, lt)) in
    omega (arith, all, same, some)

module _ (pr : Problem) (s : Store (List ℕ)) (names : IsNaming (by_codes pr.start) pr.game pr.start) (pp : IsPositionOf pr.game pr.start) where
  -- a table of the stored codes that is closed inside n closes the boards of their keys
  keys_closed : (n : ℕ) → IsSound (task_of_problem pr) s → IsClosedInside (classes_of pr) n (codes_of s)
      → boards.IsClosedInside (low_of pr.method.bound) pr.game pr.method.rule pr.start n (as_boards (costs_of pr.start s))
  keys_closed n sound closed =
      subst (boards.IsClosedInside (low_of pr.method.bound) pr.game pr.method.rule pr.start n) (sym (boards_same pr s names pp sound))
      (closed_board (by_codes pr.start) pr.method.bound pr.game pr.method.rule pr.start n (codes_of s) names (bounds_lower pr.method.bound).1 pp closed)

  -- a search of the problem answers what lists of moves can do
  lawful_here : IsLawful (classes_of pr)
  lawful_here = lawful (by_codes pr.start) pr.method.bound pr.game pr.method.rule pr.start names pp

  -- each stored class below n by its bound is below it by what is noted of it
  pub covered_low : (n : ℕ) → IsSound (task_of_problem pr) s
      → ((i : ℕ) (y : List ℕ) (m : Mark) → IsStored s i y m → m.cost + bound_at s i < n → IsCoveredBelow (classes_of pr) s y m.cost n)
      → (i : ℕ) (y : List ℕ) (m : Mark) → IsStored s i y m → m.cost + low_of pr.method.bound (board_of_code pr.start y) < n
      → IsCoveredBelow (classes_of pr) s y m.cost n
  covered_low n sound covered i y m there lt =
      covered i y m there (omega (arith, lt, noted_under (classes_of pr) lawful_here s i y m sound.noted there))

  -- a listed key is one of the game
  listed_key : IsSound (task_of_problem pr) s → (k : List ℕ) (d : ℕ) → Contains (costs_of pr.start s) (k, d) → IsKeyIn pr.game k
  listed_key sound k d there =
      let at = costs_in pr.start s (k, d) there in
      subst (IsKeyIn pr.game) (sym (ap (λ e. e.0) at.4))
      (key_in pr.start pr.game at.1 (stored_name pr s names pp sound at.0 at.1 at.2 at.3))

  -- the table of a search that found no way to win shows that there is none
  pub backed_whole : pr.limit ≡ None → (table : Listing) → IsExhausted (task_of_problem pr) s → table.rule ≡ pr.method.rule → table.rule ≤ 2
      → length table.rows ≤ 16000000 → IsRising table.rows → IsPermutation (at_no_cost (costs_of pr.start s)) table.rows
      → IsBackedWhole pr.game pr.start table
  backed_whole whole table (sound, done) ruled known few rising moved =
      let closed = λ (n : ℕ). closed_inside (task_of_problem pr) s n sound (λ i x m at lt. expanded_covered (task_of_problem pr) s x m.cost n (up_to whole n) (done i x m at)) in
      let back = IsPermutation-sym (at_no_cost (costs_of pr.start s)) table.rows moved in
      let all = inside_all (low_of pr.method.bound) pr.game pr.method.rule pr.start (as_boards (costs_of pr.start s)) (λ n. keys_closed n sound (closed n)) in
      let free = λ (e : List ℕ × ℕ) (there : Contains table.rows e).
      free_listed (costs_of pr.start s) e (Contains-permutation table.rows (at_no_cost (costs_of pr.start s)) e back there) in
      let own = costs_free pr.game pr.method.rule pr.start (as_boards table.rows) (as_boards (costs_of pr.start s)) all
      (λ x. (
        λ (d, there). let key = name_listed by_keys table.rows (x, d) there in
            let at = (free (key.0, key.1) key.2).0 in (
              at.0,
              subst (λ b. Contains (as_boards (costs_of pr.start s)) (b, at.0)) (sym (ap (λ e. e.0) key.3))
                  (board_listed by_keys (costs_of pr.start s) key.0 at.0 at.1),
            ),
        λ (d, there). let key = name_listed by_keys (costs_of pr.start s) (x, d) there in (
          0,
          subst (λ b. Contains (as_boards table.rows) (b, 0)) (sym (ap (λ e. e.0) key.3))
              (board_listed by_keys table.rows key.0 0 (Contains-permutation (at_no_cost (costs_of pr.start s)) table.rows (key.0, 0) moved
              (freely_listed (costs_of pr.start s) key.0 key.1 key.2))),
        ),
      )) in record {
        listed = record {
          known = known;
          few = few;
          rising = rising;
          classes = λ e there. let at = (free e there).0 in listed_key sound e.0 at.0 at.1;
        };
        closed = subst (λ r. boards.IsClosed pr.game r pr.start (as_boards table.rows)) (sym ruled) own;
        free = λ e there. (free e there).1;
      }

  -- a list to the won class wins, has no more moves than it costs, and is within the weight
  pub won_within : (number : ℕ) (ms : List Move) (b : Board) → Shows (task_of_problem pr) s (status.Won number)
      → IsAtClass pr.game s pr.start number ms b
      → (x : List ℕ) × (mark : Mark) × IsStored s number x mark × (length ms ≤ mark.cost) × Wins pr.game pr.start ms
      × ((others : List Move) → Wins pr.game pr.start others
      → pr.method.strategy.weight.parts * mark.cost ≤ pr.method.strategy.weight.times * length others)
  won_within number ms b (x, mark, at, won, reached, answer, least) (y, mine, there, run, same, le) =
      let one = same_entry s number x y mark mine at there in
      let won_there : IsWon b = same.homes ∙ ap (λ k. (board_of_code pr.start k).homes) (sym one.0) ∙ won in
      let cost : mark.cost ≡ mine.cost = ap (λ m. m.cost) one.1 in (
        x,
        mark,
        at,
        omega (arith, le, cost),
        (b, run, won_there),
        λ others w. least (length others) (others, refl, w),
      )

  -- by weight 1 it has as many moves as the class costs, and is a shortest one
  pub won_length : 1 ≤ pr.method.strategy.weight.parts → IsEven pr.method.strategy.weight → (number : ℕ) (ms : List Move) (b : Board)
      → Shows (task_of_problem pr) s (status.Won number) → IsAtClass pr.game s pr.start number ms b
      → (x : List ℕ) × (mark : Mark) × IsStored s number x mark × (length ms ≡ mark.cost) × Wins pr.game pr.start ms
      × ((others : List Move) → Wins pr.game pr.start others → length ms ≤ length others)
  won_length positive light number ms b shows walked =
      let won = won_within number ms b shows walked in
      let le = won.3 in
      let most = even_most pr.method.strategy.weight won.1.cost (length ms) positive light (won.5 ms won.4) in
      let long : length ms ≡ won.1.cost = omega (arith, le, most) in (
        won.0,
        won.1,
        won.2,
        long,
        won.4,
        λ others w. let far = even_most pr.method.strategy.weight won.1.cost (length others) positive light (won.5 others w) in omega (arith, far, long),
      )

  -- the table of a search whose stored classes below n are covered shows that no list of fewer moves wins
  pub backed_below : (n : ℕ) (table : Listing) → IsSound (task_of_problem pr) s
      → ((i : ℕ) (y : List ℕ) (m : Mark) → IsStored s i y m → m.cost + bound_at s i < n → IsCoveredBelow (classes_of pr) s y m.cost n)
      → table.rule ≡ pr.method.rule → table.bound ≡ pr.method.bound → table.rule ≤ 2
      → length table.rows ≤ 16000000 → IsRising table.rows → IsPermutation (inside (guide_of pr.method.bound) n (costs_of pr.start s)) table.rows
      → IsBackedBelow pr.game pr.start n table
  backed_below n table sound done ruled bounded known few rising moved =
      let guide = guide_of pr.method.bound in
      let low = low_of pr.method.bound in
      let lower = (bounds_lower pr.method.bound).1 in
      let closed = closed_inside (task_of_problem pr) s n sound (covered_low n sound done) in
      let back = IsPermutation-sym (inside guide n (costs_of pr.start s)) table.rows moved in
      let within = λ (e : List ℕ × ℕ) (there : Contains table.rows e).
      inside_listed guide n (costs_of pr.start s) e (Contains-permutation table.rows (inside guide n (costs_of pr.start s)) e back there) in
      let own = rows_between low pr.game pr.method.rule pr.start n (as_boards table.rows) (as_boards (costs_of pr.start s)) lower (keys_closed n sound closed)
      (λ e there.
      let key = name_listed by_keys table.rows e there in
      let at = within (key.0, key.1) key.2 in
      let same : e ≡ (board_of_bytes key.0, key.1) = key.3 in (
        subst (Contains (as_boards (costs_of pr.start s))) (sym same) (board_listed by_keys (costs_of pr.start s) key.0 key.1 at.0),
        subst (λ f. IsPosition f.0) (sym same) (listed_key sound key.0 key.1 at.0).position.position,
        subst (λ f. f.1 < n) (sym same) (omega (arith, at.1)),
      ))
      (λ e there below.
      let key = name_listed by_keys (costs_of pr.start s) e there in
      let same : e ≡ (board_of_bytes key.0, key.1) = key.3 in
      let less = guides_under pr.method.bound (board_of_bytes key.0) (listed_key sound key.0 key.1 key.2).position.position in
      let near = subst (λ f. f.1 + low f.0 < n) same below in
      subst (Contains (as_boards table.rows)) (sym same)
      (board_listed by_keys table.rows key.0 key.1 (Contains-permutation (inside guide n (costs_of pr.start s)) table.rows (key.0, key.1) moved
      (listed_inside guide n (costs_of pr.start s) (key.0, key.1) key.2 (omega (arith, near, less)))))) in
      let ruled_so = subst (λ r. boards.IsClosedBelow (low_of pr.method.bound) pr.game r pr.start n (as_boards table.rows)) (sym ruled) own in record {
        listed = record {
          known = known;
          few = few;
          rising = rising;
          classes = λ e there. let at = within e there in listed_key sound e.0 e.1 at.0;
        };
        closed = subst (λ k. boards.IsClosedBelow (low_of k) pr.game table.rule pr.start n (as_boards table.rows)) (sym bounded) ruled_so;
        below = λ e there. subst (λ k. e.1 + guide_of k (board_of_bytes e.0) < n) (sym bounded) (within e there).1;
      }

  -- the table of a search that found a shortest list shows that none is shorter
  pub backed_shortest : pr.limit ≡ None → 1 ≤ pr.method.strategy.weight.parts → IsEven pr.method.strategy.weight → (number : ℕ) (ms : List Move) (table : Listing)
      → IsFound (task_of_problem pr) s number
      → (x : List ℕ) (mark : Mark) → IsStored s number x mark → length ms ≡ mark.cost → table.rule ≡ pr.method.rule → table.bound ≡ pr.method.bound → table.rule ≤ 2
      → length table.rows ≤ 16000000 → IsRising table.rows → IsPermutation (inside (guide_of pr.method.bound) (length ms) (costs_of pr.start s)) table.rows
      → IsBackedBelow pr.game pr.start (length ms) table
  backed_shortest whole positive light number ms table found x mark at long ruled bounded known few rising moved =
      let n = length ms in
      let w = found.1.0 in
      let wmark = found.1.1 in
      let one = same_entry s number x w mark wmark at found.1.2 in
      let cost : n ≡ wmark.cost = long ∙ ap (λ m. m.cost) one.1 in
      backed_below n table found.0
      (λ i y m there lt. found_covered i y m there
      (even_below pr.method.strategy.weight m.cost (bound_at s i) wmark.cost positive light (omega (arith, lt, cost))))
      ruled bounded known few rising moved
    where
      found_covered : (i : ℕ) (y : List ℕ) (m : Mark) → IsStored s i y m → weigh pr.method.strategy.weight m.cost (bound_at s i) < pr.method.strategy.weight.parts * found.1.1.cost
          → IsCoveredBelow (classes_of pr) s y m.cost (length ms)
      found_covered i y m there lt =
          let one = same_entry s number x found.1.0 mark found.1.1 at found.1.2 in
          let cost : length ms ≡ found.1.1.cost = long ∙ ap (λ k. k.cost) one.1 in
          subst (IsCoveredBelow (classes_of pr) s y m.cost) (sym cost)
          (light_covered pr.method.strategy.expansion (task_of_problem pr) s y m.cost found.1.1.cost (up_to whole found.1.1.cost) positive light (found.1.4 i y m there lt))

  -- what is shown where each stored class but one is open or expanded, and that one was taken, also where there is a limit: the
  -- stored classes below the least that is told are covered, and no list has fewer moves
  pub floor_at_holds : pr.method.strategy.weight.parts ≤ pr.method.strategy.weight.times → (number : ℕ) (x : List ℕ) (mark : Mark) (f most floor : ℕ)
      → IsSound (task_of_problem pr) s → AreSettledBut (task_of_problem pr) s number → IsStored s number x mark
      → IsUnder (task_of_problem pr) s number mark f most
      → (f_of (task_of_problem pr) s number mark < f → IsDone pr.method.strategy.expansion (task_of_problem pr) s x mark.cost f)
      → IsLeastOpen (task_of_problem pr) s most floor → IsUpTo pr.limit floor
      → ((i : ℕ) (y : List ℕ) (m : Mark) → IsStored s i y m → m.cost + bound_at s i < floor
      → IsCoveredBelow (classes_of pr) s y m.cost floor)
      × ((others : List Move) → Wins pr.game pr.start others → floor ≤ length others)
  floor_at_holds heavy number x mark f most floor sound settled at under done least up =
      let both = open_floors (classes_of pr) lawful_here
      pr.method.strategy pr.limit s number x mark f most floor heavy sound settled at under done least up in
      (both.0, λ others wins. both.1 (length others) (others, refl, wins))

  -- the same where that one tells no more than its own cost and bound
  pub floor_but_holds : pr.method.strategy.weight.parts ≤ pr.method.strategy.weight.times → (number : ℕ) (x : List ℕ) (mark : Mark) (most floor : ℕ)
      → IsSound (task_of_problem pr) s → AreSettledBut (task_of_problem pr) s number → IsStored s number x mark
      → most ≤ mark.cost + bound_at s number → IsLeastOpen (task_of_problem pr) s most floor → IsUpTo pr.limit floor
      → ((i : ℕ) (y : List ℕ) (m : Mark) → IsStored s i y m → m.cost + bound_at s i < floor
      → IsCoveredBelow (classes_of pr) s y m.cost floor)
      × ((others : List Move) → Wins pr.game pr.start others → floor ≤ length others)
  floor_but_holds heavy number x mark most floor sound settled at own least up =
      floor_at_holds heavy number x mark (f_of (task_of_problem pr) s number mark) most floor sound settled at (inl own) (λ lt. absurd (omega (arith, lt))) least up

  -- what a number is that is told as a floor: no list has fewer moves, and the stored classes below it are covered
  pub floor_holds : pr.method.strategy.weight.parts ≤ pr.method.strategy.weight.times → pr.limit ≡ None → (number : ℕ) (x : List ℕ) (mark : Mark) (floor : ℕ)
      → IsFound (task_of_problem pr) s number → IsStored s number x mark → IsLeastOpen (task_of_problem pr) s mark.cost floor
      → ((i : ℕ) (y : List ℕ) (m : Mark) → IsStored s i y m → m.cost + bound_at s i < floor
      → IsCoveredBelow (classes_of pr) s y m.cost floor)
      × ((others : List Move) → Wins pr.game pr.start others → floor ≤ length others)
  floor_holds heavy whole number x mark floor found at least =
      floor_but_holds heavy number x mark mark.cost floor found.0 found.1.5 at (omega arith) least (up_to whole floor)

  -- rows of which no two have one key, as a table of the search's rule and bound
  as_table : (rows : List (List ℕ × ℕ)) → HaveKeysOnce rows → length rows ≤ pr.method.strategy.budget
      → (table : Listing) × (table.rule ≡ pr.method.rule) × (table.bound ≡ pr.method.bound) × (length table.rows ≤ pr.method.strategy.budget) × IsRising table.rows × IsPermutation rows table.rows
  as_table rows once few =
      let all = in_order rows once in
      let long : length all.0 ≡ length rows = length_permutation rows all.0 all.1 in
      (record { rule = pr.method.rule; bound = pr.method.bound; rows = all.0 }, refl, refl, omega (arith, few, long), all.2, all.1)

  -- the rows of the stored classes below n as such a table
  inside_table : (n : ℕ) → IsSound (task_of_problem pr) s
      → (table : Listing) × (table.rule ≡ pr.method.rule) × (table.bound ≡ pr.method.bound) × (length table.rows ≤ pr.method.strategy.budget) × IsRising table.rows
      × IsPermutation (inside (guide_of pr.method.bound) n (costs_of pr.start s)) table.rows
  inside_table n sound =
      let room = sound.room in
      let test : (List ℕ × ℕ) → Bool = λ e. nat_lt (e.1 + guide_of pr.method.bound (board_of_bytes e.0)) n in
      as_table (inside (guide_of pr.method.bound) n (costs_of pr.start s))
      (inside_once (guide_of pr.method.bound) n (costs_of pr.start s) (stored_once pr s names pp sound))
      (omega (arith, length-filter test (costs_of pr.start s), count_by-le-length test (costs_of pr.start s), stored_long pr.start s, room))

  -- the verdict of a search that found a shortest list
  pub shortest_verdict : pr.limit ≡ None → 1 ≤ pr.method.strategy.weight.parts → IsEven pr.method.strategy.weight → (number : ℕ) (ms : List Move) (b : Board) → pr.method.rule ≤ 2 → pr.method.strategy.budget ≤ 16000000
      → IsFound (task_of_problem pr) s number
      → Shows (task_of_problem pr) s (status.Won number)
      → IsAtClass pr.game s pr.start number ms b → IsVerdict pr (Shortest ms)
  shortest_verdict whole positive light number ms b known few (sound, found) shows walked =
      let won = won_length positive light number ms b shows walked in
      let low = sound.low number won.0 won.1 won.2 in
      let inside_store = stands_within s number won.0 won.1 won.2 in
      let room = sound.room in
      let run = walked.3 in
      let cost = won.3 in
      let listed = inside_table (length ms) sound in
      let table = listed.0 in
      let backed = backed_shortest whole positive light number ms table (sound, found) won.0 won.1 won.2 won.3 listed.1 listed.2
      (subst (λ r. r ≤ 2) (sym listed.1) known) (omega (arith, listed.3, few)) listed.4 listed.5 in record {
        right = record { wins = won.4; least = won.5 };
        earned = tt;
        written = (run_texts pr.game pr.start b ms pp run, omega (arith, low, inside_store, room, few, cost));
        few = omega (arith, low, inside_store, room, few, cost);
        backed = record { answer = record { verdict = Shortest ms; table = Some table }; told = refl; backed = backed; searched = (listed.1, listed.2, listed.3) };
      }

  -- the verdict of a search by a greater weight that found a list, no longer than the won class costs
  pub won_verdict : pr.limit ≡ None → pr.method.strategy.weight.parts < pr.method.strategy.weight.times → (number : ℕ) (ms : List Move) (x : List ℕ) (mark : Mark) (floor : ℕ) → pr.method.rule ≤ 2 → pr.method.strategy.budget ≤ 16000000
      → IsFound (task_of_problem pr) s number → IsStored s number x mark
      → IsLeastOpen (task_of_problem pr) s mark.cost floor → length ms ≤ mark.cost → Wins pr.game pr.start ms
      → ((others : List Move) → Wins pr.game pr.start others
      → pr.method.strategy.weight.parts * mark.cost ≤ pr.method.strategy.weight.times * length others)
      → IsVerdict pr (Won ms floor)
  won_verdict whole heavy number ms x mark floor known few found at opened le wins least =
      let low = found.0.low number x mark at in
      let inside_store = stands_within s number x mark at in
      let room = found.0.room in
      let holds = floor_holds (omega (arith, heavy)) whole number x mark floor found at opened in
      let listed = inside_table floor found.0 in
      let table = listed.0 in
      let backed = backed_below floor table found.0 holds.0 listed.1 listed.2 (subst (λ r. r ≤ 2) (sym listed.1) known) (omega (arith, listed.3, few)) listed.4
      listed.5 in record {
        right = record {
          above = heavy;
          wins = wins;
          least = λ others w. let far = least others w in omega (arith, far, mul-le-mul_left pr.method.strategy.weight.parts le);
          floor = holds.1;
        };
        earned = tt;
        written = (run_texts pr.game pr.start wins.0 ms pp wins.1, omega (arith, low, inside_store, room, few, le));
        few = omega (arith, low, inside_store, room, few, le);
        backed = record { answer = record { verdict = Won ms floor; table = Some table }; told = refl; backed = backed; searched = (listed.1, listed.2, listed.3) };
      }

  -- the verdict of a search that found no way to win
  pub cannot_win_verdict : pr.limit ≡ None → pr.method.rule ≤ 2 → pr.method.strategy.budget ≤ 16000000 → IsExhausted (task_of_problem pr) s
      → Shows (task_of_problem pr) s status.CannotWin → IsVerdict pr CannotWin
  cannot_win_verdict whole known few (sound, done) none =
      let free : (List ℕ × ℕ) → List ℕ × ℕ = λ e. (e.0, 0) in
      let room = sound.room in
      let listed = as_table (at_no_cost (costs_of pr.start s)) (no_cost_once (costs_of pr.start s) (stored_once pr s names pp sound))
      (omega (arith, length-map (costs_of pr.start s) free, stored_long pr.start s, room)) in
      let table = listed.0 in
      let backed = backed_whole whole table (sound, done) listed.1 (subst (λ r. r ≤ 2) (sym listed.1) known) (omega (arith, listed.3, few)) listed.4 listed.5 in
      record {
        right = λ ms wins. subst (λ l. ReachesLimit l (length ms) → ⊥) (sym whole) (λ never. never) (none (length ms) (ms, refl, wins));
        earned = tt;
        written = tt;
        few = tt;
        backed = record { answer = record { verdict = CannotWin; table = Some table }; told = refl; backed = backed; searched = (listed.1, listed.2, listed.3) };
      }

  -- the verdict of a search that gave up
  pub gave_up_verdict : (y : List ℕ) (number told : ℕ) → Shows (task_of_problem pr) s (status.GaveUp y number)
      → told ≡ pr.method.strategy.budget → IsVerdict pr (GaveUp told)
  gave_up_verdict y number told (keys, are) same =
      let more = needs_more pr keys names pp are in record {
        right = (same, needs_reach pr more);
        earned = more;
        written = tt;
        few = tt;
        backed = record { answer = record { verdict = GaveUp told; table = None }; told = refl; backed = tt; searched = tt };
      }

-- a right verdict of a search for a shortest list is one of three
pub one_of_three : (g : GameRules) (b : Board) (budget : ℕ) (verdict : Verdict) → IsRight g 1 1 b budget verdict → IsOneOfThree g b budget verdict
one_of_three g b budget (Shortest moves) right = right
one_of_three g b budget (Won moves floor) right = let above = right.above in absurd (omega (arith, above))
one_of_three g b budget CannotWin right = right
one_of_three g b budget (GaveUp told) right = right

-- a question of a shortest list, with a start, is the problem of one
pub asked_shortest : (q : QuestionData) (g : GameRules) (rule given : ℕ) (b : Board) (budget : ℕ) → q ≡ shortest_asked g rule budget
    → rule ≡ given → problem_of q b ≡ shortest_from g given b budget
asked_shortest q g rule given b budget asked same =
    ap (λ (x : QuestionData). problem_of x b) asked ∙ ap (λ (r : ℕ). shortest_from g r b budget) same
