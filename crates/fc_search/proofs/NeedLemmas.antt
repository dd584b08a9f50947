-- Work that was needed: the boards of the keys that a search had to store.
use Rattle.std.proofs.Common.{◌≡◌, ℕ, zero, suc, ◌+◌, ◌*◌, List, [], ◌∷◌, ◌++◌, length, get_or, Some, refl, ◌∙◌, ap, subst, inl, inr, arith}
use Rattle.std.specs.Prelude.{All, AllPairs, slice_get}
use Rattle.std.proofs.lemmas.List.Elements.{All-cons}
use Rattle.std.proofs.lemmas.List.Kept.{AllPairs-cons}
use Rattle.std.proofs.lemmas.Option.{slice_get-get_or}
use Rattle.fc_position.specs.Board.{Board}
use Rattle.fc_moves.specs.GameRules.{IsPositionOf}
use Rattle.fc_moves.specs.Run.{CanReach, ReachesMore}
use Rattle.fc_moves.proofs.StepLemmas.{step_keeps, run_keeps}
use Rattle.fc_moves.specs.Class.{SameClass}
use Rattle.fc_moves.proofs.ClassLemmas.{class-refl, class-sym, class_step}
use Rattle.fc_home.specs.Settles.{Settles}
use Rattle.fc_home.proofs.MateLemmas.{class_settle}
use Rattle.fc_home.proofs.SettleLemmas.{settles_keep, settles_run}
use Rattle.fc_bound.proofs.RingLaws.{mates_show}
use Rattle.fc_best_first.specs.declared.strategies.Expansion.{Expansion}
use Rattle.fc_best_first.specs.declared.strategies.Expansion.TheVariants.{Full, Partial}
use Rattle.fc_best_first.specs.Kept as kept
use Rattle.fc_best_first.specs.Shown.{AreNeeded}
use Rattle.fc_codes.specs.State.{IsCodeOf}
use Rattle.fc_codes.specs.Spelled.{board_of_code}
use Rattle.fc_classes.specs.Namings.{IsNaming, by_codes}
use Rattle.fc_classes.proofs.NamingLemmas.{spelled_name}
use Rattle.fc_classes.proofs.PathLemmas.{reached_of_positions, reached_run_to, settles_none, run_on}
use Rattle.fc_search.specs.Problem.{Problem, classes_of, task_of_problem}
use Rattle.fc_search.specs.Need.{IsNeeded, IsNeededBy, NeedsMore}

-- a position of the game whose code had to be stored
record Needed (expansion : Expansion) (pr : Problem) (x : List ℕ) : Type 0 where
  board : Board
  needed : IsNeededBy expansion pr board
  code : IsCodeOf pr.start board x
  position : IsPositionOf pr.game board

-- each code that came by needed work is that of a board that was needed
board_of_full : (pr : Problem) (y : List ℕ) → IsNaming (by_codes pr.start) pr.game pr.start → IsPositionOf pr.game pr.start
    → kept.IsNeeded Full (classes_of pr) pr.method.strategy.weight y → Needed Full pr y
board_of_full pr y names pp (inl (d, (q, settles, code))) = record {
  board = q;
  needed = inl (record { count = d; settles = settles });
  code = code;
  position = settles_keep pr.game pr.method.rule pr.start q d pp settles;
}
board_of_full pr y names pp (inr (x, d, c, reached, (kw, (m, z, count, step, (q, settles, code), paid)), (bound, note, shown, least))) =
    let naming = by_codes pr.start in
    let before = reached_run_to naming pr.method.bound pr.game pr.method.rule pr.start x d names pp reached in
    let b = before.1 in
    let same = before.4 in
    let back = class-sym b (board_of_code pr.start x) same in
    let pb = run_keeps pr.game pr.start b before.0 pp before.3 in
    let there = class_step pr.game (board_of_code pr.start x) b z m kw.position pb back step in
    let settled = class_settle pr.game pr.method.rule z there.1 q count there.3 settles in
    let still = class_settle pr.game pr.method.rule (board_of_code pr.start x) b (board_of_code pr.start x) 0 back (reached_of_positions naming pr.method.bound pr.game pr.method.rule pr.start x d names pp reached).1 in
    let stays = subst (Settles pr.game pr.method.rule b 0) (settles_none pr.game pr.method.rule b still.0 still.1) still.1 in
    record {
      board = settled.0;
      needed = inr (record {
        moves = before.0;
        parent = b;
        led = before.3;
        settled = stays;
        step = there.0;
        child = there.1;
        stepped = there.2;
        count = count;
        settles = settled.1;
        bound = bound;
        note = note;
        shown = mates_show pr.method.bound (board_of_code pr.start x) b bound note back shown;
        least = λ wins w. let most = least (length wins) (wins, refl, w) in let long = ap (λ n. pr.method.strategy.weight.parts * n) before.2 in omega (arith, most, long);
      });
      code = names.alike q settled.0 y (settles_keep pr.game pr.method.rule z q count (step_keeps pr.game (board_of_code pr.start x) z m kw.position step) settles).position
          settled.2 code;
      position = settles_keep pr.game pr.method.rule there.1 settled.0 count (step_keeps pr.game b there.1 there.0 pb there.2) settled.1;
    }

board_of_partial : (pr : Problem) (y : List ℕ) → IsNaming (by_codes pr.start) pr.game pr.start → IsPositionOf pr.game pr.start
    → kept.IsNeeded Partial (classes_of pr) pr.method.strategy.weight y → Needed Partial pr y
board_of_partial pr y names pp (d, reached, (bound, note, shown, least)) =
    let naming = by_codes pr.start in
    let before = reached_run_to naming pr.method.bound pr.game pr.method.rule pr.start y d names pp reached in
    let b = before.1 in
    let same = before.4 in
    let key = reached_of_positions naming pr.method.bound pr.game pr.method.rule pr.start y d names pp reached in
    let still = class_settle pr.game pr.method.rule (board_of_code pr.start y) b (board_of_code pr.start y) 0 (class-sym b (board_of_code pr.start y) same) key.1 in
    let stays = subst (Settles pr.game pr.method.rule b 0) (settles_none pr.game pr.method.rule b still.0 still.1) still.1 in record {
      board = b;
      needed = record {
        moves = before.0;
        led = before.3;
        settled = stays;
        bound = bound;
        note = note;
        shown = mates_show pr.method.bound (board_of_code pr.start y) b bound note (class-sym b (board_of_code pr.start y) same) shown;
        least = λ wins w. let most = least (length wins) (wins, refl, w) in let long = ap (λ n. pr.method.strategy.weight.parts * n) before.2 in omega (arith, most, long);
      };
      code = spelled_name naming pr.game pr.start b y names key.0 (class-sym b (board_of_code pr.start y) same);
      position = run_keeps pr.game pr.start b before.0 pp before.3;
    }

board_of : (expansion : Expansion) (pr : Problem) (y : List ℕ) → IsNaming (by_codes pr.start) pr.game pr.start → IsPositionOf pr.game pr.start
    → kept.IsNeeded expansion (classes_of pr) pr.method.strategy.weight y → Needed expansion pr y
board_of Full pr y names pp needed = board_of_full pr y names pp needed
board_of Partial pr y names pp needed = board_of_partial pr y names pp needed

-- the boards of different codes, one for each
record Boards (pr : Problem) (keys : List (List ℕ)) : Type 0 where
  boards : List Board
  count : length boards ≡ length keys
  different : AllPairs (λ x y. SameClass x y → ⊥) boards
  needed : All (IsNeeded pr) boards
  of : (i : ℕ) (b : Board) → slice_get boards i ≡ Some b
      → (x : List ℕ) × (slice_get keys i ≡ Some x) × IsCodeOf pr.start b x × IsPositionOf pr.game b

boards_of : (pr : Problem) (keys : List (List ℕ)) → IsNaming (by_codes pr.start) pr.game pr.start → IsPositionOf pr.game pr.start
    → ((i j : ℕ) (x : List ℕ) → slice_get keys i ≡ Some x → slice_get keys j ≡ Some x → i ≡ j)
    → ((i : ℕ) (x : List ℕ) → slice_get keys i ≡ Some x
    → kept.IsNeeded pr.method.strategy.expansion (classes_of pr) pr.method.strategy.weight x)
    → Boards pr keys
boards_of pr [] names pp once needed = record {
  boards = [];
  count = refl;
  different = λ i j d lt within. absurd (omega (arith, within));
  needed = λ k d lt. absurd (omega (arith, lt));
  of = λ i b at. absurd (cc);
}
boards_of pr (x ∷ keys) names pp once needed =
    let rest = boards_of pr keys names pp (λ i j y a b. let e = once (suc i) (suc j) y a b in omega (arith, e)) (λ i y a. needed (suc i) y a) in
    let first = board_of pr.method.strategy.expansion pr x names pp (needed 0 x refl) in
    let others : All (λ c. SameClass first.board c → ⊥) rest.boards = λ k d lt same.
    let c = get_or rest.boards k d in
    let at = rest.of k c (slice_get-get_or rest.boards k d lt) in
    let keys_same : at.0 ≡ x =
    (names.tells c first.board at.0 x at.3.position first.position.position at.2 first.code).1 (class-sym first.board c same) in
    let twice = once 0 (suc k) x refl (at.1 ∙ ap (λ y. Some y) keys_same) in
    omega (arith, twice) in record {
      boards = first.board ∷ rest.boards;
      count = ap suc rest.count;
      different = AllPairs-cons (λ y z. SameClass y z → ⊥) first.board rest.boards others rest.different;
      needed = All-cons (IsNeeded pr) first.board rest.boards first.needed rest.needed;
      of = front rest first;
    }
  where
    front : (rest : Boards pr keys) (first : Needed pr.method.strategy.expansion pr x) (i : ℕ) (b : Board)
        → slice_get (first.board ∷ rest.boards) i ≡ Some b
        → (y : List ℕ) × (slice_get (x ∷ keys) i ≡ Some y) × IsCodeOf pr.start b y × IsPositionOf pr.game b
    front rest first zero b at =
        let same : first.board ≡ b = cc in
        (x, refl, subst (λ c. IsCodeOf pr.start c x) same first.code, subst (IsPositionOf pr.game) same first.position)
    front rest first (suc i) b at = rest.of i b at

-- so where different codes came by needed work, so many classes had to be stored
pub needs_more : (pr : Problem) (keys : List (List ℕ)) → IsNaming (by_codes pr.start) pr.game pr.start → IsPositionOf pr.game pr.start
    → AreNeeded (task_of_problem pr) (pr.method.strategy.budget + 1) keys → NeedsMore pr
needs_more pr keys names pp are =
    let bs = boards_of pr keys names pp are.once are.needed in record {
      boards = bs.boards;
      count = bs.count ∙ are.many;
      different = bs.different;
      needed = bs.needed;
    }

-- a board that is needed can be reached
needed_reached : (expansion : Expansion) (pr : Problem) (z : Board) → IsNeededBy expansion pr z → CanReach pr.game pr.start z
needed_reached Full pr z (inl first) =
    let by = first.settles in
    (by.0, settles_run pr.game pr.method.rule pr.start z by.0 by.2)
needed_reached Full pr z (inr next) =
    let by = next.settles in (
      next.moves ++ next.step ∷ by.0,
      run_on pr.game pr.start next.parent z next.moves (next.step ∷ by.0) next.led (next.child, next.stepped, settles_run pr.game pr.method.rule next.child z by.0 by.2),
    )
needed_reached Partial pr z met = (met.moves, met.led)

-- so more positions than the budget can be reached
pub needs_reach : (pr : Problem) → NeedsMore pr → ReachesMore pr.game pr.start pr.method.strategy.budget
needs_reach pr more = record {
  boards = more.boards;
  count = more.count;
  different = λ i j d lt within same. more.different i j d lt within
      (subst (SameClass (get_or more.boards i d)) same (class-refl (get_or more.boards i d)));
  reached = λ k d lt. needed_reached pr.method.strategy.expansion pr (get_or more.boards k d) (more.needed k d lt);
}
