-- Lists of one-card moves, made one by one; where moves lead; and why a question about a list has no answer.
use Rattle.std.proofs.Common.{◌≡◌, ℕ, zero, suc, ◌+◌, ◌<◌, ◌≤◌, Bool, true, false, List, [], ◌∷◌, ◌++◌, length, take, sym, ap, subst, length-append, arith}
use Rattle.std.specs.Prelude.{All}
use Rattle.fc_position.specs.Board.{Board}
use Rattle.fc_moves.specs.declared.steps.Move.{Move}
use Rattle.fc_moves.specs.GameRules.{GameRules, IsPositionOf}
use Rattle.fc_moves.specs.MoveText.{HasText}
use Rattle.fc_moves.specs.Run.{Run}
use Rattle.fc_moves.specs.Step.{Step, Allows}
use Rattle.fc_moves.proofs.StepLemmas.{allowed_has_text, step_keeps, step_once}
use Rattle.fc_text.proofs.PartLemmas.{length-tokens_between}
use Rattle.fc_sequences.proofs.RunLemmas.{expands_run}
use Rattle.fc_replay.specs.Played.{Plays, SpellMoves, StopsAt}
use Rattle.fc_replay.specs.Token.{is_move_gap, move_tokens, SpellsMove}
use Rattle.fc_replay.proofs.PlayLemmas.{played_tokens_run, spelled_length}
use Rattle.fc_replay.proofs.ReplayLoop.{Course, Spelled, course_none, course_next, spelled_none, spelled_next, stops_here}
use Rattle.fc_lists.specs.declared.faults.PlayFault.{PlayFault}
use Rattle.fc_lists.specs.declared.faults.PlayFault.TheVariants.{NoEntry, NotAllowed, TooManyWays, ListEnds, TooLong, Memory}
use Rattle.fc_lists.specs.declared.list_plays.ListQuestion.{ListQuestion}
use Rattle.fc_lists.specs.Plays.{AreMoves, ComeTo, ComeToNone, HasEntries, IsExpanded, IsListUnanswered, wanted_tokens}
use Rattle.fc_lists.proofs.FrontLemmas.{front_all, front_done, stops_in_front}

-- the moves so far were made, which the tokens at the front of a text spell, and the others are left
pub record Made (g : GameRules) (start : Board) (text rest : List ℕ) (moves : List Move) (here : Board) : Type 0 where
  pub boards : List Board
  pub course : Course g start moves boards (length moves) here
  pub spelled : Spelled text rest moves

pub made_none : (g : GameRules) (start here : Board) (text rest : List ℕ) → rest ≡ text → here ≡ start → IsPositionOf g here
    → Made g start text rest [] here
made_none g start here text rest e same position = record {
  boards = [];
  course = course_none g start here same position;
  spelled = spelled_none text rest e;
}

pub made_next : (g : GameRules) (start : Board) (text rest more : List ℕ) (moves : List Move) (here next : Board) (token : List ℕ) (m : Move)
    → Made g start text rest moves here → move_tokens rest ≡ token ∷ move_tokens more → SpellsMove token m → Step g here m next
    → Made g start text more (moves ++ m ∷ []) next
made_next g start text rest more moves here next token m made first spells step =
    let count : length moves + 1 ≡ length (moves ++ m ∷ []) = sym (length-append moves (m ∷ [])) in
    record {
      boards = made.boards ++ next ∷ [];
      course = subst (λ k. Course g start (moves ++ m ∷ []) (made.boards ++ next ∷ []) k next) count
          (course_next g start moves made.boards (length moves) here next m made.course step);
      spelled = spelled_next text rest more moves token m made.spelled first spells;
    }

-- no more moves than bytes
pub made_few : (g : GameRules) (start : Board) (text rest : List ℕ) (moves : List Move) (here : Board) → Made g start text rest moves here
    → length moves ≤ length text
made_few g start text rest moves here made =
    let size = ap length made.spelled.parts in
    let count = spelled_length made.spelled.front moves made.spelled.spelled in
    omega (arith, count, size, length-append made.spelled.front (move_tokens rest), length-tokens_between is_move_gap text)

module _ (g : GameRules) (start : Board) (text rest : List ℕ) (moves : List Move) (here : Board) (n : ℕ) (made : Made g start text rest moves here) where
  -- they run
  made_run : Run g start moves here
  made_run =
      let plays : Plays g start made.spelled.front made.boards = record {
        moves = moves;
        spelled = made.spelled.spelled;
        passed = made.course.passed;
      } in
      let run = (played_tokens_run g start made.spelled.front made.boards plays).0 in
      subst (λ c. Run g start moves c) (sym made.course.place) run

  made_moves : take n (move_tokens text) ≡ made.spelled.front → AreMoves g start (take n (move_tokens text)) moves
  made_moves front = record {
    spelled = subst (λ l. SpellMoves l moves) (sym front) made.spelled.spelled;
    last = here;
    run = made_run;
  }

  -- as many moves as are wanted
  pub made_done : n ≤ length moves → length moves ≤ n → AreMoves g start (take n (move_tokens text)) moves
  made_done least most =
      let count = spelled_length made.spelled.front moves made.spelled.spelled in
      made_moves (front_done made.spelled.front (move_tokens rest) (move_tokens text) n made.spelled.parts
      (omega (arith, count, least)) (omega (arith, count, most)))

  -- all moves, where no more are wanted
  pub made_all : move_tokens rest ≡ [] → length moves ≤ n → AreMoves g start (take n (move_tokens text)) moves
  made_all none most =
      let count = spelled_length made.spelled.front moves made.spelled.spelled in
      made_moves (front_all made.spelled.front (move_tokens rest) (move_tokens text) n made.spelled.parts none (omega (arith, count, most)))

  -- the next token is wanted, and fails
  pub made_stops : (Fails : Board → List ℕ → Type 0) (more : List (List ℕ)) (token : List ℕ) → move_tokens rest ≡ token ∷ more
      → Fails here token → length moves < n
      → (boards : List Board) × StopsAt Fails g start (take n (move_tokens text)) boards (length moves + 1)
  made_stops Fails more token first fails less =
      let stops = stops_here Fails g start text rest more moves made.boards (length moves) here token made.course made.spelled first fails in
      (made.boards, stops_in_front Fails g start (move_tokens text) made.boards (length moves + 1) n stops (omega (arith, less)))

-- moves that run from a position of the game are being made: the others run on from here
pub record Underway (g : GameRules) (start : Board) (all left : List Move) (here : Board) : Type 0 where
  pub end : Board
  pub whole : Run g start all end
  pub run : Run g here left end
  pub position : IsPositionOf g here

pub underway_none : (g : GameRules) (start here : Board) (all left : List Move) → here ≡ start → left ≡ all → IsPositionOf g start
    → (c : Board) × Run g start all c → Underway g start all left here
underway_none g start here all left same whole position (end, run) = record {
  end = end;
  whole = run;
  run = subst (λ l. Run g here l end) (sym whole) (subst (λ b. Run g b all end) (sym same) run);
  position = subst (λ b. IsPositionOf g b) (sym same) position;
}

pub underway_allowed : (g : GameRules) (start here : Board) (all left more : List Move) (m : Move) → Underway g start all left here
    → left ≡ m ∷ more → Allows g here m
underway_allowed g start here all left more m way first =
    let on : Run g here (m ∷ more) way.end = subst (λ l. Run g here l way.end) first way.run in
    (on.0, on.1)

pub underway_next : (g : GameRules) (start here next : Board) (all left more : List Move) (m : Move) → Underway g start all left here
    → left ≡ m ∷ more → Step g here m next → Underway g start all more next
underway_next g start here next all left more m way first step =
    let on : Run g here (m ∷ more) way.end = subst (λ l. Run g here l way.end) first way.run in
    record {
      end = way.end;
      whole = way.whole;
      run = subst (λ b. Run g b more way.end) (step_once g here m on.0 next on.1 step) on.2;
      position = step_keeps g here next m way.position step;
    }

pub underway_done : (g : GameRules) (start here : Board) (all left : List Move) → Underway g start all left here → left ≡ []
    → Run g start all here
underway_done g start here all left way none =
    let same : way.end ≡ here = subst (λ l. Run g here l way.end) none way.run in
    subst (λ c. Run g start all c) same way.whole

-- each move of a run from a position of the game has a text
pub run_texts : (g : GameRules) (b c : Board) (ms : List Move) → IsPositionOf g b → Run g b ms c → All HasText ms
run_texts g b c [] p run k d less = absurd (omega (arith, less))
run_texts g b c (m ∷ ms) p (mid, step, rest) zero d less = allowed_has_text g b m p.position (mid, step)
run_texts g b c (m ∷ ms) p (mid, step, rest) (suc k) d less =
    run_texts g mid c ms (step_keeps g b mid m p step) rest k d (omega (arith, less))

-- so has each that tokens spell, and each of those that expand tokens
module _ (g : GameRules) (b : Board) (tokens : List (List ℕ)) (moves : List Move) (position : IsPositionOf g b) where
  pub made_texts : AreMoves g b tokens moves → All HasText moves
  made_texts made = run_texts g b made.last moves position made.run

  pub expanded_texts : IsExpanded g b tokens moves → All HasText moves
  expanded_texts it = run_texts g b it.last moves position (expands_run g b it.last it.pairs moves it.expanded)

-- the moves to which tokens come run
pub come_run : (has_sequences : Bool) (g : GameRules) (b : Board) (tokens : List (List ℕ)) (moves : List Move)
    → ComeTo has_sequences g b tokens moves → (c : Board) × Run g b moves c
come_run true g b tokens moves come = (come.last, expands_run g b come.last come.pairs moves come.expanded)
come_run false g b tokens moves come = (come.last, come.run)

-- tokens come to no moves for causes of their own alone
never_ends : (has_sequences : Bool) (g : GameRules) (b : Board) (tokens : List (List ℕ)) (count : ℕ)
    → ComeToNone has_sequences g b tokens (ListEnds count) → ⊥
never_ends true g b tokens count why = why
never_ends false g b tokens count why = why

-- where there are as many tokens as are asked of, that these come to no moves is why there is no answer
pub unanswered : (q : ListQuestion) (g : GameRules) (b : Board) (tokens : List (List ℕ)) (fault : PlayFault) → HasEntries q.wants tokens
    → ComeToNone q.has_sequences g b (wanted_tokens q.wants tokens) fault → IsListUnanswered q g b tokens fault
unanswered q g b tokens (ListEnds count) there why = absurd (never_ends q.has_sequences g b (wanted_tokens q.wants tokens) count why)
unanswered q g b tokens (NoEntry step) there why = (there, why)
unanswered q g b tokens (NotAllowed step) there why = (there, why)
unanswered q g b tokens (TooManyWays step) there why = (there, why)
unanswered q g b tokens TooLong there why = (there, why)
unanswered q g b tokens Memory there why = (there, why)
