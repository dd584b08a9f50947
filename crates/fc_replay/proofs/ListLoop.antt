-- Making the moves of a list that runs.
use Rattle.std.proofs.Common.{◌≡◌, ℕ, ◌+◌, ◌<◌, Bool, false, List, [], ◌∷◌, ◌++◌, length, drop, get_or, Option, refl, sym, ◌∙◌, ap, subst, append_assoc, add-one, drop-cons}
use Rattle.std.specs.Prelude.{Err}
use Rattle.fc_position.specs.Board.{Board}
use Rattle.fc_io.specs.declared.devices.Failed.{Failed}
use Rattle.fc_io.specs.Moves.{TakesBytes, TakesFront}
use Rattle.fc_moves.specs.declared.steps.Move.{Move}
use Rattle.fc_moves.specs.GameRules.{GameRules}
use Rattle.fc_moves.specs.Run.{Run}
use Rattle.fc_moves.specs.Step.{Step, Allows}
use Rattle.fc_moves.proofs.StepLemmas.{step_once}
use Rattle.fc_replay.specs.declared.pages.Page.{Page}
use Rattle.fc_replay.specs.Page.{page_text, pages_text}
use Rattle.fc_replay.specs.Telling.{told_move}
use Rattle.fc_replay.specs.Played.{PlaysAs, Passes, board_after, sink_change}
use Rattle.fc_replay.proofs.PageLemmas.{pages_text-append, front_of_more}
use Rattle.fc_replay.proofs.PlayLemmas.{passes_append, passed_length, run_passes}
use Rattle.fc_replay.proofs.ReplayLoop.{Course, Sheets, course_next, sheets_next, sheets_failed}

-- the moves so far were made and their pages are written, and the moves that are left run on
pub record OnTheWay (page : Page) (g : GameRules) (start : Board) (all left : List Move) (steps : ℕ) (here : Board) (old new : Option (List ℕ)) (before after : Bool) : Type 0 where
  pub moves : List Move
  pub boards : List Board
  pub course : Course g start moves boards steps here
  pub sheets : Sheets page g start moves boards old new before after
  pub parts : moves ++ left ≡ all
  pub end : Board
  pub run : Run g here left end

-- the moves from a place on
pub moves_from : (i : ℕ) (ms : List Move) (d : Move) → i < length ms → drop i ms ≡ get_or ms i d ∷ drop (i + 1) ms
moves_from i ms d within = rw (add-one, drop-cons ms i d)

-- the next move is allowed, and the others run on from where it leads
next_runs : (g : GameRules) (here next end : Board) (left more : List Move) (m : Move) → left ≡ m ∷ more → Run g here left end
    → Step g here m next → Run g next more end
next_runs g here next end left more m first run step =
    let on : Run g here (m ∷ more) end = subst (λ l. Run g here l end) first run in
    subst (λ b. Run g b more end) (step_once g here m on.0 next on.1 step) on.2

pub way_allowed : (page : Page) (g : GameRules) (start : Board) (all left more : List Move) (steps : ℕ) (here : Board) (old new : Option (List ℕ)) (before after : Bool) (m : Move)
    → OnTheWay page g start all left steps here old new before after → left ≡ m ∷ more → Allows g here m
way_allowed page g start all left more steps here old new before after m way first =
    let on : Run g here (m ∷ more) way.end = subst (λ l. Run g here l way.end) first way.run in
    (on.0, on.1)

-- the moves so far, the next one, and the others
next_parts : (moves left more all : List Move) (m : Move) → moves ++ left ≡ all → left ≡ m ∷ more → (moves ++ m ∷ []) ++ more ≡ all
next_parts moves left more all m parts first = append_assoc moves (m ∷ []) more ∙ ap (λ l. moves ++ l) (sym first) ∙ parts

-- the next move was made, and its page is written
pub way_next : (page : Page) (g : GameRules) (start : Board) (all left more : List Move) (steps : ℕ) (here next : Board) (old new newer : Option (List ℕ)) (before after later : Bool) (m : Move) (n : ℕ)
    → OnTheWay page g start all left steps here old new before after → left ≡ m ∷ more → Step g here m next
    → n ≡ g.cells → TakesBytes new newer (page_text page n (told_move (steps + 1) here m) next) → after ≡ false → later ≡ false
    → OnTheWay page g start all more (steps + 1) next old newer before later
way_next page g start all left more steps here next old new newer before after later m n way first step cells taken sound still = record {
  moves = way.moves ++ m ∷ [];
  boards = way.boards ++ next ∷ [];
  course = course_next g start way.moves way.boards steps here next m way.course step;
  sheets = sheets_next page g start way.moves way.boards steps here next old new newer before after later m n way.course way.sheets cells taken sound still;
  parts = next_parts way.moves left more all m way.parts first;
  end = way.end;
  run = next_runs g here next way.end left more m first way.run step;
}

-- the sink failed at the page of the next move
pub way_failed : (page : Page) (g : GameRules) (start : Board) (all left more : List Move) (steps : ℕ) (here next : Board) (old new newer : Option (List ℕ)) (before after : Bool) (m : Move) (n : ℕ) (fault : Failed)
    → OnTheWay page g start all left steps here old new before after → left ≡ m ∷ more → Step g here m next
    → n ≡ g.cells → TakesFront new newer (page_text page n (told_move (steps + 1) here m) next)
    → PlaysAs page g start all (sink_change old newer) (Err fault)
way_failed page g start all left more steps here next old new newer before after m n fault way first step cells taken =
    let moves = way.moves ++ m ∷ [] in
    let boards = way.boards ++ next ∷ [] in
    let course : Course g start moves boards (steps + 1) next =
    course_next g start way.moves way.boards steps here next m way.course step in
    let others = run_passes g next more way.end (next_runs g here next way.end left more m first way.run step) in
    let passed : Passes g start (moves ++ more) (boards ++ others.0) =
    passes_append g start moves more boards others.0 course.passed (subst (λ b. Passes g b more others.0) course.place others.1) in
    let whole : moves ++ more ≡ all = next_parts way.moves left more all m way.parts first in
    let text =
    pages_text-append page g.cells 1 (1 + length moves) start moves more boards others.0 (passed_length g start moves boards course.passed) refl in
    let front : TakesFront old newer (pages_text page g.cells 1 start (moves ++ more) (boards ++ others.0)) =
    subst (TakesFront old newer) (sym text)
    (front_of_more old newer (pages_text page g.cells 1 start moves boards) (pages_text page g.cells (1 + length moves) (board_after start boards) more others.0)
    (sheets_failed page g start way.moves way.boards steps here next old new newer before after m n way.course way.sheets cells taken)) in
    record {
      boards = boards ++ others.0;
      passed = subst (λ ms. Passes g start ms (boards ++ others.0)) whole passed;
      written = subst (λ ms. TakesFront old newer (pages_text page g.cells 1 start ms (boards ++ others.0))) whole front;
      count = tt;
      won = tt;
    }
