-- Making moves one by one, the tokens that spell them, and the pages that are written of them.
use Rattle.std.proofs.Common.{◌≡◌, ℕ, ◌+◌, ◌≤◌, Bool, false, List, [], ◌∷◌, ◌++◌, take, length, Option, refl, sym, ◌∙◌, ap, subst, append_assoc, append-nil, length-append, arith}
use Rattle.std.specs.Prelude.{◌↔◌, IsTrue, Result, Ok, Err, IsErr, IsErrAnd}
use Rattle.std.proofs.lemmas.Bool.{false≢true}
use Rattle.std.proofs.Math.Seq.{take-append_seam}
use Rattle.fc_position.specs.Board.{Board}
use Rattle.fc_position.specs.Position.{IsWon}
use Rattle.fc_io.specs.Moves.{TakesBytes, TakesFront, Stays}
use Rattle.fc_io.proofs.MoveLemmas.{TakesBytes-none, TakesBytes-both, takes_then_front}
use Rattle.fc_moves.specs.declared.steps.Move.{Move}
use Rattle.fc_moves.specs.GameRules.{GameRules, IsPositionOf}
use Rattle.fc_moves.specs.Step.{Step, Allows}
use Rattle.fc_moves.proofs.StepLemmas.{step_keeps}
use Rattle.fc_replay.specs.declared.faults.ReplayFault.TheVariants.{BadMove, NotAllowed, Write}
use Rattle.fc_replay.specs.declared.pages.Page.{Page}
use Rattle.fc_replay.specs.declared.replays.Ended.{Ended}
use Rattle.fc_replay.specs.Page.{page_text, pages_text}
use Rattle.fc_replay.specs.Telling.{told_move}
use Rattle.fc_replay.specs.Token.{is_move_gap, move_tokens, SpellsMove, IsNoMove}
use Rattle.fc_replay.specs.Played.{Passes, Plays, SpellMoves, StopsAt, IsNotAllowed, ReplaysAs, BeginsWithStep, board_after, sink_change}
use Rattle.fc_text.proofs.PartLemmas.{length-tokens_between}
use Rattle.fc_replay.proofs.PageLemmas.{pages_text-append}
use Rattle.fc_replay.proofs.PlayLemmas.{spell_push, passes_append, board_after_push, no_moves_pass, none_spelled, spelled_length, passed_length, spelled_once}

-- moves that were made from a board, the boards that they pass, and where they lead
pub record Course (g : GameRules) (start : Board) (moves : List Move) (boards : List Board) (steps : ℕ) (here : Board) : Type 0 where
  pub passed : Passes g start moves boards
  pub count : steps ≡ length moves
  pub place : here ≡ board_after start boards
  pub position : IsPositionOf g here

pub course_none : (g : GameRules) (start here : Board) → here ≡ start → IsPositionOf g here → Course g start [] [] 0 here
course_none g start here same position = record { passed = refl; count = refl; place = same; position = position }

pub course_next : (g : GameRules) (start : Board) (moves : List Move) (boards : List Board) (steps : ℕ) (here next : Board) (m : Move)
    → Course g start moves boards steps here → Step g here m next
    → Course g start (moves ++ m ∷ []) (boards ++ next ∷ []) (steps + 1) next
course_next g start moves boards steps here next m course step = record {
  passed = passes_append g start moves (m ∷ []) boards (next ∷ []) course.passed (subst (λ b. Step g b m next) course.place step, refl);
  count = omega (arith, course.count, length-append moves (m ∷ []));
  place = sym (board_after_push start boards next);
  position = step_keeps g here next m course.position step;
}

-- the pages of moves were written to a sink that hasn't failed meanwhile; one that had failed took nothing
pub record Sheets (page : Page) (g : GameRules) (start : Board) (moves : List Move) (boards : List Board) (old new : Option (List ℕ)) (before after : Bool) : Type 0 where
  pub taken : TakesBytes old new (pages_text page g.cells 1 start moves boards)
  pub same : after ≡ before
  pub idle : IsTrue before → moves ≡ []
  pub unmoved : IsTrue before → Stays old new

pub sheets_none : (page : Page) (g : GameRules) (start : Board) (held : Option (List ℕ)) (failed : Bool) → Sheets page g start [] [] held held failed failed
sheets_none page g start held failed = record {
  taken = TakesBytes-none held;
  same = refl;
  idle = λ _. refl;
  unmoved = λ _. refl;
}

-- the page of the next step, as it stands behind those so far
next_page : (page : Page) (g : GameRules) (start : Board) (moves : List Move) (boards : List Board) (steps : ℕ) (here next : Board) (m : Move) (n : ℕ)
    → Course g start moves boards steps here → n ≡ g.cells
    → pages_text page g.cells 1 start moves boards ++ page_text page n (told_move (steps + 1) here m) next
    ≡ pages_text page g.cells 1 start (moves ++ m ∷ []) (boards ++ next ∷ [])
next_page page g start moves boards steps here next m n course cells =
    let last = board_after start boards in
    let text = page_text page g.cells (told_move (steps + 1) last m) next in
    ap (λ t. pages_text page g.cells 1 start moves boards ++ t)
    (ap (λ k. page_text page k (told_move (steps + 1) here m) next) cells
    ∙ ap (λ b. page_text page g.cells (told_move (steps + 1) b m) next) course.place ∙ sym (append-nil text))
    ∙ sym (pages_text-append page g.cells 1 (steps + 1) start moves (m ∷ []) boards (next ∷ [])
    (passed_length g start moves boards course.passed) (omega (arith, course.count)))

pub sheets_next : (page : Page) (g : GameRules) (start : Board) (moves : List Move) (boards : List Board) (steps : ℕ) (here next : Board) (old new newer : Option (List ℕ)) (before after later : Bool) (m : Move) (n : ℕ)
    → Course g start moves boards steps here → Sheets page g start moves boards old new before after → n ≡ g.cells
    → TakesBytes new newer (page_text page n (told_move (steps + 1) here m) next) → after ≡ false → later ≡ false
    → Sheets page g start (moves ++ m ∷ []) (boards ++ next ∷ []) old newer before later
sheets_next page g start moves boards steps here next old new newer before after later m n course sheets cells taken sound still =
    let fails : IsTrue before → ⊥ = λ t. absurd (false≢true (sym sound ∙ sheets.same ∙ t)) in
    record {
      taken = subst (TakesBytes old newer) (next_page page g start moves boards steps here next m n course cells)
          (TakesBytes-both old new newer (pages_text page g.cells 1 start moves boards) (page_text page n (told_move (steps + 1) here m) next) sheets.taken taken);
      same = still ∙ sym sound ∙ sheets.same;
      idle = λ t. absurd (fails t);
      unmoved = λ t. absurd (fails t);
    }

-- the sink failed at the page of the next step
pub sheets_failed : (page : Page) (g : GameRules) (start : Board) (moves : List Move) (boards : List Board) (steps : ℕ) (here next : Board) (old new newer : Option (List ℕ)) (before after : Bool) (m : Move) (n : ℕ)
    → Course g start moves boards steps here → Sheets page g start moves boards old new before after → n ≡ g.cells
    → TakesFront new newer (page_text page n (told_move (steps + 1) here m) next)
    → TakesFront old newer (pages_text page g.cells 1 start (moves ++ m ∷ []) (boards ++ next ∷ []))
sheets_failed page g start moves boards steps here next old new newer before after m n course sheets cells taken =
    subst (TakesFront old newer) (next_page page g start moves boards steps here next m n course cells)
    (takes_then_front old new newer (pages_text page g.cells 1 start moves boards) (page_text page n (told_move (steps + 1) here m) next) sheets.taken taken)

-- the moves are those of the tokens at the front of a text, and the others are left
pub record Spelled (text rest : List ℕ) (moves : List Move) : Type 0 where
  pub front : List (List ℕ)
  pub parts : front ++ move_tokens rest ≡ move_tokens text
  pub spelled : SpellMoves front moves

pub spelled_none : (text rest : List ℕ) → rest ≡ text → Spelled text rest []
spelled_none text rest e = record { front = []; parts = ap move_tokens e; spelled = refl }

-- the tokens so far, and the next one
next_parts : (front rest more all : List (List ℕ)) (token : List ℕ) → front ++ rest ≡ all → rest ≡ token ∷ more
    → (front ++ token ∷ []) ++ more ≡ all
next_parts front rest more all token parts first =
    append_assoc front (token ∷ []) more ∙ ap (λ l. front ++ l) (sym first) ∙ parts

pub spelled_next : (text rest more : List ℕ) (moves : List Move) (token : List ℕ) (m : Move) → Spelled text rest moves
    → move_tokens rest ≡ token ∷ move_tokens more → SpellsMove token m → Spelled text more (moves ++ m ∷ [])
spelled_next text rest more moves token m so first spells = record {
  front = so.front ++ token ∷ [];
  parts = next_parts so.front (move_tokens rest) (move_tokens more) (move_tokens text) token so.parts first;
  spelled = spell_push so.front moves token m so.spelled spells;
}

-- the tokens at the front are as many as the moves
take_front : (front rest all : List (List ℕ)) (n : ℕ) → n ≡ length front → front ++ rest ≡ all → take n all ≡ front
take_front front rest all n count parts =
    ap (λ k. take k all) count ∙ ap (λ l. take (length front) l) (sym parts) ∙ take-append_seam front rest

pub spelled_front : (text rest : List ℕ) (moves : List Move) → Spelled text rest moves
    → SpellMoves (take (length moves) (move_tokens text)) moves
spelled_front text rest moves so =
    subst (λ l. SpellMoves l moves)
    (sym (take_front so.front (move_tokens rest) (move_tokens text) (length moves) (sym (spelled_length so.front moves so.spelled)) so.parts))
    so.spelled

-- moves that were made play the tokens that spell them
played : (g : GameRules) (start : Board) (text rest : List ℕ) (moves : List Move) (boards : List Board) (steps : ℕ) (here : Board)
    → Course g start moves boards steps here → (so : Spelled text rest moves) → Plays g start so.front boards
played g start text rest moves boards steps here course so = record { moves = moves; spelled = so.spelled; passed = course.passed }

front_length : (g : GameRules) (start : Board) (text rest : List ℕ) (moves : List Move) (boards : List Board) (steps : ℕ) (here : Board)
    → Course g start moves boards steps here → (so : Spelled text rest moves) → steps ≡ length so.front
front_length g start text rest moves boards steps here course so =
    course.count ∙ sym (spelled_length so.front moves so.spelled)

-- there is room for the number of a step that is left
pub step_fits : (g : GameRules) (start : Board) (text rest : List ℕ) (more : List (List ℕ)) (moves : List Move) (boards : List Board) (steps : ℕ) (here : Board) (token : List ℕ)
    → Course g start moves boards steps here → Spelled text rest moves → move_tokens rest ≡ token ∷ more
    → steps + 1 ≤ length text
step_fits g start text rest more moves boards steps here token course so first =
    let size = ap length so.parts in
    let left = ap length first in
    let count = front_length g start text rest moves boards steps here course so in
    omega (arith, count, size, left, length-append so.front (move_tokens rest), length-tokens_between is_move_gap text)

-- the next token fails where the others led
pub stops_here : (Fails : Board → List ℕ → Type 0) (g : GameRules) (start : Board) (text rest : List ℕ) (more : List (List ℕ)) (moves : List Move) (boards : List Board) (steps : ℕ) (here : Board) (token : List ℕ)
    → Course g start moves boards steps here → Spelled text rest moves → move_tokens rest ≡ token ∷ more
    → Fails here token → StopsAt Fails g start (move_tokens text) boards (steps + 1)
stops_here Fails g start text rest more moves boards steps here token course so first fails = record {
  front = so.front;
  token = token;
  rest = more;
  parts = sym so.parts ∙ ap (λ l. so.front ++ l) first;
  place = ap (λ k. k + 1) (front_length g start text rest moves boards steps here course so);
  played = played g start text rest moves boards steps here course so;
  here = subst (λ b. Fails b token) course.place fails;
}

-- all tokens have played
all_parts : (front rest all : List (List ℕ)) → front ++ rest ≡ all → rest ≡ [] → front ≡ all
all_parts front rest all parts none = sym (append-nil front) ∙ ap (λ l. front ++ l) (sym none) ∙ parts

pub all_played : (g : GameRules) (start : Board) (text rest : List ℕ) (moves : List Move) (boards : List Board) (steps : ℕ) (here : Board)
    → Course g start moves boards steps here → Spelled text rest moves → move_tokens rest ≡ []
    → Plays g start (move_tokens text) boards
all_played g start text rest moves boards steps here course so none =
    subst (λ l. Plays g start l boards) (all_parts so.front (move_tokens rest) (move_tokens text) so.parts none)
    (played g start text rest moves boards steps here course so)

-- what a replay keeps from token to token: the tokens so far have played and their pages are written
pub record SoFar (page : Page) (g : GameRules) (start : Board) (text rest : List ℕ) (steps : ℕ) (here : Board) (old new : Option (List ℕ)) (before after : Bool) : Type 0 where
  pub moves : List Move
  pub boards : List Board
  pub course : Course g start moves boards steps here
  pub spelled : Spelled text rest moves
  pub sheets : Sheets page g start moves boards old new before after

pub so_none : (page : Page) (g : GameRules) (start here : Board) (text rest : List ℕ) (held : Option (List ℕ)) (failed : Bool)
    → rest ≡ text → here ≡ start → IsPositionOf g here → SoFar page g start text rest 0 here held held failed failed
so_none page g start here text rest held failed e same position = record {
  moves = [];
  boards = [];
  course = course_none g start here same position;
  spelled = spelled_none text rest e;
  sheets = sheets_none page g start held failed;
}

-- the next token has played too, and its page is written
pub so_next : (page : Page) (g : GameRules) (start : Board) (text rest more : List ℕ) (steps : ℕ) (here next : Board) (old new newer : Option (List ℕ)) (before after later : Bool) (token : List ℕ) (m : Move) (n : ℕ)
    → SoFar page g start text rest steps here old new before after → move_tokens rest ≡ token ∷ move_tokens more
    → SpellsMove token m → Step g here m next → n ≡ g.cells → TakesBytes new newer (page_text page n (told_move (steps + 1) here m) next)
    → after ≡ false → later ≡ false → SoFar page g start text more (steps + 1) next old newer before later
so_next page g start text rest more steps here next old new newer before after later token m n so first spells step cells taken sound still = record {
  moves = so.moves ++ m ∷ [];
  boards = so.boards ++ next ∷ [];
  course = course_next g start so.moves so.boards steps here next m so.course step;
  spelled = spelled_next text rest more so.moves token m so.spelled first spells;
  sheets = sheets_next page g start so.moves so.boards steps here next old new newer before after later m n so.course so.sheets cells taken sound still;
}

pub so_room : (page : Page) (g : GameRules) (start : Board) (text rest : List ℕ) (more : List (List ℕ)) (steps : ℕ) (here : Board) (old new : Option (List ℕ)) (before after : Bool) (token : List ℕ)
    → SoFar page g start text rest steps here old new before after → move_tokens rest ≡ token ∷ more
    → steps + 1 ≤ length text
so_room page g start text rest more steps here old new before after token so first =
    step_fits g start text rest more so.moves so.boards steps here token so.course so.spelled first

pub so_bad : (page : Page) (g : GameRules) (start : Board) (text rest : List ℕ) (more : List (List ℕ)) (steps : ℕ) (here : Board) (old new : Option (List ℕ)) (before after : Bool) (token : List ℕ)
    → SoFar page g start text rest steps here old new before after → move_tokens rest ≡ token ∷ more
    → IsNoMove token → ReplaysAs page g start (move_tokens text) (sink_change old new) (Err (BadMove (steps + 1)))
so_bad page g start text rest more steps here old new before after token so first bad = record {
  moves = so.moves;
  boards = so.boards;
  spelled = spelled_front text rest so.moves so.spelled;
  passed = so.course.passed;
  ends = stops_here (λ _ t. IsNoMove t) g start text rest more so.moves so.boards steps here token so.course so.spelled first bad;
  written = so.sheets.taken;
  won = tt;
}

pub so_refused : (page : Page) (g : GameRules) (start : Board) (text rest : List ℕ) (more : List (List ℕ)) (steps : ℕ) (here : Board) (old new : Option (List ℕ)) (before after : Bool) (token : List ℕ) (m : Move)
    → SoFar page g start text rest steps here old new before after → move_tokens rest ≡ token ∷ more
    → SpellsMove token m → (Allows g here m → ⊥) → ReplaysAs page g start (move_tokens text) (sink_change old new) (Err (NotAllowed (steps + 1)))
so_refused page g start text rest more steps here old new before after token m so first spells refused = record {
  moves = so.moves;
  boards = so.boards;
  spelled = spelled_front text rest so.moves so.spelled;
  passed = so.course.passed;
  ends = stops_here (IsNotAllowed g) g start text rest more so.moves so.boards steps here token so.course so.spelled first (m, spells, refused);
  written = so.sheets.taken;
  won = tt;
}

-- all tokens have played
pub so_all : (page : Page) (g : GameRules) (start : Board) (text rest : List ℕ) (steps : ℕ) (here : Board) (old new : Option (List ℕ)) (before after won : Bool)
    → SoFar page g start text rest steps here old new before after → move_tokens rest ≡ [] → (IsTrue won ↔ IsWon here)
    → ReplaysAs page g start (move_tokens text) (sink_change old new) (Ok record { moves = steps; is_won = won })
so_all page g start text rest steps here old new before after won so none is = record {
  moves = so.moves;
  boards = so.boards;
  spelled = spelled_front text rest so.moves so.spelled;
  passed = so.course.passed;
  ends = (
    front_length g start text rest so.moves so.boards steps here so.course so.spelled
        ∙ ap length (all_parts so.spelled.front (move_tokens rest) (move_tokens text) so.spelled.parts none),
    all_played g start text rest so.moves so.boards steps here so.course so.spelled none,
  );
  written = so.sheets.taken;
  won = subst (λ b. IsTrue won ↔ IsWon b) so.course.place is;
}

-- the sink failed at the page of the next token
pub so_failed : (page : Page) (g : GameRules) (start : Board) (text rest more : List ℕ) (steps : ℕ) (here next : Board) (old new newer : Option (List ℕ)) (before after : Bool) (token : List ℕ) (m : Move) (n : ℕ)
    → SoFar page g start text rest steps here old new before after → move_tokens rest ≡ token ∷ move_tokens more
    → SpellsMove token m → Step g here m next → n ≡ g.cells → TakesFront new newer (page_text page n (told_move (steps + 1) here m) next)
    → ReplaysAs page g start (move_tokens text) (sink_change old newer) (Err Write)
so_failed page g start text rest more steps here next old new newer before after token m n so first spells step cells taken =
    let course = course_next g start so.moves so.boards steps here next m so.course step in
    let spelled = spelled_next text rest more so.moves token m so.spelled first spells in
    record {
      moves = so.moves ++ m ∷ [];
      boards = so.boards ++ next ∷ [];
      spelled = spelled_front text more (so.moves ++ m ∷ []) spelled;
      passed = course.passed;
      ends = record {
        front = spelled.front;
        rest = move_tokens more;
        parts = sym spelled.parts;
        some = omega (arith, front_length g start text more (so.moves ++ m ∷ []) (so.boards ++ next ∷ []) (steps + 1) next course spelled);
        played = played g start text more (so.moves ++ m ∷ []) (so.boards ++ next ∷ []) (steps + 1) next course spelled;
      };
      written = sheets_failed page g start so.moves so.boards steps here next old new newer before after m n so.course so.sheets cells taken;
      won = tt;
    }

-- a sink that had failed before is given no page, so where the first token is an allowed move, the replay hasn't ended
first_left : (text rest : List ℕ) (left : List (List ℕ)) (moves : List Move) → Spelled text rest moves → moves ≡ []
    → move_tokens rest ≡ left → move_tokens text ≡ left
first_left text rest left moves so none first =
    sym so.parts ∙ ap (λ l. l ++ move_tokens rest) (none_spelled so.front moves none so.spelled) ∙ first

pub stays_bad : (page : Page) (g : GameRules) (start : Board) (text rest : List ℕ) (more : List (List ℕ)) (steps : ℕ) (here : Board) (old new : Option (List ℕ)) (before after : Bool) (token : List ℕ)
    → SoFar page g start text rest steps here old new before after → move_tokens rest ≡ token ∷ more
    → IsNoMove token → IsTrue before → BeginsWithStep g start (move_tokens text) → ⊥
stays_bad page g start text rest more steps here old new before after token so first bad failed begins =
    let all = first_left text rest (token ∷ more) so.moves so.spelled (so.sheets.idle failed) first in
    let one = subst (BeginsWithStep g start) all begins in
    bad one.0 one.1

pub stays_refused : (page : Page) (g : GameRules) (start : Board) (text rest : List ℕ) (more : List (List ℕ)) (steps : ℕ) (here : Board) (old new : Option (List ℕ)) (before after : Bool) (token : List ℕ) (m : Move)
    → SoFar page g start text rest steps here old new before after → move_tokens rest ≡ token ∷ more
    → SpellsMove token m → (Allows g here m → ⊥) → IsTrue before → BeginsWithStep g start (move_tokens text) → ⊥
stays_refused page g start text rest more steps here old new before after token m so first spells refused failed begins =
    let all = first_left text rest (token ∷ more) so.moves so.spelled (so.sheets.idle failed) first in
    let one = subst (BeginsWithStep g start) all begins in
    let none = no_moves_pass g start so.moves so.boards (so.sheets.idle failed) so.course.passed in
    let same : here ≡ start = so.course.place ∙ ap (board_after start) none in
    let move : one.0 ≡ m = spelled_once token one.0 m one.1 spells in
    refused (subst (λ b. Allows g b m) (sym same) (subst (Allows g start) move one.2))

-- the fault of a failed write
pub err_is : (Fault : Type 0) (fault : Fault) (result : Result Ended Fault) → IsErr result × IsErrAnd result (λ e. e ≡ fault)
    → Err fault ≡ result
err_is Fault fault (Ok ended) gives = absurd (cc gives.0)
err_is Fault fault (Err e) gives = ap (λ (x : Fault). Err x) (sym gives.1)
