-- Looking for the first token that doesn't play.
use Rattle.std.proofs.Common.{◌≡◌, ℕ, ◌+◌, ◌≤◌, List, ◌∷◌, ◌++◌, [], length, refl}
use Rattle.std.specs.Prelude.{Option}
use Rattle.fc_position.specs.Board.{Board}
use Rattle.fc_moves.specs.declared.steps.Move.{Move}
use Rattle.fc_moves.specs.GameRules.{GameRules, IsPositionOf}
use Rattle.fc_moves.specs.Step.{Step}
use Rattle.fc_replay.specs.declared.stops.RefusedMove.{RefusedMove}
use Rattle.fc_replay.specs.Played.{IsReason, IsFirstStop}
use Rattle.fc_replay.specs.Token.{move_tokens, SpellsMove}
use Rattle.fc_replay.proofs.ReplayLoop.{Course, Spelled, course_none, course_next, spelled_none, spelled_next, step_fits, stops_here}

-- the tokens so far have played
pub record Found (g : GameRules) (start : Board) (text rest : List ℕ) (steps : ℕ) (here : Board) : Type 0 where
  pub moves : List Move
  pub boards : List Board
  pub course : Course g start moves boards steps here
  pub spelled : Spelled text rest moves

pub found_none : (g : GameRules) (start here : Board) (text rest : List ℕ) → rest ≡ text → here ≡ start → IsPositionOf g here
    → Found g start text rest 0 here
found_none g start here text rest e same position = record {
  moves = [];
  boards = [];
  course = course_none g start here same position;
  spelled = spelled_none text rest e;
}

pub found_next : (g : GameRules) (start : Board) (text rest more : List ℕ) (steps : ℕ) (here next : Board) (token : List ℕ) (m : Move)
    → Found g start text rest steps here → move_tokens rest ≡ token ∷ move_tokens more → SpellsMove token m → Step g here m next
    → Found g start text more (steps + 1) next
found_next g start text rest more steps here next token m found first spells step = record {
  moves = found.moves ++ m ∷ [];
  boards = found.boards ++ next ∷ [];
  course = course_next g start found.moves found.boards steps here next m found.course step;
  spelled = spelled_next text rest more found.moves token m found.spelled first spells;
}

pub found_room : (g : GameRules) (start : Board) (text rest : List ℕ) (more : List (List ℕ)) (steps : ℕ) (here : Board) (token : List ℕ)
    → Found g start text rest steps here → move_tokens rest ≡ token ∷ more → steps + 1 ≤ length text
found_room g start text rest more steps here token found first =
    step_fits g start text rest more found.moves found.boards steps here token found.course found.spelled first

-- the next token doesn't play
pub found_stop : (g : GameRules) (start : Board) (text rest : List ℕ) (more : List (List ℕ)) (steps : ℕ) (here : Board) (token : List ℕ) (refused : Option RefusedMove)
    → Found g start text rest steps here → move_tokens rest ≡ token ∷ more → IsReason g (steps + 1) refused here token
    → IsFirstStop g start (move_tokens text) (steps + 1) token refused
found_stop g start text rest more steps here token refused found first fails = record {
  boards = found.boards;
  stops = stops_here (λ c here. (here ≡ token) × IsReason g (steps + 1) refused c here) g start text rest more found.moves found.boards steps here token
      found.course found.spelled first (refl, fails);
}
