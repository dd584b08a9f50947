-- What a list of tokens plays: the boards after its moves, and why it stops.
use Rattle.std.specs.Prelude.{◌≡◌, ℕ, ◌+◌, ◌<◌, ◌↔◌, ◌&&◌, Bool, not, cond, List, [], ◌∷◌, ◌++◌, take, length, Option, Some, None, Result, Ok, Err, IfOk, MatchResult, IsTrue}
use Rattle.std.specs.List.{flat_map}
use Rattle.fc_position.specs.Board.{Board}
use Rattle.fc_position.specs.Position.{IsWon}
use Rattle.fc_io.specs.declared.devices.Failed.{Failed}
use Rattle.fc_io.specs.Moves.{TakesBytes, TakesFront}
use Rattle.fc_moves.specs.declared.steps.Move.{Move}
use Rattle.fc_moves.specs.GameRules.{GameRules}
use Rattle.fc_moves.specs.Step.{Step, Allows}
use Rattle.fc_text.specs.Printed.{board_text}
use Rattle.fc_replay.specs.declared.faults.ReplayFault.{ReplayFault}
use Rattle.fc_replay.specs.declared.faults.ReplayFault.TheVariants.{BadMove, NotAllowed, Write}
use Rattle.fc_replay.specs.declared.pages.Page.{Page}
use Rattle.fc_replay.specs.declared.stops.RefusedMove.{RefusedMove}
use Rattle.fc_replay.specs.declared.replays.Ended.{Ended}
use Rattle.fc_replay.specs.Page.{pages_text}
use Rattle.fc_replay.specs.Telling.{told_move}
use Rattle.fc_moves.specs.Refusal.{IsWhy}
use Rattle.fc_replay.specs.Token.{SpellsMove, IsNoMove}

-- the tokens spell these moves, one each
abbrev pub SpellMoves : List (List ℕ) → List Move → Type 0
SpellMoves [] ms = ms ≡ []
SpellMoves (token ∷ tokens) [] = ⊥
SpellMoves (token ∷ tokens) (m ∷ ms) = SpellsMove token m × SpellMoves tokens ms

-- the moves are steps, one by one, from the board, and these are the boards after each
abbrev pub Passes : GameRules → Board → List Move → List Board → Type 0
Passes g b [] boards = boards ≡ []
Passes g b (m ∷ ms) [] = ⊥
Passes g b (m ∷ ms) (c ∷ boards) = Step g b m c × Passes g c ms boards

-- the tokens spell moves that lead from the board through these boards
pub record Plays (g : GameRules) (b : Board) (tokens : List (List ℕ)) (boards : List Board) : Type 0 where
  pub moves : List Move
  pub spelled : SpellMoves tokens moves
  pub passed : Passes g b moves boards

-- the last of the boards that were passed, or the first board where none was
abbrev pub board_after : Board → List Board → Board
board_after b [] = b
board_after b (c ∷ boards) = board_after c boards

-- the token spells a move that isn't allowed
abbrev pub IsNotAllowed : GameRules → Board → List ℕ → Type 0
IsNotAllowed g b token = (m : Move) × SpellsMove token m × (Allows g b m → ⊥)

-- the tokens before a step, which count from 1, play, and the token of the step fails on the board where they lead
pub record StopsAt (Fails : Board → List ℕ → Type 0) (g : GameRules) (b : Board) (tokens : List (List ℕ)) (boards : List Board) (step : ℕ) : Type 0 where
  pub front : List (List ℕ)
  pub token : List ℕ
  pub rest : List (List ℕ)
  pub parts : tokens ≡ front ++ token ∷ rest
  pub place : step ≡ length front + 1
  pub played : Plays g b front boards
  pub here : Fails (board_after b boards) token

-- some tokens at the front play, at least one
pub record PlaysFront (g : GameRules) (b : Board) (tokens : List (List ℕ)) (boards : List Board) : Type 0 where
  pub front : List (List ℕ)
  pub rest : List (List ℕ)
  pub parts : tokens ≡ front ++ rest
  pub some : 0 < length front
  pub played : Plays g b front boards

-- what a replay of the tokens answers, and the boards that it passes: as many moves as tokens, where all of them play;
-- else the step at which a token isn't a move, or isn't allowed; or a failure of the sink at the board of some step
abbrev pub Ends : GameRules → Board → List (List ℕ) → List Board → Result ℕ ReplayFault → Type 0
Ends g b tokens boards (Ok n) = (n ≡ length tokens) × Plays g b tokens boards
Ends g b tokens boards (Err (BadMove step)) = StopsAt (λ c token. IsNoMove token) g b tokens boards step
Ends g b tokens boards (Err (NotAllowed step)) = StopsAt (IsNotAllowed g) g b tokens boards step
Ends g b tokens boards (Err Write) = PlaysFront g b tokens boards

-- the printed boards, one straight after the other
abbrev pub boards_text : ℕ → List Board → List ℕ
boards_text n boards = flat_map (board_text n) boards

-- the sink took the whole text, or a front of it where it failed
abbrev pub Writes : Option (List ℕ) → Option (List ℕ) → List ℕ → Result ℕ ReplayFault → Type 0
Writes old new text (Ok n) = TakesBytes old new text
Writes old new text (Err (BadMove step)) = TakesBytes old new text
Writes old new text (Err (NotAllowed step)) = TakesBytes old new text
Writes old new text (Err Write) = TakesFront old new text

-- a replay of the tokens: the boards that it passes, how it ends, and that their texts were written
pub record Replays (g : GameRules) (b : Board) (tokens : List (List ℕ)) (old new : Option (List ℕ)) (result : Result ℕ ReplayFault) : Type 0 where
  pub boards : List Board
  pub ends : Ends g b tokens boards result
  pub written : Writes old new (boards_text g.cells boards) result

-- what a sink held before, and what it holds now; `None` where it tells no bytes
pub record SinkChange : Type 0 where
  pub old : Option (List ℕ)
  pub new : Option (List ℕ)

-- a sink held the one, and holds the other now
abbrev pub sink_change : Option (List ℕ) → Option (List ℕ) → SinkChange
sink_change old new = record { old = old; new = new }

-- what a replay answers, by the number of its moves alone
abbrev pub replay_count : Result Ended ReplayFault → Result ℕ ReplayFault
replay_count (Ok ended) = Ok ended.moves
replay_count (Err fault) = Err fault

-- the exit status that tells how a list ended: 1 where it had to win and didn't
abbrev pub ended_status : Bool → Ended → ℕ
ended_status must_win ended = cond (must_win && not ended.is_won) 1 0

-- a replay of the tokens that writes pages: the moves that it makes, which are those of the tokens at the front, the boards
-- after them, how it ends, that their pages were written, and at its end whether the last board is won
pub record ReplaysAs (page : Page) (g : GameRules) (b : Board) (tokens : List (List ℕ)) (sink : SinkChange) (result : Result Ended ReplayFault) : Type 0 where
  pub moves : List Move
  pub boards : List Board
  pub spelled : SpellMoves (take (length moves) tokens) moves
  pub passed : Passes g b moves boards
  pub ends : Ends g b tokens boards (replay_count result)
  pub written : Writes sink.old sink.new (pages_text page g.cells 1 b moves boards) (replay_count result)
  pub won : IfOk result (λ ended. IsTrue ended.is_won ↔ IsWon (board_after b boards))

-- the moves were made: the boards after them, that their pages were written, or a front of them where the sink failed,
-- and else how many they are and whether the last board is won
pub record PlaysAs (page : Page) (g : GameRules) (b : Board) (moves : List Move) (sink : SinkChange) (result : Result Ended Failed) : Type 0 where
  pub boards : List Board
  pub passed : Passes g b moves boards
  pub written : MatchResult result (λ _. TakesBytes sink.old sink.new (pages_text page g.cells 1 b moves boards)) (λ _. TakesFront sink.old sink.new (pages_text page g.cells 1 b moves boards))
  pub count : IfOk result (λ ended. ended.moves ≡ length moves)
  pub won : IfOk result (λ ended. IsTrue ended.is_won ↔ IsWon (board_after b boards))

-- the token of a step is no move, where none is refused; else it spells a move that is refused for this, as it is told from the board
abbrev pub IsReason : GameRules → ℕ → Option RefusedMove → Board → List ℕ → Type 0
IsReason g step None b token = IsNoMove token
IsReason g step (Some refused) b token = (m : Move) × SpellsMove token m × IsWhy g b m refused.refusal × (refused.told ≡ told_move step b m)

-- the tokens before a step, which count from 1, play, and this is the token of the step, and why it doesn't
pub record IsFirstStop (g : GameRules) (b : Board) (tokens : List (List ℕ)) (step : ℕ) (token : List ℕ) (refused : Option RefusedMove) : Type 0 where
  pub boards : List Board
  pub stops : StopsAt (λ c here. (here ≡ token) × IsReason g step refused c here) g b tokens boards step

-- all of the tokens play
abbrev pub PlayAll : GameRules → Board → List (List ℕ) → Type 0
PlayAll g b tokens = (boards : List Board) × Plays g b tokens boards

-- the first token is an allowed move
abbrev pub BeginsWithStep : GameRules → Board → List (List ℕ) → Type 0
BeginsWithStep g b [] = ⊥
BeginsWithStep g b (token ∷ tokens) = (m : Move) × SpellsMove token m × Allows g b m
