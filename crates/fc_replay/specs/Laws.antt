-- What the laws of this crate state.
use Rattle.std.specs.Prelude.{◌≡◌, ℕ, List, length, Result, Err}
use Rattle.fc_position.specs.Board.{Board}
use Rattle.fc_moves.specs.GameRules.{GameRules}
use Rattle.fc_moves.specs.Run.{Run}
use Rattle.fc_replay.specs.declared.faults.ReplayFault.{ReplayFault}
use Rattle.fc_replay.specs.declared.faults.ReplayFault.TheVariants.{Write}
use Rattle.fc_replay.specs.Played.{Plays, Ends, board_after}

-- the moves of tokens that play are one for each token, and run to the last of the boards, which are as many
abbrev pub PlayedTokensRun : Type 0
PlayedTokensRun = (g : GameRules) (b : Board) (tokens : List (List ℕ)) (boards : List Board)
    → (played : Plays g b tokens boards)
    → Run g b played.moves (board_after b boards) × (length played.moves ≡ length tokens) × (length boards ≡ length tokens)

-- no tokens end in two ways, but for a failure of the sink
abbrev pub TokensEndInOneWay : Type 0
TokensEndInOneWay = (g : GameRules) (b : Board) (tokens : List (List ℕ)) (xs ys : List Board) (r s : Result ℕ ReplayFault)
    → Ends g b tokens xs r → Ends g b tokens ys s → (r ≡ Err Write → ⊥) → (s ≡ Err Write → ⊥) → (r ≡ s) × (xs ≡ ys)
