-- Lists of moves in memory.
use Rattle.std.specs.Prelude.{◌≡◌, ◌||◌, ℕ, ◌+◌, cond, drop, List, ◌∷◌, ◌++◌, length, codes, nat_eq}
use Rattle.std.specs.List.{position_or_len, starts_with}
use Rattle.fc_moves.specs.declared.steps.Move.{Move}
use Rattle.fc_text.specs.Line.{is_line_end}
use Rattle.fc_replay.specs.Played.{SpellMoves}
use Rattle.fc_replay.specs.Token.{IsNoMove}
use Rattle.fc_replay.specs.declared.faults.ReplayFault.TheVariants.{BadMove}
use Rattle.fc_library.specs.declared.call_refusals.CallRefusal.{CallRefusal}
use Rattle.fc_library.specs.declared.call_refusals.CallRefusal.TheVariants as refused

-- what stands below the first line of a text: nothing, where it has no other
abbrev pub below_first_line : List ℕ → List ℕ
below_first_line text = drop (1 + position_or_len is_line_end text) text

-- the moves of a text: where it begins as the answer of a board does that is won, what stands below its first line
abbrev pub moves_in : List ℕ → List ℕ
moves_in text = cond (starts_with nat_eq text (codes "shortest ") || starts_with nat_eq text (codes "won ")) (below_first_line text) text

-- the token of a step, which counts from 1, is the first that spells no move
pub record IsFirstNoMove (tokens : List (List ℕ)) (step : ℕ) : Type 0 where
  pub front : List (List ℕ)
  pub token : List ℕ
  pub rest : List (List ℕ)
  pub parts : tokens ≡ front ++ token ∷ rest
  pub place : step ≡ length front + 1
  pub moves : List Move
  pub spelled : SpellMoves front moves
  pub none : IsNoMove token

-- why tokens weren't read as moves: one is none, or memory was wanted
abbrev pub IsMisspelled : List (List ℕ) → CallRefusal → Type 0
IsMisspelled tokens (refused.Moves (BadMove step)) = IsFirstNoMove tokens step
IsMisspelled tokens refused.Memory = Unit {0}
IsMisspelled tokens other = ⊥
