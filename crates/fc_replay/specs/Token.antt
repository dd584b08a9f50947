-- Texts of moves: their tokens, and the moves that these spell.
use Rattle.std.specs.Prelude.{◌≡◌, ℕ, ◌==◌, ◌||◌, Bool, List, map, filter}
use Rattle.std.specs.Char.{to_ascii_lowercase}
use Rattle.fc_moves.specs.declared.steps.Move.{Move}
use Rattle.fc_moves.specs.MoveText.{HasText, move_text}
use Rattle.fc_text.specs.Line.{parts_of, is_token, is_blank, is_line_end}

-- moves are parted by spaces, tabs, CR and LF
abbrev pub is_move_gap : ℕ → Bool
is_move_gap b = is_blank b || (b == 13) || is_line_end b

-- the tokens of a text of moves: what stands between gaps
abbrev pub move_tokens : List ℕ → List (List ℕ)
move_tokens text = filter is_token (parts_of is_move_gap text)

-- the token is the move's text, in either case
abbrev pub SpellsMove : List ℕ → Move → Type 0
SpellsMove token m = HasText m × (map to_ascii_lowercase token ≡ move_text m)

-- the token is no move's text
abbrev pub IsNoMove : List ℕ → Type 0
IsNoMove token = (m : Move) → SpellsMove token m → ⊥
