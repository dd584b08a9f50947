-- How the moves of a list are printed in letters.
use Rattle.std.specs.Prelude.{ℕ, List, ◌++◌, map, codes}
use Rattle.std.specs.List.{join_with_byte}
use Rattle.fc_moves.specs.declared.steps.Move.{Move}
use Rattle.fc_moves.specs.MoveText.{move_text}

-- the texts of moves, with a blank between two
abbrev pub list_text : List Move → List ℕ
list_text moves = join_with_byte 32 (map move_text moves)

-- the line of the moves
abbrev pub moves_line : List Move → List ℕ
moves_line moves = list_text moves ++ codes "\n"
