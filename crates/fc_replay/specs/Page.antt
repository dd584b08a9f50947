-- What is written of a step of a replay.
use Rattle.std.specs.Prelude.{ℕ, ◌+◌, Bool, List, [], ◌∷◌, ◌++◌, codes, decimal}
use Rattle.fc_position.specs.Board.{Board}
use Rattle.fc_moves.specs.declared.steps.Move.{Move}
use Rattle.fc_moves.specs.MoveText.{move_text}
use Rattle.fc_text.specs.Printed.{board_text}
use Rattle.fc_show.specs.Drawing.{drawing}
use Rattle.fc_show.specs.declared.styles.Style.{Style}
use Rattle.fc_replay.specs.declared.pages.Page.{Page}
use Rattle.fc_replay.specs.declared.pages.Page.TheVariants.{Board as printed, Numbered, InWords, Drawn}
use Rattle.fc_replay.specs.declared.tellings.ToldMove.{ToldMove}
use Rattle.fc_replay.specs.Telling.{told_move, phrase_line}

-- the line of a step: its number and its move
abbrev pub header : ℕ → Move → List ℕ
header step m = decimal step ++ codes ". " ++ move_text m ++ codes "\n"

-- how a board is drawn behind a move: the card that moved is marked
abbrev pub style_behind : Bool → ToldMove → Style
style_behind is_coloured told = record { is_coloured = is_coloured; marked = told.card }

-- what is written of a move in a game with n cells, as it is told, and the board after it; an empty line follows a drawing
abbrev pub page_text : Page → ℕ → ToldMove → Board → List ℕ
page_text printed n told b = board_text n b
page_text Numbered n told b = header told.number told.m ++ board_text n b
page_text (InWords is_coloured) n told b = phrase_line is_coloured told
page_text (Drawn is_coloured) n told b = phrase_line is_coloured told ++ drawing (style_behind is_coloured told) n b ++ codes "\n"

-- what is written of moves from a board and the boards after them, one straight after the other, the moves numbered from this
-- one on
abbrev pub pages_text : Page → ℕ → ℕ → Board → List Move → List Board → List ℕ
pages_text page n number b [] boards = []
pages_text page n number b (m ∷ ms) [] = []
pages_text page n number b (m ∷ ms) (c ∷ boards) =
    page_text page n (told_move number b m) c ++ pages_text page n (number + 1) c ms boards
