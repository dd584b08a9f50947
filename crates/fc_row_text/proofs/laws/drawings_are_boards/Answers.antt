use Rattle.fc_row_text.proofs.DrawnBoards.{drawings_are}
use Rattle.fc_row_text.proofs.laws.drawings_are_boards.Goals as goal

pub returns : goal.returns
returns c = drawings_are
