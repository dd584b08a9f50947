use Rattle.fc_row_text.proofs.DrawnTidy.{drawings_tidy}
use Rattle.fc_row_text.proofs.laws.drawings_are_tidy.Goals as goal

pub returns : goal.returns
returns c = drawings_tidy
