use Rattle.fc_row_text.proofs.DrawnTidy.{drawings_read}
use Rattle.fc_row_text.proofs.laws.drawings_read_back.Goals as goal

pub returns : goal.returns
returns c = drawings_read
