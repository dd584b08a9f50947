use Rattle.fc_row_text.proofs.ReadLemmas.{entries_read}
use Rattle.fc_row_text.proofs.laws.entries_are_columns.Goals as goal

pub returns : goal.returns
returns c = entries_read
