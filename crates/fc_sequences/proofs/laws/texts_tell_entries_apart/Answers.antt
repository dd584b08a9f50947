use Rattle.fc_sequences.proofs.TextLemmas.{text_of_one}
use Rattle.fc_sequences.proofs.laws.texts_tell_entries_apart.Goals as goal

pub returns : goal.returns
returns c = text_of_one
