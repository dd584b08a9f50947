use Rattle.fc_text.proofs.OnceLemmas.{spell_no_fault}
use Rattle.fc_text.proofs.laws.texts_that_spell_have_no_fault.Goals as goal

pub returns : goal.returns
returns c = spell_no_fault
