use Rattle.fc_text.proofs.OnceLemmas.{spell_one}
use Rattle.fc_text.proofs.laws.texts_spell_one_position.Goals as goal

pub returns : goal.returns
returns c = spell_one
