use Rattle.fc_canonical.proofs.SpelledLemmas.{key_spells}
use Rattle.fc_canonical.proofs.laws.keys_spell_positions.Goals as goal

pub returns : goal.returns
returns c = key_spells
