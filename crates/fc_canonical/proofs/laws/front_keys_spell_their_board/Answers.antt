use Rattle.fc_canonical.proofs.SpelledLemmas.{front_spells}
use Rattle.fc_canonical.proofs.laws.front_keys_spell_their_board.Goals as goal

pub returns : goal.returns
returns c = front_spells
