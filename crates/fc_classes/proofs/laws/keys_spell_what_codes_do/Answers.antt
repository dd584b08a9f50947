use Rattle.fc_classes.proofs.NamingLemmas.{keys_spell}
use Rattle.fc_classes.proofs.laws.keys_spell_what_codes_do.Goals as goal

pub returns : goal.returns
returns c = keys_spell
