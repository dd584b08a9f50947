use Rattle.fc_codes.proofs.LawLemmas.{codes_spell}
use Rattle.fc_codes.proofs.laws.codes_spell_boards.Goals as goal

pub returns : goal.returns
returns c = codes_spell
