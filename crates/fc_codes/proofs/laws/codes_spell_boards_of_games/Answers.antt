use Rattle.fc_codes.proofs.LawLemmas.{codes_spell_game}
use Rattle.fc_codes.proofs.laws.codes_spell_boards_of_games.Goals as goal

pub returns : goal.returns
returns c = codes_spell_game
