use Rattle.fc_lists.proofs.WordLemmas.{letters_alone}
use Rattle.fc_lists.proofs.words.move_of.Goals as goal

pub returns-in_default-clause-read : goal.returns-in_default-clause-read
returns-in_default-clause-read c = letters_alone c.args.word.now c.read_token-in_default.result c.read_token-in_default.ensures.read
