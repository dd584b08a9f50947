use Rattle.fc_answers.proofs.RisingLemmas.{keys_once}
use Rattle.fc_answers.proofs.laws.rising_rows_have_keys_once.Goals as goal

pub returns : goal.returns
returns c = keys_once
