use Rattle.fc_answers.proofs.RisingLemmas.{classes_once}
use Rattle.fc_answers.proofs.laws.rising_rows_list_classes_once.Goals as goal

pub returns : goal.returns
returns c = classes_once
