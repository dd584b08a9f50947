use Rattle.fc_sequences.proofs.LawLemmas.{gathered_board}
use Rattle.fc_sequences.proofs.laws.gathered_lead_to_one_board.Goals as goal

pub returns : goal.returns
returns c = gathered_board
