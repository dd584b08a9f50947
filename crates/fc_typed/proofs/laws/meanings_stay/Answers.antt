use Rattle.fc_typed.proofs.StayingTexts.{meanings_stay}
use Rattle.fc_typed.proofs.laws.meanings_stay.Goals as goal

pub returns : goal.returns
returns c = meanings_stay
