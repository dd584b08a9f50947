use Rattle.fc_typed.proofs.StayingTexts.{spelled_stays}
use Rattle.fc_typed.proofs.laws.spelled_texts_stay.Goals as goal

pub returns : goal.returns
returns c = spelled_stays
