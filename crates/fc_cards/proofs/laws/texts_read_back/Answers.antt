use Rattle.fc_cards.proofs.TextLemmas.{card_text_back}
use Rattle.fc_cards.proofs.laws.texts_read_back.Goals as goal

pub returns : goal.returns
returns c = card_text_back
