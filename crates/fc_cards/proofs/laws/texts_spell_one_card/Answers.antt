use Rattle.fc_cards.proofs.TextLemmas.{card_text_once}
use Rattle.fc_cards.proofs.laws.texts_spell_one_card.Goals as goal

pub returns : goal.returns
returns c = card_text_once
