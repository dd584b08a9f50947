use Rattle.std.proofs.Common.{length, ◌∙◌, ap, arith}
use Rattle.std.proofs.lemmas.List.{length-append}
use Rattle.std.proofs.lemmas.Str.{encode_ascii}
use Rattle.fc_deal.specs.DealText.{cards_text}
use Rattle.fc_deal.proofs.TextLemmas.{length-cards_text}
use Rattle.fc_deal.proofs.texts.push_line.Goals as goal

pub push-requires : goal.push-requires
push-requires c =
    let written = ap length c.push_cards.ensures.text ∙ length-append c.args.text.now.bytes (cards_text c.args.cards.now) in
    let most = length-cards_text c.args.cards.now in
    (omega arith, rw (encode_ascii 10 (omega arith)) (omega arith))
