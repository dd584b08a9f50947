use Rattle.std.proofs.Common.{◌≡◌, ◌+◌, ◌<◌, length, slice_index, ◌∙◌, ap, arith}
use Rattle.std.proofs.lemmas.List.{length_push}
use Rattle.std.proofs.lemmas.Str.{encode_ascii}
use Rattle.fc_cards.specs.Card.{rank, suit}
use Rattle.fc_deal.proofs.TextLemmas.{rank_letter_small, suit_letter_small}
use Rattle.fc_deal.proofs.texts.push_card.Goals as goal

pub push-requires : goal.push-requires
push-requires c =
    let small : slice_index c.text.result 0 < 128 = rw c.text.ensures (rank_letter_small (rank c.args.card)) in
    (omega arith, rw (encode_ascii (slice_index c.text.result 0) small) (omega arith))

pub push-requires-2 : goal.push-requires-2
push-requires-2 c =
    let first : slice_index c.text.result 0 < 128 = rw c.text.ensures (rank_letter_small (rank c.args.card)) in
    let small : slice_index c.text.result 1 < 128 = rw c.text.ensures (suit_letter_small (suit c.args.card)) in
    let longer : length c.push.new.self.bytes ≡ length c.args.text.now.bytes + 1 =
    ap length (c.push.ensures.ascii first) ∙ length_push c.args.text.now.bytes (slice_index c.text.result 0) in
    (omega arith, rw (encode_ascii (slice_index c.text.result 1) small) (omega arith))
