use Rattle.std.proofs.Common.{◌++◌, length, take, map, ap, arith}
use Rattle.std.specs.Prelude.{codes}
use Rattle.std.proofs.lemmas.List.{length-append, length-take}
use Rattle.fc_cards.specs.Texts.{card_text}
use Rattle.fc_text.specs.Printed.{entries_text}
use Rattle.fc_text.proofs.PrintLemmas.{length-cards}
use Rattle.fc_text.proofs.printers.push_column.Goals as goal

pub push_card-requires : goal.push_card-requires
push_card-requires c =
    let cards = take c.loop-card.card-index c.args.cards.now in
    let size = ap length c.loop-card.invariant in
    let long = length-append c.args.text.now.bytes (codes ":" ++ entries_text (map card_text cards)) in
    let few = length-cards cards in
    let most = length-take c.loop-card.card-index c.args.cards.now in
    record { room = omega arith }

pub push_byte-requires-2-clause-room : goal.push_byte-requires-2-clause-room
push_byte-requires-2-clause-room c =
    let cards = take c.loop-card.card-index c.args.cards.now in
    let size = ap length c.loop-card.invariant in
    let long = length-append c.args.text.now.bytes (codes ":" ++ entries_text (map card_text cards)) in
    let few = length-cards cards in
    let most = length-take c.loop-card.card-index c.args.cards.now in
    omega arith
