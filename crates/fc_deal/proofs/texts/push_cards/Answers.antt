use Rattle.std.proofs.Common.{◌≡◌, [], ◌∷◌, ◌++◌, length, take, ◌∙◌, ap, arith}
use Rattle.std.specs.List.{flat_map}
use Rattle.std.proofs.lemmas.List.{length-append}
use Rattle.std.proofs.lemmas.Str.{encode_ascii}
use Rattle.fc_cards.specs.Texts.{card_text}
use Rattle.fc_deal.proofs.TextLemmas.{next_text, length-written, all_written}
use Rattle.fc_deal.proofs.texts.push_cards.Goals as goal

pub push-requires : goal.push-requires
push-requires c =
    let written = length-written c.in-Some.rest.now c.loop-card.card-index (omega arith) in
    let one = ap length c.push_card.ensures.text ∙ length-append c.args.text.now.bytes (card_text c.in-Some.first.now) in
    let all = ap length c.loop-card.invariant ∙ length-append c.push_card.new.text.bytes (flat_map next_text (take c.loop-card.card-index c.in-Some.rest.now)) in
    let cut : c.args.cards.now ≡ c.in-Some.first.now ∷ c.in-Some.rest.now = c.in-Some.ensures.cases.0 in
    let long = ap length cut in
    (omega arith, rw (encode_ascii 32 (omega arith)) (omega arith))

pub push_card-requires-in-loop-card : goal.push_card-requires-in-loop-card
push_card-requires-in-loop-card c =
    let written = length-written c.in-Some.rest.now c.loop-card.card-index (omega arith) in
    let one = ap length c.push_card.ensures.text ∙ length-append c.args.text.now.bytes (card_text c.in-Some.first.now) in
    let all = ap length c.loop-card.invariant ∙ length-append c.push_card.new.text.bytes (flat_map next_text (take c.loop-card.card-index c.in-Some.rest.now)) in
    let cut : c.args.cards.now ≡ c.in-Some.first.now ∷ c.in-Some.rest.now = c.in-Some.ensures.cases.0 in
    let long = ap length cut in
    let blank = ap length (c.push.ensures.ascii (omega arith)) ∙ length-append c.loop-card.text.bytes (32 ∷ []) in
    omega arith

pub returns : goal.returns
returns c = record {
  text =
      c.loop-card.invariant ∙ ap (λ b. b ++ flat_map next_text (take c.loop-card.card-index c.in-Some.rest.now)) c.push_card.ensures.text
      ∙ all_written c.args.text.now.bytes c.args.cards.now c.in-Some.rest.now c.in-Some.first.now c.loop-card.card-index c.in-Some.ensures.cases.0 c.loop-card-test.false;
}
