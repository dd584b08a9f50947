use Rattle.std.proofs.Common.{◌+◌, subst, ⊎_elim, arith}
use Rattle.std.proofs.lemmas.Bool.{cases_eq}
use Rattle.fc_cards.specs.Card.{rank}
use Rattle.fc_cards.specs.Suit.{suit_index}
use Rattle.fc_text.specs.Spot.{TellsNowhere}
use Rattle.fc_typed.proofs.MissingLemmas.{card_is}
use Rattle.fc_typed.proofs.guesses.lacked_count.Goals as goal

pub returns-then-not-stands_nowhere : goal.returns-then-not-stands_nowhere
returns-then-not-stands_nowhere c = record {
  most = omega arith;
  lacks = c.loop-count.invariant;
  next = λ d below same up nowhere.
      let here = card_is d (suit_index c.args.suit) c.loop-count.count same up in
      absurd (cc (c.stands_nowhere.ensures.1 (subst (TellsNowhere c.args.text.now) (cc (here, c.card_above.ensures)) nowhere), c.if-not-stands_nowhere.true));
}

pub loop-count-preserved : goal.loop-count-preserved
loop-count-preserved c d below same up = ⊎_elim
    (λ e.
    let here = card_is d (suit_index c.args.suit) c.loop-count.count same e in
    subst (TellsNowhere c.args.text.now) (cc (here, c.card_above.ensures)) (c.stands_nowhere.ensures.0 c.if-not-stands_nowhere.false))
    (λ other. c.loop-count.invariant d below same (omega arith))
    (cases_eq (rank d) (c.loop-count.count + 1))

pub returns : goal.returns
returns c = record {
  most = omega arith;
  lacks = λ d below same up. c.loop-count.invariant d below same (omega arith);
  next = λ d below same up nowhere. absurd (omega arith);
}
