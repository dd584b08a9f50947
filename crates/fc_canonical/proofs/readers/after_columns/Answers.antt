use Rattle.std.proofs.Common.{refl}
use Rattle.fc_canonical.proofs.ReadLemmas.{no_column, next_holds, holds_none, holds_more}
use Rattle.fc_canonical.proofs.readers.after_columns.Goals as goal

pub loop-init : goal.loop-init
loop-init c = holds_none c.args.bytes.now

pub returns-in_err-cards-clause-refused : goal.returns-in_err-cards-clause-refused
returns-in_err-cards-clause-refused c =
    rw c.from_residual.ensures
    (no_column c.args.bytes.now c.loop.rest.now c.loop.counter c.loop.invariant.0 c.loop-test.true c.in_err-cards.ensures.none)

pub returns-then-not-are_cards-clause-refused : goal.returns-then-not-are_cards-clause-refused
returns-then-not-are_cards-clause-refused c = λ columns end eight all e.
    let holds = next_holds c.args.bytes.now c.loop.rest.now c.in_ok-cards.cards.now c.in_ok-cards.after.now c.loop.counter
    c.loop.invariant.0 c.loop-test.true c.in_ok-cards.ensures.found columns end eight all e in
    cc (c.if-not-are_cards.ensures.value.1 holds)

pub loop-preserved : goal.loop-preserved
loop-preserved c =
    holds_more c.args.bytes.now c.loop.rest.now c.in_ok-cards.after.now c.in_ok-cards.cards.now c.loop.counter c.loop.invariant
    c.in_ok-cards.ensures.found (c.if-not-are_cards.ensures.value.0 refl)
