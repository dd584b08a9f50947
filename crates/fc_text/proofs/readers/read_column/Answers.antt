use Rattle.std.proofs.Common.{◌∙◌, ap, arith}
use Rattle.fc_text.proofs.ReaderLemmas.{column_none, column_next, column_all, on_ok, on_err}
use Rattle.fc_text.proofs.readers.read_column.Goals as goal

pub loop-token-init : goal.loop-token-init
loop-token-init c =
    column_none c.args.piece.now c.into_iter-token-iterator.result.rest.now c.new-column.result.items c.args.tally.now
    (ap (λ i. i.rest.now) c.into_iter-token-iterator.ensures.into_iter_gives ∙ c.new-token-items.ensures.rest) c.new-column.ensures c.requires.tally

pub loop-token-preserved : goal.loop-token-preserved
loop-token-preserved c =
    column_next c.args.piece.now c.loop-token.token-iterator.rest.now c.next.new.self.rest.now c.loop-token.column.items c.try_push-full.new.self.items c.args.tally.now c.loop-token.tally c.add.new.self c.in-Some.token.now c.in-Some-read_card.card c.loop-token.invariant
    c.in-Some.ensures.steps c.in-Some-read_card.ensures.read c.add.ensures.added
    (λ lt. on_ok c.try_push-full.result (c.try_push-full.ensures.variant.1 lt) c.try_push-full.ensures.ok)
    (λ le. ap (λ v. v.items) (on_err c.try_push-full.result (λ ok. absurd (omega (arith, c.try_push-full.ensures.variant.0 ok))) c.try_push-full.ensures.err))

pub returns-clause-read : goal.returns-clause-read
returns-clause-read c =
    column_all c.args.piece.now c.loop-token.token-iterator.rest.now c.loop-token.column.items c.args.tally.now c.loop-token.tally c.loop-token.invariant c.in-None.ensures.steps.0
