use Rattle.std.proofs.Common.{◌∙◌, ap, arith}
use Rattle.fc_lists.proofs.FrontLemmas.{counted_all, counted_more, counted_next, counted_none}
use Rattle.fc_lists.proofs.list_plays.count_entries.Goals as goal

pub loop-token-init : goal.loop-token-init
loop-token-init c =
    counted_none _ _ (ap (λ i. i.rest.now) c.into_iter-token-iterator.ensures.into_iter_gives ∙ c.new-token-items.ensures.rest)

pub overflow_add-count : goal.overflow_add-count
overflow_add-count c =
    omega (arith, counted_more _ _ _ _ _ c.loop-token.invariant c.in-Some.ensures.steps, c.requires.short)

pub loop-token-preserved : goal.loop-token-preserved
loop-token-preserved c = counted_next _ _ _ _ _ c.loop-token.invariant c.in-Some.ensures.steps

pub returns : goal.returns
returns c = record { value = counted_all _ _ _ c.loop-token.invariant c.in-None.ensures.steps.0 }
