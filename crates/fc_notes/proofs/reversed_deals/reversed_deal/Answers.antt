use Rattle.std.proofs.Common.{below_more, arith}
use Rattle.fc_notes.proofs.ReversedLemmas.{reversed_lengths}
use Rattle.fc_notes.proofs.reversed_deals.reversed_deal.Goals as goal

pub returns-then-not-has_dealt_lengths-clause-none : goal.returns-then-not-has_dealt_lengths-clause-none
returns-then-not-has_dealt_lengths-clause-none c = λ n deal.
    let yes = c.has_dealt_lengths.ensures.value.1 (reversed_lengths n c.args.start.now deal) in absurd (cc)

pub loop-number-preserved : goal.loop-number-preserved
loop-number-preserved c = below_more _ _ c.loop-number.invariant
    (λ deal. let yes = c.is_reversed_deal.ensures.value.1 deal in absurd (cc))

pub returns-clause-none : goal.returns-clause-none
returns-clause-none c = λ n deal. c.loop-number.invariant n (omega (arith, deal.number.greatest)) deal
