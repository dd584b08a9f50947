use Rattle.std.proofs.Common.{◌≡◌, ◌∙◌, ◌+◌, Some, ap, arith, subst}
use Rattle.fc_batch.specs.Batch.{OthersStay, search_at}
use Rattle.fc_runs.specs.inner.Batches.{HoldsDeals}
use Rattle.fc_runs.proofs.BatchLemmas.{held_more}
use Rattle.fc_runs.proofs.deal_batches.begin.Goals as goal

pub loop-i-preserved : goal.loop-i-preserved
loop-i-preserved g c =
    let added = c.loop-i.invariant.added in
    let number = c.in-Ok.ensures.number ∙ added in
    record {
      held = held_more c.args.question.now c.args.from c.loop-i.i c.loop-i.batch c.add.new.self
          c.in_ok-search.search c.loop-i.invariant.held (subst (λ n. OthersStay n c.loop-i.batch c.add.new.self) number c.in-Ok.ensures.others)
          (subst (λ n. search_at c.add.new.self n ≡ Some c.in_ok-search.search) number c.in-Ok.ensures.there) c.in_ok-search.ensures.search;
      added = c.in-Ok.ensures.next ∙ ap (λ n. n + 1) added;
    }

pub returns-clause-holds : goal.returns-clause-holds
returns-clause-holds g c =
    let all : c.loop-i.i ≡ c.args.count = omega arith in
    subst (λ count. HoldsDeals c.args.question.now c.args.from count c.loop-i.batch) all c.loop-i.invariant.held
