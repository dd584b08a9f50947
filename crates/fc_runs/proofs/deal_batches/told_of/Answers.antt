use Rattle.std.proofs.Common.{◌≡◌, subst}
use Rattle.fc_search.specs.Search.{IsOfStatus, IsVerdict, State}
use Rattle.fc_runs.proofs.BatchLemmas.{told_right}
use Rattle.fc_runs.proofs.deal_batches.told_of.Goals as goal

pub returns-in-Ok : goal.returns-in-Ok
returns-in-Ok g c = record {
  told = λ q deal s at of ended.
      let there = c.in_ok-get.ensures.value in
      let same : c.in_ok-get.field-0.now ≡ s = cc (there, at) in
      told_right q deal s c.in-Ok.verdict c.outcome_of.result
      (subst (λ (x : State). IsVerdict x.problem c.in-Ok.verdict) same c.in-Ok.ensures.told)
      (subst (λ (x : State). IsOfStatus x.problem x.store x.status c.in-Ok.verdict) same c.in-Ok.ensures.kind)
      of c.outcome_of.ensures.value;
}
