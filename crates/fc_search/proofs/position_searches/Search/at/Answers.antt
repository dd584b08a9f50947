use Rattle.std.proofs.Common.{subst}
use Rattle.std.proofs.lemmas.Option.{MatchOption-at_some}
use Rattle.fc_best_first.specs.Store.{IsStored}
use Rattle.fc_search.proofs.position_searches.Search.at.Goals as goal

pub returns : goal.returns
returns g c = record {
  stands = subst (λ s. IsStored s.store c.args.number c.unwrap.result.0.now c.unwrap.result.1) c.self.view_is
      (MatchOption-at_some _ _ c.unwrap.result c.unwrap.ensures c.entry.ensures.value);
}
