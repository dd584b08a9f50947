use Rattle.std.proofs.Common.{Some, None, sym, ◌∙◌, ap}
use Rattle.std.specs.Option.{option_copied}
use Rattle.fc_batch.specs.Batch.{search_at}
use Rattle.fc_batch.proofs.BatchLemmas.{found_looked}
use Rattle.fc_batch.proofs.batches.Batch.get.Goals as goal

pub returns-in_err-held-clause-value : goal.returns-in_err-held-clause-value
returns-in_err-held-clause-value g c =
    ap option_copied c.from_residual.ensures ∙ c.in_err-held.ensures.value ∙ sym (found_looked c.self.inside.searches.entries c.args.i)
    ∙ ap (λ b. search_at b c.args.i) c.self.view_is

pub returns-clause-value : goal.returns-clause-value
returns-clause-value g c =
    ap Some c.search.ensures.value ∙ c.in_ok-held.ensures.value ∙ sym (found_looked c.self.inside.searches.entries c.args.i)
    ∙ ap (λ b. search_at b c.args.i) c.self.view_is
