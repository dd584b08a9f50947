use Rattle.std.proofs.Common.{Some, sym, ◌∙◌, ap}
use Rattle.fc_batch.specs.Batch.{search_at}
use Rattle.fc_batch.proofs.BatchLemmas.{found_looked, others_looked, given_taken}
use Rattle.fc_batch.proofs.batches.Batch.take.Goals as goal

pub invariant_of-self-2 : goal.invariant_of-self-2
invariant_of-self-2 g c =
    given_taken c.args.i c.self.inside.added c.self.inside.searches.entries c.swap_remove.new.self.entries
    c.swap_remove.ensures.updates.2 c.swap_remove.ensures.updates.1 c.self.invariant

pub returns-in_err-held-clause-taken : goal.returns-in_err-held-clause-taken
returns-in_err-held-clause-taken g c =
    c.from_residual.ensures ∙ c.in_err-held.ensures.value ∙ sym (found_looked c.self.inside.searches.entries c.args.i)
    ∙ ap (λ b. search_at b c.args.i) c.self.view_is

pub returns-in_err-held-clause-gone : goal.returns-in_err-held-clause-gone
returns-in_err-held-clause-gone g c = found_looked c.swap_remove.new.self.entries c.args.i ∙ c.swap_remove.ensures.updates.1

pub returns-clause-taken : goal.returns-clause-taken
returns-clause-taken g c =
    ap Some c.into_search.ensures.value ∙ c.in_ok-held.ensures.value ∙ sym (found_looked c.self.inside.searches.entries c.args.i)
    ∙ ap (λ b. search_at b c.args.i) c.self.view_is

pub returns-clause-gone : goal.returns-clause-gone
returns-clause-gone g c = found_looked c.swap_remove.new.self.entries c.args.i ∙ c.swap_remove.ensures.updates.1

pub returns-clause-others : goal.returns-clause-others
returns-clause-others g c = λ j other.
    others_looked c.args.i c.self.inside.searches.entries c.swap_remove.new.self.entries c.swap_remove.ensures.updates.2 j other
    ∙ ap (λ b. search_at b j) c.self.view_is
