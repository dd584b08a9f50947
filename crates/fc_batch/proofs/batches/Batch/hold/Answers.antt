use Rattle.std.proofs.Common.{rules, ◌≡◌, ◌∙◌, Some, None, ap, subst}
use Rattle.fc_batch.specs.Batch.{Batch, search_at}
use Rattle.fc_batch.proofs.BatchLemmas.{found_looked, given_added, none_next, others_looked}
use Rattle.fc_batch.proofs.batches.Batch.hold.Goals as goal

pub invariant_of-self : goal.invariant_of-self
invariant_of-self g c =
    given_added c.self.inside.added c.self.inside.searches.entries c.insert.new.self.entries c.in-Ok.ensures.updates.2
    c.self.invariant

pub returns-in-Ok-clause-there : goal.returns-in-Ok-clause-there
returns-in-Ok-clause-there g c =
    found_looked c.insert.new.self.entries c.self.inside.added ∙ c.in-Ok.ensures.updates.1

pub returns-in-Ok-clause-others : goal.returns-in-Ok-clause-others
returns-in-Ok-clause-others g c = λ j other.
    others_looked c.self.inside.added c.self.inside.searches.entries c.insert.new.self.entries c.in-Ok.ensures.updates.2 j other
    ∙ ap (λ b. search_at b j) c.self.view_is

pub returns-in-Ok-clause-free : goal.returns-in-Ok-clause-free
returns-in-Ok-clause-free g c =
    let before : Batch = record { searches = c.self.inside.searches.entries; added = c.self.inside.added } in
    subst (λ b. search_at b c.self.inside.added ≡ None) c.self.view_is (none_next before c.self.invariant)

pub invariant_of-self-in-Err : goal.invariant_of-self-in-Err
invariant_of-self-in-Err g c = λ i s at.
    let kept : c.insert.new.self.entries ≡ c.self.inside.searches.entries = search rules in
    c.self.invariant i s (subst (λ es. search_at (record { searches = es; added = c.self.inside.added }) i ≡ Some s) kept at)
