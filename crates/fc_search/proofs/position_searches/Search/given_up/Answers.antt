use Rattle.std.proofs.Common.{◌≡◌, ◌∙◌, ap, subst, sym}
use Rattle.fc_best_first.specs.Shown.{Shows}
use Rattle.fc_best_first.specs.declared.turns.Status.TheVariants as status
use Rattle.fc_search.specs.Problem.{task_of_problem}
use Rattle.fc_search.proofs.ShownLemmas.{gave_up_told}
use Rattle.fc_search.proofs.position_searches.Search.given_up.Goals as goal

pub returns-in-GaveUp-clause-earned : goal.returns-in-GaveUp-clause-earned
returns-in-GaveUp-clause-earned g c =
    let now = c.args.self.now in
    let stands : now.status ≡ status.GaveUp c.in-GaveUp.field-0 c.in-GaveUp.field-1 = sym (ap (λ s. s.status) c.self.view_is) ∙ sym c.status.ensures.value ∙ c.in-GaveUp.is in
    let shows = subst (λ s. Shows (task_of_problem s.problem) s.store s.status) c.self.view_is c.status.ensures.shows in
    gave_up_told now c.in-GaveUp.field-0 c.in-GaveUp.field-1 c.budget.result c.known.ensures.names c.known.ensures.fits
    (subst (Shows (task_of_problem now.problem) now.store) stands shows) c.budget.ensures.value

pub returns-in-GaveUp-clause-status : goal.returns-in-GaveUp-clause-status
returns-in-GaveUp-clause-status g c = (
  c.in-GaveUp.field-0,
  c.in-GaveUp.field-1,
  sym (ap (λ s. s.status) c.self.view_is) ∙ sym c.status.ensures.value ∙ c.in-GaveUp.is,
)
