use Rattle.std.proofs.Common.{◌≡◌, ◌∙◌, ap, subst, sym}
use Rattle.fc_best_first.specs.Shown.{Holds, Shows}
use Rattle.fc_best_first.specs.declared.turns.Status.TheVariants.{Won}
use Rattle.fc_search.specs.Problem.{task_of_problem}
use Rattle.fc_search.proofs.ShownLemmas.{found_there}
use Rattle.fc_search.proofs.position_searches.Search.found.Goals as goal

pub returns-in_ok-moves_to-in-Won : goal.returns-in_ok-moves_to-in-Won
returns-in_ok-moves_to-in-Won g c =
    let now = c.args.self.now in
    let there = c.in_ok-moves_to-in-Won.ensures.there in
    let stands : now.status ≡ Won c.in-Won.number = sym (ap (λ s. s.status) c.self.view_is) ∙ sym c.status.ensures.value ∙ c.in-Won.is in
    let shows = subst (λ s. Shows (task_of_problem s.problem) s.store s.status) c.self.view_is c.status.ensures.shows in
    record {
      found = found_there now c.in-Won.number c.in_ok-moves_to-in-Won.field-0 there.0 c.known.ensures.names c.known.ensures.fits c.known.ensures.budget.greatest stands
          (subst (Holds (task_of_problem now.problem) now.store) stands
          (subst (λ s. Holds (task_of_problem s.problem) s.store s.status) c.self.view_is c.status.ensures.holds))
          (subst (Shows (task_of_problem now.problem) now.store) stands shows) there.1;
    }
