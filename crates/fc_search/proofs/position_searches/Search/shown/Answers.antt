use Rattle.std.proofs.Common.{◌≡◌, ◌∙◌, Some, ap, refl, subst, sym}
use Rattle.fc_best_first.specs.Shown.{Holds, Shows}
use Rattle.fc_best_first.specs.declared.turns.Status.TheVariants as status
use Rattle.fc_best_first.proofs.KeptLemmas.{stands_within}
use Rattle.fc_search.specs.Problem.{task_of_problem}
use Rattle.fc_search.specs.Shown.{HasShownBy}
use Rattle.fc_search.proofs.ShownLemmas.{floor_at_told, floor_told, none_below}
use Rattle.fc_search.proofs.position_searches.Search.shown.Goals as goal

pub floor_at-requires-clause-within : goal.floor_at-requires-clause-within
floor_at-requires-clause-within g c =
    let now = c.args.self.now in
    let stands : now.status ≡ status.GaveUp c.in-GaveUp.field-0 c.in-GaveUp.number = sym (ap (λ s. s.status) c.self.view_is) ∙ sym c.status.ensures.value ∙ c.in-GaveUp.is in
    let held = subst (Holds (task_of_problem now.problem) now.store) stands
    (subst (λ s. Holds (task_of_problem s.problem) s.store s.status) c.self.view_is c.status.ensures.holds) in
    stands_within now.store c.in-GaveUp.number held.4.0 held.4.1 held.4.4.stands

pub returns-in-CannotWin-clause-floor : goal.returns-in-CannotWin-clause-floor
returns-in-CannotWin-clause-floor g c =
    let now = c.args.self.now in
    let stands : now.status ≡ status.CannotWin = sym (ap (λ s. s.status) c.self.view_is) ∙ sym c.status.ensures.value ∙ c.in-CannotWin.is in
    let shows = subst (λ s. Shows (task_of_problem s.problem) s.store s.status) c.self.view_is c.status.ensures.shows in
    none_below now.problem now.store c.limit.result (sym (ap (λ s. s.problem.limit) c.self.view_is) ∙ sym c.limit.ensures.value)
    (subst (Shows (task_of_problem now.problem) now.store) stands shows)

pub returns-in-Won-clause-floor : goal.returns-in-Won-clause-floor
returns-in-Won-clause-floor g c =
    let now = c.args.self.now in
    let stands : now.status ≡ status.Won c.in-Won.number = sym (ap (λ s. s.status) c.self.view_is) ∙ sym c.status.ensures.value ∙ c.in-Won.is in
    let held = subst (Holds (task_of_problem now.problem) now.store) stands
    (subst (λ s. Holds (task_of_problem s.problem) s.store s.status) c.self.view_is c.status.ensures.holds) in
    floor_told now c.known.ensures.names c.known.ensures.fits c.known.ensures.weight.above c.in-Won.number c.floor_but.result held.0 held.1.5 c.floor_but.ensures.value

pub returns-in-GaveUp-clause-floor : goal.returns-in-GaveUp-clause-floor
returns-in-GaveUp-clause-floor g c =
    let now = c.args.self.now in
    let stands : now.status ≡ status.GaveUp c.in-GaveUp.field-0 c.in-GaveUp.number = sym (ap (λ s. s.status) c.self.view_is) ∙ sym c.status.ensures.value ∙ c.in-GaveUp.is in
    let held = subst (Holds (task_of_problem now.problem) now.store) stands
    (subst (λ s. Holds (task_of_problem s.problem) s.store s.status) c.self.view_is c.status.ensures.holds) in
    floor_at_told now c.known.ensures.names c.known.ensures.fits c.known.ensures.weight.above c.in-GaveUp.field-0 c.in-GaveUp.number c.floor_at.result held c.floor_at.ensures.value

pub returns-in-GaveUp-clause-shown : goal.returns-in-GaveUp-clause-shown
returns-in-GaveUp-clause-shown g c =
    let now = c.args.self.now in
    let stands : now.status ≡ status.GaveUp c.in-GaveUp.field-0 c.in-GaveUp.number = sym (ap (λ s. s.status) c.self.view_is) ∙ sym c.status.ensures.value ∙ c.in-GaveUp.is in
    subst (λ t. HasShownBy now t (Some c.floor_at.result)) (sym stands) (c.floor_at.result, refl, c.floor_at.ensures.value)
