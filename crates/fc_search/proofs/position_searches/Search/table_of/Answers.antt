use Rattle.std.proofs.Common.{subst, sym, arith}
use Rattle.fc_answers.specs.inner.Table.{at_no_cost, inside}
use Rattle.fc_best_first.specs.Shown.{Holds}
use Rattle.fc_bound.specs.Kinds.{guide_of}
use Rattle.fc_search.specs.Problem.{task_of_problem}
use Rattle.fc_search.specs.Shown.{BacksShown, HasShownBy}
use Rattle.fc_search.specs.inner.Stored.{costs_of}
use Rattle.fc_search.proofs.ShownLemmas.{IsTableWith, none_backed, number_backed}
use Rattle.fc_search.proofs.position_searches.Search.table_of.Goals as goal
use Rattle.fc_search.proofs.position_searches.Search.table_of.Goals.{in-Some+in_ok-table-in-Some, in-None+in_ok-table-in-None}

pub returns-clause-backs : goal.returns-clause-backs
returns-clause-backs g c =
    let now = c.args.self.now in
    let names = c.known.ensures.names in
    let fits = c.known.ensures.fits in
    let heavy = c.known.ensures.weight.above in
    let table = c.match-shown.table in
    let held = subst (λ s. Holds (task_of_problem s.problem) s.store s.status) c.self.view_is c.status.ensures.holds in
    elim c.match-shown.branch [
      | in-Some+in_ok-table-in-Some w ↦
          let made = w.in_ok-table-in-Some.ensures in
          let all = subst (λ t. IsTableWith now names fits heavy t (inside (guide_of now.problem.method.bound) w.in-Some.floor (costs_of now.problem.start now.store)))
          (sym w.table-is)
          (record { rule = made.rule; bound = made.bound; known = made.known; few = omega (arith, made.few, c.known.ensures.budget.greatest); rising = made.rising; rows = made.rows }) in
          subst (λ shown. BacksShown now.problem shown table) (sym w.in-Some.is)
          (number_backed now names fits heavy now.status w.in-Some.floor table c.requires.done held (subst (HasShownBy now now.status) w.in-Some.is c.requires.shown) all)
      | in-None+in_ok-table-in-None w ↦
          let made = w.in_ok-table-in-None.ensures in
          let all = subst (λ t. IsTableWith now names fits heavy t (at_no_cost (costs_of now.problem.start now.store))) (sym w.table-is)
          (record { rule = made.rule; bound = made.bound; known = made.known; few = omega (arith, made.few, c.known.ensures.budget.greatest); rising = made.rising; rows = made.rows }) in
          subst (λ shown. BacksShown now.problem shown table) (sym w.in-None.is)
          (none_backed now names fits heavy now.status table c.requires.done held (subst (HasShownBy now now.status) w.in-None.is c.requires.shown) all)
    ]
