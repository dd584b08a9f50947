use Rattle.std.proofs.Common.{[], refl, subst, inl, inr}
use Rattle.std.proofs.lemmas.Result.{err_from_is_err_and}
use Rattle.fc_best_first.specs.declared.turns.Status.TheVariants.{Running}
use Rattle.fc_best_first.specs.Search.{Begins, Runs}
use Rattle.fc_search.specs.Problem.{problem_below, task_of_problem}
use Rattle.fc_search.specs.Watch.{IsHeardAtMost, IsHeardInPart, IsHeardOn}
use Rattle.fc_search.proofs.EndLemmas.{at_most_floors, ends_unanswered}
use Rattle.fc_search.proofs.solving.ended_below.Goals as goal

pub returns-clause-ran : goal.returns-clause-ran
returns-clause-ran g c =
    let search = c.in_ok-search.search in
    let e = c.in_ok-search.ensures in
    let last = c.watch.new.search in
    record {
      first = search.store;
      begins = subst (λ q. Begins (task_of_problem q) search.store) e.problem e.begins;
      runs = subst (λ q. Runs (task_of_problem q) Running search.store last.store last.status) e.problem c.watch.ensures.runs;
    }

pub returns-clause-heard : goal.returns-clause-heard
returns-clause-heard g c =
    let p = problem_below c.args.question.now c.args.position.now c.args.limit in
    let last = c.watch.new.search in
    let (heard, hears, is) = c.in_ok-watch.ensures.heard in
    let told = subst (λ q. IsHeardOn q heard last) c.in_ok-search.ensures.problem is in
    (heard, hears, at_most_floors p heard (ends_unanswered p heard last told), told)

pub returns-in_err-search-clause-heard : goal.returns-in_err-search-clause-heard
returns-in_err-search-clause-heard g c =
    let p = err_from_is_err_and c.from_residual.result c.from_residual.ensures.1 in
    ([], refl, tt, rw p.1 (inl refl))

pub returns-in_err-watch-clause-heard : goal.returns-in_err-watch-clause-heard
returns-in_err-watch-clause-heard g c =
    let asked = problem_below c.args.question.now c.args.position.now c.args.limit in
    let p = err_from_is_err_and c.from_residual-in_err-watch.result c.from_residual-in_err-watch.ensures.1 in
    let (heard, hears, part) = c.in_err-watch.ensures.heard in
    let told : IsHeardAtMost asked heard = inr (subst (λ q. IsHeardInPart q heard) c.in_ok-search.ensures.problem part) in
    (heard, hears, at_most_floors asked heard told, rw p.1 told)
