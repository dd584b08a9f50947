use Rattle.std.proofs.Common.{◌≡◌, ℕ, ◌+◌, ◌≤◌, [], ◌∷◌, ◌++◌, None, Ok, refl, sym, ◌∙◌, ap, subst, arith}
use Rattle.std.specs.Prelude.{MatchResult, max}
use Rattle.fc_bound.specs.Kinds.{guide_of}
use Rattle.fc_bound.proofs.KindLemmas.{bounds_lower}
use Rattle.fc_best_first.specs.declared.searches.SearchFault.TheVariants.{Memory}
use Rattle.fc_best_first.specs.declared.searches.Step.TheVariants.{Running as running, Done}
use Rattle.fc_best_first.specs.declared.turns.Status.TheVariants.{Stopped}
use Rattle.fc_best_first.specs.Search.{Runs, reply_of}
use Rattle.fc_best_first.specs.Turn.{work_left}
use Rattle.fc_classes.specs.Namings.{by_codes}
use Rattle.fc_classes.proofs.TableLemmas.{lawful}
use Rattle.fc_search.specs.Problem.{Problem, task_of_problem}
use Rattle.fc_search.specs.declared.listeners.Progress.{Progress}
use Rattle.fc_search.specs.Watch.{HearsFar, stage_of}
use Rattle.fc_search.proofs.FarLemmas.{heard_stopped, heard_then, heard_to, is_first, tells_floor, turned_on}
use Rattle.fc_search.proofs.HearLemmas.{hears_on, most_of-append, most_of-none, stopped_runs}
use Rattle.fc_search.proofs.TurnLemmas.{begun_work, ended_stopped, replies_going, replies_running}
use Rattle.fc_search.proofs.watches.watch.Goals as goal

pub loop-step-init : goal.loop-step-init
loop-step-init g c = record {
  problem = refl;
  status = c.requires.running;
  falls = omega arith;
  heard = ([], refl, sym (most_of-none 0), refl);
}

pub overflow_add-turns : goal.overflow_add-turns
overflow_add-turns g c =
    let first = c.args.search.now in
    let q = first.problem in
    let work = begun_work (task_of_problem q) first.store
    (lawful (by_codes q.start) q.method.bound q.game q.method.rule q.start c.known.ensures.names c.known.ensures.fits) c.requires.begins c.known.ensures.budget.greatest in
    let falls = c.loop-step.invariant.falls in
    let few = c.run_on-made.ensures.few in
    omega (arith, work, falls, few)

pub returns-in_default-clause-runs : goal.returns-in_default-clause-runs
returns-in_default-clause-runs g c =
    let first = c.args.search.now in
    let now = c.loop-step.search in
    let next = c.run_on-made.new.search in
    let (heard, hears, most, told) = c.loop-step.invariant.heard in
    let turned = turned_on first.problem now next c.loop-step.turns c.run_on-made.result.0 c.loop-step.invariant.problem
    (c.run_on-made.ensures.turned c.loop-step.turns) in
    subst (λ s. Runs (task_of_problem first.problem) s first.store next.store next.status) c.requires.running
    (stopped_runs first.problem (stage_of first 0) (stage_of now c.loop-step.turns) (stage_of next (c.loop-step.turns + c.run_on-made.result.0)) 0
    c.run_on-made.result.0 heard told turned)

pub returns-in_default-clause-heard : goal.returns-in_default-clause-heard
returns-in_default-clause-heard g c =
    let first = c.args.search.now in
    let now = c.loop-step.search in
    let next = c.run_on-made.new.search in
    let q = first.problem in
    let turns : ℕ = c.loop-step.turns + c.run_on-made.result.0 in
    let far : Progress = record {
      classes = c.len.result;
      budget = c.budget.result;
      turns = turns;
      «open» = c.open-open.result;
      most_open = c.max-most_open.result;
      shortest = None;
      at_least = c.at_least.result;
    } in
    let (heard, hears, most, told) = c.loop-step.invariant.heard in
    let turned = turned_on q now next c.loop-step.turns c.run_on-made.result.0 c.loop-step.invariant.problem
    (c.run_on-made.ensures.turned c.loop-step.turns) in
    let floor = tells_floor q next turns far (c.run_on-made.ensures.problem ∙ c.loop-step.invariant.problem)
    (c.budget.ensures.value ∙ ap (λ (p : Problem). p.method.strategy.budget) (c.run_on-made.ensures.problem ∙ c.loop-step.invariant.problem)) refl
    c.at_least.ensures.value c.at_least.ensures.floor in
    let stopped = ended_stopped c.run_on-made.result.1 next.status c.in_default.not-Ok c.run_on-made.ensures.reply in
    let begins = is_first q first refl c.requires.running c.requires.begins c.requires.floor in (
      heard ++ far ∷ [],
      hears_on (HearsFar g.L.Listener.hears) c.args.listener.now c.loop-step.listener c.hear.new.self heard far hears c.hear.ensures.heard,
      heard_stopped q first now next c.loop-step.turns c.run_on-made.result.0 c.loop-step.most_open heard far told
          c.run_on-made.ensures.some turned floor begins stopped,
    )

pub returns-in-Done-clause-runs : goal.returns-in-Done-clause-runs
returns-in-Done-clause-runs g c =
    let first = c.args.search.now in
    let now = c.loop-step.search in
    let next = c.run_on-made.new.search in
    let (heard, hears, most, told) = c.loop-step.invariant.heard in
    let turned = turned_on first.problem now next c.loop-step.turns c.run_on-made.result.0 c.loop-step.invariant.problem
    (c.run_on-made.ensures.turned c.loop-step.turns) in
    subst (λ s. Runs (task_of_problem first.problem) s first.store next.store next.status) c.requires.running
    (stopped_runs first.problem (stage_of first 0) (stage_of now c.loop-step.turns) (stage_of next (c.loop-step.turns + c.run_on-made.result.0)) 0
    c.run_on-made.result.0 heard told turned)

pub returns-in-Done-clause-heard : goal.returns-in-Done-clause-heard
returns-in-Done-clause-heard g c =
    let first = c.args.search.now in
    let now = c.loop-step.search in
    let next = c.run_on-made.new.search in
    let q = first.problem in
    let turns : ℕ = c.loop-step.turns + c.run_on-made.result.0 in
    let far : Progress = record {
      classes = c.len.result;
      budget = c.budget.result;
      turns = turns;
      «open» = c.open-open.result;
      most_open = c.max-most_open.result;
      shortest = None;
      at_least = c.at_least.result;
    } in
    let (heard, hears, most, told) = c.loop-step.invariant.heard in
    let turned = turned_on q now next c.loop-step.turns c.run_on-made.result.0 c.loop-step.invariant.problem
    (c.run_on-made.ensures.turned c.loop-step.turns) in
    let floor = tells_floor q next turns far (c.run_on-made.ensures.problem ∙ c.loop-step.invariant.problem)
    (c.budget.ensures.value ∙ ap (λ (p : Problem). p.method.strategy.budget) (c.run_on-made.ensures.problem ∙ c.loop-step.invariant.problem)) refl
    c.at_least.ensures.value c.at_least.ensures.floor in
    let done : c.run_on-made.result.1 ≡ Ok Done = c.in-Ok.is ∙ ap Ok c.in-Done.is in
    let replied = subst (λ r. MatchResult r (λ step. reply_of next.status ≡ Ok step) (λ f. (f ≡ Memory) × (next.status ≡ Stopped))) done
    c.run_on-made.ensures.reply in
    let greatest : far.most_open ≡ max c.loop-step.most_open far.open = omega (arith, c.max-most_open.ensures) in
    let going = replies_going (task_of_problem q) next.status Done replied in
    let begins = is_first q first refl c.requires.running c.requires.begins c.requires.floor in
    let heard_now = heard_then q first now next c.loop-step.turns c.run_on-made.result.0 c.loop-step.most_open heard far told c.run_on-made.ensures.some
    turned floor going c.len.ensures.size c.open-open.ensures.size refl most greatest in (
      heard ++ far ∷ [],
      hears_on (HearsFar g.L.Listener.hears) c.args.listener.now c.loop-step.listener c.hear.new.self heard far hears c.hear.ensures.heard,
      heard_to q first next turns heard far begins heard_now,
    )

pub loop-step-preserved : goal.loop-step-preserved
loop-step-preserved g c =
    let first = c.args.search.now in
    let now = c.loop-step.search in
    let next = c.run_on-made.new.search in
    let q = first.problem in
    let turns : ℕ = c.loop-step.turns + c.run_on-made.result.0 in
    let far : Progress = record {
      classes = c.len.result;
      budget = c.budget.result;
      turns = turns;
      «open» = c.open-open.result;
      most_open = c.max-most_open.result;
      shortest = None;
      at_least = c.at_least.result;
    } in
    let (heard, hears, most, told) = c.loop-step.invariant.heard in
    let turned = turned_on q now next c.loop-step.turns c.run_on-made.result.0 c.loop-step.invariant.problem
    (c.run_on-made.ensures.turned c.loop-step.turns) in
    let floor = tells_floor q next turns far (c.run_on-made.ensures.problem ∙ c.loop-step.invariant.problem)
    (c.budget.ensures.value ∙ ap (λ (p : Problem). p.method.strategy.budget) (c.run_on-made.ensures.problem ∙ c.loop-step.invariant.problem)) refl
    c.at_least.ensures.value c.at_least.ensures.floor in
    let more : c.run_on-made.result.1 ≡ Ok running = c.in-Ok.is ∙ ap Ok c.in-Running.is in
    let replied = subst (λ r. MatchResult r (λ step. reply_of next.status ≡ Ok step) (λ f. (f ≡ Memory) × (next.status ≡ Stopped))) more
    c.run_on-made.ensures.reply in
    let greatest : far.most_open ≡ max c.loop-step.most_open far.open = omega (arith, c.max-most_open.ensures) in
    let going = replies_going (task_of_problem q) next.status running replied in
    let falls = subst (λ (p : Problem). c.run_on-made.result.0 + work_left p.method.strategy.budget next.store ≤ work_left p.method.strategy.budget now.store)
    c.loop-step.invariant.problem
    (c.run_on-made.ensures.falls more) in
    record {
      problem = c.run_on-made.ensures.problem ∙ c.loop-step.invariant.problem;
      status = replies_running (task_of_problem q) next.status replied;
      falls = omega (arith, falls, c.loop-step.invariant.falls);
      heard = (
        heard ++ far ∷ [],
        hears_on (HearsFar g.L.Listener.hears) c.args.listener.now c.loop-step.listener c.hear.new.self heard far hears c.hear.ensures.heard,
        sym (most_of-append 0 heard far),
        heard_then q first now next c.loop-step.turns c.run_on-made.result.0 c.loop-step.most_open heard far told c.run_on-made.ensures.some
            turned floor going c.len.ensures.size c.open-open.ensures.size refl most greatest,
      );
    }
