use Rattle.std.proofs.Common.{◌≡◌, ℕ, ◌+◌, ◌<◌, Ok, Result, ◌∙◌, ap, refl, subst, add_assoc, add-zero, arith}
use Rattle.fc_best_first.specs.declared.searches.Step.{Step}
use Rattle.fc_best_first.specs.declared.searches.Step.TheVariants.{Running as running}
use Rattle.fc_best_first.specs.declared.turns.Status.TheVariants.{Running}
use Rattle.fc_best_first.specs.declared.searches.SearchFault.{SearchFault}
use Rattle.fc_best_first.specs.Search.{FloorAfter, Turns}
use Rattle.fc_best_first.specs.Turn.{work_left}
use Rattle.fc_search.specs.Problem.{Problem, task_of_problem}
use Rattle.fc_search.specs.Search.{State}
use Rattle.fc_search.specs.Watch.{TurnsMany, stage_of}
use Rattle.fc_search.proofs.TurnLemmas.{one_turn, replies_running, turn_replies, turns_more}
use Rattle.fc_search.proofs.watches.run_on.Goals as goal

-- no turns
begun : (q : Problem) (s : State) (before : ℕ) → TurnsMany 0 q (stage_of s before) (stage_of s (before + 0))
begun q s before = ap (λ (n : ℕ). stage_of s n) (add-zero before)

-- the turns so far, and one more
more : (q : Problem) (made : ℕ) (first now next : State) (before : ℕ) (reply : Result Step SearchFault) → now.problem ≡ q
    → Turns (task_of_problem now.problem) now.status now.store next.store next.status reply
    → FloorAfter now.status now.store.waiting now.floor next.floor → TurnsMany made q (stage_of first before) (stage_of now (before + made))
    → TurnsMany (made + 1) q (stage_of first before) (stage_of next (before + (made + 1)))
more q made first now next before reply asked turn floor some =
    subst (λ n. TurnsMany (made + 1) q (stage_of first before) (stage_of next n)) (add_assoc before made 1)
    (turns_more q made (stage_of first before) (stage_of now (before + made)) (stage_of next (before + made + 1)) some
    (one_turn q now next (before + made) reply asked turn floor))

pub loop-made-init : goal.loop-made-init
loop-made-init g c = record {
  problem = refl;
  status = c.requires.running;
  turned = λ before. begun c.args.search.now.problem c.args.search.now before;
  falls = omega arith;
}

pub returns-in_default-clause-turned : goal.returns-in_default-clause-turned
returns-in_default-clause-turned g c = λ before.
    more c.args.search.now.problem c.loop-made.made c.args.search.now c.loop-made.search c.turn.new.self before
    c.turn.result c.loop-made.invariant.problem c.turn.ensures.turns c.turn.ensures.floor
    (c.loop-made.invariant.turned before)

pub loop-made-preserved : goal.loop-made-preserved
loop-made-preserved g c =
    let first = c.args.search.now in
    let now = c.loop-made.search in
    let next = c.turn.new.self in
    let more_to_do : c.turn.result ≡ Ok running = c.in-Ok-Running.is ∙ ap Ok c.in-Ok-Running.field-0-is in
    let replied = turn_replies (task_of_problem now.problem) next.status now.store next.store (Ok running)
    (subst (λ r. Turns (task_of_problem now.problem) Running now.store next.store next.status r) more_to_do
    (subst (λ s. Turns (task_of_problem now.problem) s now.store next.store next.status c.turn.result)
    c.loop-made.invariant.status c.turn.ensures.turns)) in
    let falls = subst (λ (p : Problem). work_left p.method.strategy.budget next.store < work_left p.method.strategy.budget now.store) c.loop-made.invariant.problem (c.turn.ensures.falls more_to_do) in
    record {
      problem = c.turn.ensures.problem ∙ c.loop-made.invariant.problem;
      status = replies_running (task_of_problem now.problem) next.status replied;
      turned = λ before. more first.problem c.loop-made.made first now next before c.turn.result c.loop-made.invariant.problem
          c.turn.ensures.turns c.turn.ensures.floor (c.loop-made.invariant.turned before);
      falls = omega (arith, falls, c.loop-made.invariant.falls);
    }
