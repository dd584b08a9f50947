use Rattle.std.proofs.Common.{Ok, ◌∙◌, subst}
use Rattle.fc_best_first.specs.Search.{Turns, task_of}
use Rattle.fc_best_first.proofs.RunLemmas.{runs_on, runs_none, running_stays, turns_along}
use Rattle.fc_best_first.proofs.searches.Search.run.Goals as goal

pub loop-preserved : goal.loop-preserved
loop-preserved g c =
    let first = c.args.self.now in
    let now = c.loop.self in
    let next = c.turn.new.self in
    record {
      space = c.in_ok-turn.ensures.space ∙ c.loop.invariant.space;
      strategy = c.in_ok-turn.ensures.strategy ∙ c.loop.invariant.strategy;
      limit = c.in_ok-turn.ensures.limit ∙ c.loop.invariant.limit;
      status = running_stays (task_of g.S.Space.graph now) now.status next.status now.store next.store
          (subst (λ s. Turns (task_of g.S.Space.graph now) now.status now.store next.store next.status (Ok s)) c.in-Running.is
          c.in_ok-turn.ensures.turns) ∙ c.loop.invariant.status;
      onward = λ new after runs. c.loop.invariant.onward new after
          (runs_on (task_of g.S.Space.graph first) now.status next.status after now.store next.store new _
          (turns_along g.S.Space.graph now first now.status next.status now.store next.store
          _ c.loop.invariant.space c.loop.invariant.strategy c.loop.invariant.limit c.in_ok-turn.ensures.turns) runs);
    }

pub returns-clause-runs : goal.returns-clause-runs
returns-clause-runs g c =
    let first = c.args.self.now in
    let now = c.loop.self in
    let next = c.turn.new.self in
    c.loop.invariant.onward next.store next.status
    (runs_on (task_of g.S.Space.graph first) now.status next.status next.status now.store next.store next.store _
    (turns_along g.S.Space.graph now first now.status next.status now.store next.store
    _ c.loop.invariant.space c.loop.invariant.strategy c.loop.invariant.limit c.in_ok-turn.ensures.turns)
    (runs_none (task_of g.S.Space.graph first) next.status next.store))
