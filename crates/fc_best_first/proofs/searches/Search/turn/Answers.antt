use Rattle.std.proofs.Common.{◌≡◌, ◌<◌, Ok, ◌∙◌, ap, subst, sym}
use Rattle.fc_best_first.specs.Graph.{Task}
use Rattle.fc_best_first.specs.Shown.{Holds}
use Rattle.fc_best_first.specs.Search.{Turns, reply_of, task_of}
use Rattle.fc_best_first.specs.Turn.{Advances, work_left}
use Rattle.fc_best_first.proofs.RunLemmas.{done_replies, taken_turns}
use Rattle.fc_best_first.proofs.ClosedLemmas.{takes_floor}
use Rattle.fc_best_first.proofs.SearchLemmas.{takes_holds, takes_less}
use Rattle.fc_best_first.proofs.searches.Search.turn.Goals as goal
use Rattle.fc_best_first.proofs.searches.Search.turn.Goals.{in-Running-status, in_default-status}

pub invariant_of-self : goal.invariant_of-self
invariant_of-self g c =
    let task : Task g.row.K.Denot = record { graph = g.S.Space.graph c.self.inside.space; strategy = c.self.inside.strategy; limit = c.self.inside.limit } in
    let kept = subst (Holds task c.self.inside.book) c.in-Running.is c.self.invariant.2 in (
      c.self.invariant.0,
      c.self.invariant.1,
      takes_holds task (g.met.S.Space.lawful c.self.inside.space) c.self.invariant.0.above c.self.inside.book c.advance.new.book
          kept c.in-Ok.status c.in-Ok.ensures.takes,
      takes_floor task (g.met.S.Space.lawful c.self.inside.space) c.self.invariant.0.above
          c.self.inside.book c.self.inside.floor c.advance.new.floor kept c.self.invariant.3 c.in-Ok.ensures.floor,
      c.advance.ensures.owned,
    )

pub invariant_of-self-in-Err : goal.invariant_of-self-in-Err
invariant_of-self-in-Err g c =
    let task : Task g.row.K.Denot = record { graph = g.S.Space.graph c.self.inside.space; strategy = c.self.inside.strategy; limit = c.self.inside.limit } in (
      c.self.invariant.0,
      c.self.invariant.1,
      tt,
      takes_floor task (g.met.S.Space.lawful c.self.inside.space) c.self.invariant.0.above
          c.self.inside.book c.self.inside.floor c.advance.new.floor
          (subst (Holds task c.self.inside.book) c.in-Running.is c.self.invariant.2)
          c.self.invariant.3 c.in-Err.ensures.floor,
      c.advance.ensures.owned,
    )

pub returns-after-status-clause-falls : goal.returns-after-status-clause-falls
returns-after-status-clause-falls g c =
    let task : Task g.row.K.Denot = record { graph = g.S.Space.graph c.self.inside.space; strategy = c.self.inside.strategy; limit = c.self.inside.limit } in
    elim c.match-status.branch [
      | in-Running-status w ↦ λ e. subst (λ p. work_left p.strategy.budget c.advance.new.book < work_left p.strategy.budget p.store) c.self.view_is
          (takes_less task (g.met.S.Space.lawful c.self.inside.space) c.self.invariant.0.above c.self.inside.book c.advance.new.book
          (subst (Holds task c.self.inside.book) c.in-Running.is c.self.invariant.2)
          (subst (Advances task c.self.inside.book c.advance.new.book) w.in-Running-status.is c.in-Ok.ensures.takes))
      | in_default-status w ↦ λ e. absurd (cc)
    ]

pub returns-after-status-clause-turns : goal.returns-after-status-clause-turns
returns-after-status-clause-turns g c =
    let old = c.self.inside.book in
    let new = c.advance.new.book in
    let after = c.in-Ok.status in
    let task : Task g.row.K.Denot = record { graph = g.S.Space.graph c.self.inside.space; strategy = c.self.inside.strategy; limit = c.self.inside.limit } in
    let replies : Ok c.match-status.step ≡ reply_of after = elim c.match-status.branch [
      | in-Running-status w ↦ ap Ok w.step-is ∙ sym (ap reply_of w.in-Running-status.is)
      | in_default-status w ↦ ap Ok w.step-is ∙ done_replies task after old new
          w.in_default-status.not-Running c.in-Ok.ensures.takes
    ] in
    subst (λ p. Turns (task_of g.S.Space.graph p) p.status p.store new after (Ok c.match-status.step)) c.self.view_is
    (taken_turns task c.self.inside.status after old new c.match-status.step
    c.in-Running.is c.in-Ok.ensures.takes replies)
