use Rattle.std.proofs.Common.{rules, ◌∙◌, arith, sym}
use Rattle.fc_runs.proofs.BatchLemmas.{ended_more}
use Rattle.fc_runs.proofs.deal_batches.run_each.Goals as goal
use Rattle.fc_runs.proofs.deal_batches.run_each.Goals.{then-take_turn, else-take_turn}

pub loop-number-preserved : goal.loop-number-preserved
loop-number-preserved g c =
    let before = c.loop-number.invariant.most in
    let now = c.take_turn.ensures.most in
    record {
      held = λ q from held.
          c.take_turn.ensures.held q from c.args.count (c.loop-number.invariant.held q from held);
      ended = elim c.if-take_turn.branch [
        | then-take_turn w ↦ (λ none. let is = w.is_running-is in absurd (cc (is, none)))
        | else-take_turn w ↦ (λ none.
            ended_more c.loop-number.number c.loop-number.batch c.take_turn.new.batch (c.loop-number.invariant.ended (sym w.is_running-is ∙ none))
            c.take_turn.ensures.others (c.take_turn.ensures.ended (search rules)))
      ];
      most = omega (arith, before, now);
      falls = elim c.if-take_turn.branch [
        | then-take_turn w ↦ (λ is. let fallen = c.take_turn.ensures.falls (search rules) in omega (arith, before, fallen))
        | else-take_turn w ↦ (λ is. let fallen = c.loop-number.invariant.falls (sym w.is_running-is ∙ is) in omega (arith, now, fallen))
      ];
    }
