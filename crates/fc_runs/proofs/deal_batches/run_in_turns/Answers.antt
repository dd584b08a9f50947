use Rattle.fc_runs.proofs.deal_batches.run_in_turns.Goals as goal

pub returns-in-Ok-clause-batched : goal.returns-in-Ok-clause-batched
returns-in-Ok-clause-batched g c =
    let q = c.args.question.now in
    let held = c.run_to_end.ensures.held q c.args.from c.in_ok-batch.ensures.holds in
    record {
      count = c.in_ok-count.count;
      asked = c.in_ok-count.ensures.asked;
      told = c.in-Ok.ensures.told q held c.run_to_end.ensures.ended;
    }

pub returns-clause-fault : goal.returns-clause-fault
returns-clause-fault g c =
    let q = c.args.question.now in
    let held = c.run_to_end.ensures.held q c.args.from c.in_ok-batch.ensures.holds in
    (c.in_ok-count.count, c.in_ok-count.ensures.asked, c.in-Err.ensures.cut q held c.run_to_end.ensures.ended)
