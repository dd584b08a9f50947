use Rattle.fc_runs.proofs.BatchLemmas.{one_held}
use Rattle.fc_runs.proofs.deal_batches.take_turn.Goals as goal

pub returns-in_default-clause-held : goal.returns-in_default-clause-held
returns-in_default-clause-held g c = λ q from count held.
    one_held q from count c.args.number c.args.batch.now c.turn.new.self c.turn.result c.turn.ensures.turn held

pub returns-clause-held : goal.returns-clause-held
returns-clause-held g c = λ q from count held.
    one_held q from count c.args.number c.args.batch.now c.turn.new.self c.turn.result c.turn.ensures.turn held

pub returns-in_default-2-clause-held : goal.returns-in_default-2-clause-held
returns-in_default-2-clause-held g c = λ q from count held.
    one_held q from count c.args.number c.args.batch.now c.turn.new.self c.turn.result c.turn.ensures.turn held
