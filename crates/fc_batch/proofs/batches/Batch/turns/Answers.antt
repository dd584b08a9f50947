use Rattle.std.proofs.Common.{◌+◌, ◌∷◌, [], ◌++◌, take, get_or, sym, subst, arith}
use Rattle.std.proofs.lemmas.List.{take_more}
use Rattle.fc_batch.specs.Batch.{TurnsFor}
use Rattle.fc_batch.proofs.BatchLemmas.{one_more}
use Rattle.fc_batch.proofs.batches.Batch.turns.Goals as goal

pub loop-i-preserved : goal.loop-i-preserved
loop-i-preserved g c =
    let list = c.args.list.now in
    let k = c.loop-i.i-index in
    let few = c.running_of-running.ensures.few in
    let so_far = c.loop-i.invariant.1 in
    let left = c.loop-i.invariant.2 in
    let less = c.turn.ensures.most in
    let told = c.running_of-running.ensures.value in (
      subst (λ l. TurnsFor l c.args.self.now c.turn.new.self (c.loop-i.running + c.running_of-running.result))
          (sym (take_more list k 0 c.loop-i-test.true))
          (subst (λ n. TurnsFor (take k list ++ get_or list k 0 ∷ []) c.args.self.now c.turn.new.self (c.loop-i.running + n))
          (sym c.running_of-running.ensures.value)
          (one_more (take k list) (get_or list k 0) c.args.self.now c.loop-i.self c.turn.new.self c.loop-i.running c.turn.result
          c.loop-i.invariant.0 c.turn.ensures.turn)),
      omega (arith, few, so_far),
      omega (arith, left, less, told),
    )
