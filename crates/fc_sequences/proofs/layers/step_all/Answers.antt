use Rattle.std.proofs.Common.{arith}
use Rattle.fc_sequences.proofs.MadeLemmas.{allowed_there, stepped_more}
use Rattle.fc_sequences.proofs.layers.step_all.Goals as goal

pub apply-requires : goal.apply-requires
apply-requires g c = record {
  allowed = allowed_there _ c.args.m c.args.boards.now.items c.loop-place.boards.items c.loop-place.place c.index_mut.result.now c.loop-place.invariant
      (omega (arith, c.loop-place.invariant.long)) c.index_mut.ensures.value c.requires.allowed;
}

pub loop-place-preserved : goal.loop-place-preserved
loop-place-preserved g c =
    stepped_more _ c.args.m c.args.boards.now.items c.loop-place.boards.items c.loop-place.place c.index_mut.result.now c.apply.new.position c.loop-place.invariant
    (omega (arith, c.loop-place.invariant.long)) c.index_mut.ensures.value c.apply.ensures.step
