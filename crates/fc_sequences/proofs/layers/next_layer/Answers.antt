use Rattle.std.proofs.Common.{refl, subst, arith}
use Rattle.std.specs.Prelude.{All}
use Rattle.fc_moves.specs.Step.{Allows}
use Rattle.fc_sequences.proofs.MadeLemmas.{stepped_next}
use Rattle.fc_sequences.proofs.layers.next_layer.Goals as goal

pub step_all-requires : goal.step_all-requires
step_all-requires g c = record {
  allowed = subst (All (λ b. Allows (g.G.Game.game c.args.game.now) b c.in-Some.m)) c.as_slice.ensures.value (c.if-all_allow.ensures.value.0 refl);
}

pub returns : goal.returns
returns g c = record {
  next = stepped_next _ _ _ c.args.pair c.in-Some.m _ c.requires.layer c.in-Some.ensures.single (omega arith) c.step_all.ensures.stepped;
}
