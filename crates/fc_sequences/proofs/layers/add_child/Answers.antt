use Rattle.std.proofs.Common.{◌≡◌, refl, sym, subst}
use Rattle.std.specs.Prelude.{Any}
use Rattle.std.proofs.lemmas.Bool.{false≢true}
use Rattle.fc_sequences.proofs.GrowLemmas.{any_held, held_any, growing_skip, growing_held, growing_new}
use Rattle.fc_sequences.proofs.layers.add_child.Goals as goal

pub returns-then-not-may_play : goal.returns-then-not-may_play
returns-then-not-may_play g c = record {
  grown = λ before stands growing.
      growing_skip _ before _ _ _ _ c.args.board.now growing stands (λ plays. false≢true (c.if-not-may_play.ensures.value.1 plays));
}

pub returns-in_ok-push-2 : goal.returns-in_ok-push-2
returns-in_ok-push-2 g c = record {
  grown = λ before stands growing.
      growing_new _ before _ _ _ _ _ c.args.board.now c.in_ok-child.child c.args.link growing stands refl c.in_ok-child.ensures.child c.in_ok-child.ensures.whole
      (λ held. false≢true (c.if-not-is_there.ensures.value.1 (subst (Any (λ b. b ≡ c.in_ok-child.child)) (sym c.as_slice.ensures.value) (held_any _ _ held))))
      c.in_ok-push.ensures.items c.in_ok-push-2.ensures.items;
}

pub returns-else-not-is_there : goal.returns-else-not-is_there
returns-else-not-is_there g c = record {
  grown = λ before stands growing.
      growing_held _ before _ _ _ _ c.args.board.now c.in_ok-child.child growing stands c.in_ok-child.ensures.child
      (any_held _ _ (subst (Any (λ b. b ≡ c.in_ok-child.child)) c.as_slice.ensures.value (c.if-not-is_there.ensures.value.0 refl)));
}
