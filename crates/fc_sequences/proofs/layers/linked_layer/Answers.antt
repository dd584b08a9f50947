use Rattle.std.proofs.Common.{◌≤◌, arith}
use Rattle.fc_sequences.proofs.CountLemmas.{played_few}
use Rattle.fc_sequences.proofs.GrowLemmas.{growing_first, growing_last}
use Rattle.fc_sequences.proofs.layers.linked_layer.Goals as goal

pub loop-parent-init : goal.loop-parent-init
loop-parent-init g c = growing_first _ c.args.boards.now _ _ c.new.ensures.items c.new-2.ensures.items
    (λ b d plays. let few : 1 ≤ 0 = (played_few _ b _ 0 d (g.met.G.Game.sound c.args.game.now) plays).0 in absurd (omega (arith, few)))

pub returns : goal.returns
returns g c = record { next = growing_last _ c.args.boards.now _ _ c.loop-parent.parent (omega arith) c.loop-parent.invariant }
