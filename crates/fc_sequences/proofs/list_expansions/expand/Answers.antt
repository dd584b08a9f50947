use Rattle.std.proofs.Common.{[], ◌∷◌, sym, subst}
use Rattle.fc_sequences.specs.inner.Layers.{AreLinked, PlaysAll}
use Rattle.fc_sequences.proofs.list_expansions.expand.Goals as goal

pub returns-clause-expanded : goal.returns-clause-expanded
returns-clause-expanded g c =
    let game = g.G.Game.game c.args.game.now in
    let b = c.args.position.now in
    let ps = c.args.pairs.now in
    let (boards, d, grown, stands, won) = c.in_ok-layers.ensures.grown in
    let linked : AreLinked game (b ∷ []) ps c.as_slice.result.now boards =
    subst (λ l. AreLinked game (b ∷ []) ps l boards) (sym c.as_slice.ensures.value) grown.linked in
    let plays : PlaysAll game b ps c.as_slice-2.result.now d =
    subst (λ l. PlaysAll game b ps l d) (sym c.as_slice-2.ensures.value) (c.in_ok-counts.ensures.counts game b ps boards d linked stands) in
    (d, c.in_ok-moves_by.ensures.expanded d plays, λ e follows wins. won e (grown.complete e follows) wins)
