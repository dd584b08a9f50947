use Rattle.std.proofs.Common.{subst, sym, arith}
use Rattle.std.specs.Prelude.{Contains}
use Rattle.fc_cards.specs.declared.places.Place.TheVariants.{Column}
use Rattle.fc_moves.specs.declared.steps.Move.{Move}
use Rattle.fc_canonical.proofs.MoveLemmas.{one_more}
use Rattle.fc_space.specs.Children.{frame_of}
use Rattle.fc_space.specs.Ways.{LeadsWithin}
use Rattle.fc_space.proofs.WayLemmas.{not_there}
use Rattle.fc_space.proofs.ways.way_on.Goals as goal

pub loop-m-preserved : goal.loop-m-preserved
loop-m-preserved g c =
    let items = c.as_slice-m-items.result.now in
    let d : Move = record { from = Column 0; to = Column 0 } in
    one_more items c.loop-m.m-index d
    (λ m. LeadsWithin (frame_of (g.G.Game.game c.args.space.now.rules.game) c.args.space.now.rules.rule c.args.space.now.rules.kind c.args.space.now.start) c.args.position.now c.args.to.now c.args.most m → ⊥)
    c.loop-m-test.true c.loop-m.invariant
    (not_there c.way_by-way.result _ _ c.way_by-way.ensures.value c.if-is_some.ensures)

pub returns : goal.returns
returns g c = record {
  first = λ m leads.
      let found = subst (λ l. Contains l m) (sym c.as_slice-m-items.ensures.value)
      (c.moves.ensures.complete m (leads.1.0, leads.1.1)) in
      c.loop-m.invariant found.0 m (omega (arith, found.1))
      (subst (LeadsWithin (frame_of (g.G.Game.game c.args.space.now.rules.game) c.args.space.now.rules.rule c.args.space.now.rules.kind c.args.space.now.start) c.args.position.now c.args.to.now c.args.most)
      (sym found.2) leads);
}
