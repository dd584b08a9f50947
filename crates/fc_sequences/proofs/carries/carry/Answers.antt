use Rattle.std.proofs.Common.{◌+◌, ◌∙◌, ap, length, arith}
use Rattle.fc_sequences.proofs.MovesLemmas.{moves_here, moves_few_here}
use Rattle.fc_sequences.proofs.RunLemmas.{adds_keeps, where_ok}
use Rattle.fc_sequences.proofs.SpaceLemmas.{may_by, may_over}
use Rattle.fc_sequences.proofs.carries.carry.Goals as goal

pub carry_by_cells-requires : goal.carry_by_cells-requires
carry_by_cells-requires g c =
    may_by (g.G.Game.game c.args.game.now) c.args.position.now c.args.from c.args.to c.args.count c.as_slice.result.now (g.met.G.Game.sound c.args.game.now) c.requires.fits c.requires.may (c.as_slice.ensures.value ∙ c.free_cells-cells.ensures.value) c.as_slice.ensures.fits (omega (arith, ap length c.as_slice.ensures.value))

pub returns-then-count-len-clause-count : goal.returns-then-count-len-clause-count
returns-then-count-len-clause-count g c =
    let few = moves_few_here (g.G.Game.game c.args.game.now) c.args.position.now c.args.to c.args.count c.as_slice.result.now (c.as_slice.ensures.value ∙ c.free_cells-cells.ensures.value) (omega (arith, ap length c.as_slice.ensures.value)) in
    where_ok c.carry_by_cells.result c.carry_by_cells.ensures (λ done. done.count_is ∙ ap (λ n. length c.args.moves.now.items + n) few)

pub returns-then-count-len-clause-whole : goal.returns-then-count-len-clause-whole
returns-then-count-len-clause-whole g c =
    where_ok c.carry_by_cells.result c.carry_by_cells.ensures
    (λ done. adds_keeps (g.G.Game.game c.args.game.now) c.args.position.now c.carry_by_cells.new.position c.args.moves.now.items c.carry_by_cells.new.moves.items c.requires.fits done.run)

pub carry_over-requires : goal.carry_over-requires
carry_over-requires g c =
    may_over (g.G.Game.game c.args.game.now) c.args.position.now c.args.from c.args.to c.args.count c.as_slice-2.result.now c.as_slice-3.result.now (g.met.G.Game.sound c.args.game.now) c.requires.fits c.requires.may (c.as_slice-2.ensures.value ∙ c.free_cells-cells.ensures.value) (c.as_slice-3.ensures.value ∙ c.spare_columns-columns.ensures.value) c.as_slice-2.ensures.fits c.as_slice-3.ensures.fits (omega (arith, ap length c.as_slice-2.ensures.value))

pub returns-clause-count : goal.returns-clause-count
returns-clause-count g c =
    let here = moves_here (g.G.Game.game c.args.game.now) c.args.position.now c.args.to c.args.count c.as_slice-2.result.now c.as_slice-3.result.now (c.as_slice-2.ensures.value ∙ c.free_cells-cells.ensures.value) (c.as_slice-3.ensures.value ∙ c.spare_columns-columns.ensures.value) in
    where_ok c.carry_over.result c.carry_over.ensures (λ done. done.count_is ∙ ap (λ n. length c.args.moves.now.items + n) here)

pub returns-clause-whole : goal.returns-clause-whole
returns-clause-whole g c =
    where_ok c.carry_over.result c.carry_over.ensures
    (λ done. adds_keeps (g.G.Game.game c.args.game.now) c.args.position.now c.carry_over.new.position c.args.moves.now.items c.carry_over.new.moves.items c.requires.fits done.run)
