use Rattle.std.proofs.Common.{get_or, arith}
use Rattle.fc_sequences.proofs.CellLemmas.{allows_across, after_across, allows_aside, allows_back, parts, puts_aside, by_rest, carried_by, later}
use Rattle.fc_sequences.proofs.RunLemmas.{where_both_ok}
use Rattle.fc_sequences.proofs.carries.+carry_by_cells.Goals as goal

pub step-requires : goal.step-requires
step-requires g t c = record {
  allowed =
      allows_across (g.G.Game.game c.args.game.now) c.args.position.now c.args.load.from c.args.load.to c.args.load.count c.requires.fits.position.columns c.if-count-eq1.true c.requires.lies;
}

pub returns-then-count-eq1 : goal.returns-then-count-eq1
returns-then-count-eq1 g t c =
    where_both_ok c.step.result c.step.ensures.run c.step.ensures.count (λ run count. record {
      after =
          after_across (g.G.Game.game c.args.game.now) c.args.position.now c.step.new.position c.args.load.from c.args.load.to c.args.load.count c.requires.fits.position.columns c.if-count-eq1.true c.requires.lies c.step.ensures.step;
      run = run;
      count_is = omega (arith, count, c.if-count-eq1.true);
    })

pub step-requires-2 : goal.step-requires-2
step-requires-2 g t c =
    let game = g.G.Game.game c.args.game.now in
    let cells = c.args.cells.now in
    let e = parts game c.args.position.now c.args.load.from c.args.load.to c.args.load.count cells c.requires c.if-count-eq1.false in record {
      allowed =
          allows_aside game c.args.position.now c.args.load.from c.args.load.to c.args.load.count (get_or cells 0 0) cells (later cells) e c.requires;
    }

pub carry_by_cells-requires : goal.carry_by_cells-requires
carry_by_cells-requires g t c κs within =
    let game = g.G.Game.game c.args.game.now in
    let cells = c.args.cells.now in
    let p = puts_aside game c.args.position.now c.args.load.from c.args.load.to c.args.load.count cells c.step-2.new.position c.requires c.if-count-eq1.false c.step-2.ensures.step in
    (omega (arith, c.requires.lies.some_cards), (within, by_rest game c.args.position.now c.step-2.new.position c.args.load.from c.args.load.to c.args.load.count (get_or cells 0 0) cells (later cells) p))

pub step-requires-3 : goal.step-requires-3
step-requires-3 g t c =
    let game = g.G.Game.game c.args.game.now in
    let cells = c.args.cells.now in
    let p = puts_aside game c.args.position.now c.args.load.from c.args.load.to c.args.load.count cells c.step-2.new.position c.requires c.if-count-eq1.false c.step-2.ensures.step in record {
      allowed =
          allows_back game c.args.position.now c.step-2.new.position c.carry_by_cells.new.position c.args.load.from c.args.load.to c.args.load.count (get_or cells 0 0) cells (later cells) p c.in_ok-carry_by_cells.ensures.after;
    }

pub returns : goal.returns
returns g t c =
    let game = g.G.Game.game c.args.game.now in
    let cells = c.args.cells.now in
    let p = puts_aside game c.args.position.now c.args.load.from c.args.load.to c.args.load.count cells c.step-2.new.position c.requires c.if-count-eq1.false c.step-2.ensures.step in
    where_both_ok c.step-3.result c.step-3.ensures.run c.step-3.ensures.count
    (carried_by game c.args.position.now c.step-2.new.position c.carry_by_cells.new.position c.step-3.new.position c.args.load.from c.args.load.to c.args.load.count (get_or cells 0 0) cells (later cells) c.args.moves.now.items c.step-2.new.moves.items c.carry_by_cells.new.moves.items c.step-3.new.moves.items p c.in_ok-step.ensures.run c.in_ok-step.ensures.count c.in_ok-carry_by_cells.ensures c.step-3.ensures.step)
