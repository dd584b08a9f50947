use Rattle.std.proofs.Common.{◌-◌, arith}
use Rattle.fc_sequences.proofs.OverLemmas.{halves, over_others, over_aside, over_rest, over_back, carried_over, carried_by_others, carried_alone}
use Rattle.fc_sequences.proofs.RunLemmas.{adds_keeps, where_ok}
use Rattle.fc_sequences.proofs.carries.+carry_over.Goals as goal

pub returns-in_default : goal.returns-in_default
returns-in_default g t c =
    where_ok c.carry_by_cells.result c.carry_by_cells.ensures
    (carried_alone (g.G.Game.game c.args.game.now) c.args.position.now c.carry_by_cells.new.position c.args.load.from c.args.load.to c.args.load.count c.args.cells.now c.args.columns.now c.args.moves.now.items c.carry_by_cells.new.moves.items c.in_default.ensures.cases)

pub carry_over-requires : goal.carry_over-requires
carry_over-requires g t c κs within = (
  omega (arith, c.in-Some.ensures.cases.1),
  (within, over_others (g.G.Game.game c.args.game.now) c.args.position.now c.args.load.from c.args.load.to c.args.load.count c.in-Some.column.now c.args.cells.now c.args.columns.now c.in-Some.others.now c.in-Some.ensures.cases.0 (omega (arith, c.room-most.ensures.value)) c.requires),
)

pub returns-then-count-most : goal.returns-then-count-most
returns-then-count-most g t c =
    where_ok c.carry_over.result c.carry_over.ensures
    (carried_by_others (g.G.Game.game c.args.game.now) c.args.position.now c.carry_over.new.position c.args.load.from c.args.load.to c.args.load.count c.in-Some.column.now c.args.cells.now c.args.columns.now c.in-Some.others.now c.args.moves.now.items c.carry_over.new.moves.items c.in-Some.ensures.cases.0 (omega (arith, c.room-most.ensures.value)))

pub carry_over-requires-2 : goal.carry_over-requires-2
carry_over-requires-2 g t c κs within =
    let game = g.G.Game.game c.args.game.now in
    let rest = c.room-most.result in
    let p = halves game c.args.position.now c.args.load.from c.args.load.to c.args.load.count c.in-Some.column.now (c.args.load.count - rest) rest c.args.cells.now c.args.columns.now c.in-Some.others.now c.in-Some.ensures.cases.0 (omega arith) (omega arith) c.room-most.ensures.value c.requires in (
      omega (arith, c.in-Some.ensures.cases.1),
      (within, over_aside game c.args.position.now c.args.load.from c.args.load.to c.in-Some.column.now (c.args.load.count - rest) rest c.args.cells.now c.in-Some.others.now p),
    )

pub carry_over-requires-3 : goal.carry_over-requires-3
carry_over-requires-3 g t c κs within =
    let game = g.G.Game.game c.args.game.now in
    let rest = c.room-most.result in
    let p = halves game c.args.position.now c.args.load.from c.args.load.to c.args.load.count c.in-Some.column.now (c.args.load.count - rest) rest c.args.cells.now c.args.columns.now c.in-Some.others.now c.in-Some.ensures.cases.0 (omega arith) (omega arith) c.room-most.ensures.value c.requires in
    let one = c.in_ok-carry_over.ensures in
    let fits = adds_keeps game c.args.position.now c.carry_over-2.new.position c.args.moves.now.items c.carry_over-2.new.moves.items c.requires.fits one.run in (
      omega (arith, c.in-Some.ensures.cases.1),
      (within, over_rest game c.args.position.now c.carry_over-2.new.position c.args.load.from c.args.load.to c.in-Some.column.now (c.args.load.count - rest) rest c.args.cells.now c.in-Some.others.now p fits one.after),
    )

pub carry_over-requires-4 : goal.carry_over-requires-4
carry_over-requires-4 g t c κs within =
    let game = g.G.Game.game c.args.game.now in
    let rest = c.room-most.result in
    let p = halves game c.args.position.now c.args.load.from c.args.load.to c.args.load.count c.in-Some.column.now (c.args.load.count - rest) rest c.args.cells.now c.args.columns.now c.in-Some.others.now c.in-Some.ensures.cases.0 (omega arith) (omega arith) c.room-most.ensures.value c.requires in
    let one = c.in_ok-carry_over.ensures in
    let two = c.in_ok-carry_over-2.ensures in
    let fits = adds_keeps game c.args.position.now c.carry_over-2.new.position c.args.moves.now.items c.carry_over-2.new.moves.items c.requires.fits one.run in
    let still = adds_keeps game c.carry_over-2.new.position c.carry_over-3.new.position c.carry_over-2.new.moves.items c.carry_over-3.new.moves.items fits two.run in (
      omega (arith, c.in-Some.ensures.cases.1),
      (within, over_back game c.args.position.now c.carry_over-2.new.position c.carry_over-3.new.position c.args.load.from c.args.load.to c.in-Some.column.now (c.args.load.count - rest) rest c.args.cells.now c.in-Some.others.now p still one.after two.after),
    )

pub returns : goal.returns
returns g t c =
    let game = g.G.Game.game c.args.game.now in
    let rest = c.room-most.result in
    let p = halves game c.args.position.now c.args.load.from c.args.load.to c.args.load.count c.in-Some.column.now (c.args.load.count - rest) rest c.args.cells.now c.args.columns.now c.in-Some.others.now c.in-Some.ensures.cases.0 (omega arith) (omega arith) c.room-most.ensures.value c.requires in
    where_ok c.carry_over-4.result c.carry_over-4.ensures
    (carried_over game c.args.position.now c.carry_over-2.new.position c.carry_over-3.new.position c.carry_over-4.new.position c.args.load.from c.args.load.to c.args.load.count c.in-Some.column.now (c.args.load.count - rest) rest c.args.cells.now c.args.columns.now c.in-Some.others.now c.args.moves.now.items c.carry_over-2.new.moves.items c.carry_over-3.new.moves.items c.carry_over-4.new.moves.items (omega arith) c.in-Some.ensures.cases.0 p c.in_ok-carry_over.ensures c.in_ok-carry_over-2.ensures)
