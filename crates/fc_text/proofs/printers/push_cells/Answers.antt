use Rattle.std.proofs.Common.{◌++◌, length, take, map, ap, arith}
use Rattle.std.specs.Prelude.{codes}
use Rattle.std.proofs.lemmas.List.{length-append, length-take}
use Rattle.fc_text.specs.Printed.{cell_text, entries_text}
use Rattle.fc_text.proofs.PrintLemmas.{length-cells}
use Rattle.fc_text.proofs.printers.push_cells.Goals as goal

pub push_byte-requires-clause-room : goal.push_byte-requires-clause-room
push_byte-requires-clause-room c =
    let held = take c.loop-i.i c.args.position.now.cells in
    let size = ap length c.loop-i.invariant in
    let long = length-append c.args.text.now.bytes (codes "Freecells:" ++ entries_text (map cell_text held)) in
    let few = length-cells held in
    let most = length-take c.loop-i.i c.args.position.now.cells in
    omega arith
