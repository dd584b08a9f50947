use Rattle.std.proofs.Common.{◌≡◌, ◌++◌, map, take}
use Rattle.std.specs.Prelude.{codes}
use Rattle.fc_text.specs.Printed.{cell_text, entries_text}
use Rattle.fc_text.proofs.printers.push_cells.Given as goal

-- the cells so far are written
abbrev pub invariant-loop-i : goal.invariant-loop-i
invariant-loop-i l = l.text.bytes ≡ l.fn.text.bytes ++ (codes "Freecells:" ++ entries_text (map cell_text (take l.i l.position.cells)))
