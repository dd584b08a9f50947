use Rattle.std.proofs.Common.{◌≡◌, ◌<◌, take}
use Rattle.fc_position.specs.Position.{IsPosition}
use Rattle.fc_text.proofs.PrintLemmas.{lines_text}
use Rattle.fc_text.proofs.printers.print_board.Given as goal

-- the foundations, the cells and the columns so far are written
abbrev pub invariant-loop-i : goal.invariant-loop-i
invariant-loop-i l = record {
  written : l.text.bytes ≡ lines_text l.cells l.position (take l.i l.position.columns);
  whole : 0 < l.i → IsPosition l.position;
}
