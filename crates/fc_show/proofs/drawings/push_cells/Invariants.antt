use Rattle.std.proofs.Common.{◌≡◌, ◌+◌, ◌*◌, ◌≤◌, ◌++◌, length}
use Rattle.fc_show.specs.Drawing.{cells_row}
use Rattle.fc_show.proofs.drawings.push_cells.Given as goal

-- the cells so far are written
abbrev pub invariant-loop-i : goal.invariant-loop-i
invariant-loop-i l = record {
  text : l.text.items ≡ l.fn.text.items ++ cells_row l.style l.i l.position;
  within : length l.text.items ≤ length l.fn.text.items + 12 * l.i;
}
