use Rattle.std.proofs.Common.{◌≡◌, ◌+◌, ◌*◌, ◌≤◌, ◌<◌, ◌++◌, length, take}
use Rattle.fc_position.specs.Position.{IsPosition}
use Rattle.fc_show.specs.Drawing.{row}
use Rattle.fc_show.proofs.drawings.push_row.Given as goal

-- the cards of the columns so far are written
abbrev pub invariant-loop-column : goal.invariant-loop-column
invariant-loop-column l = record {
  text : l.text.items ≡ l.fn.text.items ++ row l.style (take l.column l.position.columns) l.i;
  within : length l.text.items ≤ length l.fn.text.items + 12 * l.column;
  whole : 0 < l.column → IsPosition l.position;
}
