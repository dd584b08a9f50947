use Rattle.std.proofs.Common.{◌≡◌, ◌+◌, ◌-◌, ◌*◌, ◌≤◌, ◌++◌, length}
use Rattle.fc_show.specs.Drawing.{drawing, height, rows}
use Rattle.fc_show.proofs.drawings.draw.Given as goal

-- what is written and the rows from this one on are the whole
abbrev pub invariant-loop-i : goal.invariant-loop-i
invariant-loop-i l = record {
  text : l.text.items ++ rows l.style l.position.columns l.i (height l.position.columns - l.i)
      ≡ drawing l.style l.cells l.position;
  within : length l.text.items ≤ 154 + 97 * l.i;
}
