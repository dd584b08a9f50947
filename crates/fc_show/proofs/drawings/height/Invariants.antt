use Rattle.std.proofs.Common.{◌≡◌, ◌<◌, take}
use Rattle.fc_position.specs.Position.{IsPosition}
use Rattle.fc_show.specs.Drawing.{height}
use Rattle.fc_show.proofs.drawings.height.Given as goal

-- the longest of the columns so far
abbrev pub invariant-loop-i : goal.invariant-loop-i
invariant-loop-i l = record {
  value : l.most ≡ height (take l.i l.position.columns);
  whole : 0 < l.i → IsPosition l.position;
}
