use Rattle.std.proofs.Common.{◌≡◌, ◌+◌, ◌*◌, ◌++◌, length, take}
use Rattle.fc_show.specs.Drawing.{names_row}
use Rattle.fc_show.proofs.entries.push_names.Given as goal

-- the names so far are written
abbrev pub invariant-loop-letter : goal.invariant-loop-letter
invariant-loop-letter l = record {
  text : l.text.items ≡ l.fn.text.items ++ names_row (take l.letter-index l.letters);
  size : length l.text.items ≡ length l.fn.text.items + 3 * l.letter-index;
}
