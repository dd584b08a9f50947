use Rattle.std.proofs.Common.{◌≡◌, ◌≤◌, take}
use Rattle.std.specs.Prelude.{count_by}
use Rattle.fc_text.specs.Line.{is_line_end}
use Rattle.fc_notes.proofs.typed_numbers.end_count.Given as goal

-- the LFs that were passed are counted
abbrev pub invariant-loop-byte : goal.invariant-loop-byte
invariant-loop-byte l = (l.count ≡ count_by is_line_end (take l.byte-index l.text)) × (l.count ≤ l.byte-index)
