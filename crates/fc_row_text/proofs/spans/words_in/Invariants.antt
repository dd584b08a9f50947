use Rattle.std.proofs.Common.{◌≡◌, drop}
use Rattle.fc_row_text.specs.Places.{line_start, scan_all}
use Rattle.fc_row_text.proofs.spans.words_in.Given as goal

-- the bytes that are left lead to the same end
abbrev pub invariant-loop-byte : goal.invariant-loop-byte
invariant-loop-byte l = scan_all l.scan (drop l.byte-index l.line) ≡ scan_all line_start l.line
