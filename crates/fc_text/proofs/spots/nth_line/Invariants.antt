use Rattle.std.proofs.Common.{◌<◌, length}
use Rattle.fc_text.specs.Line.{board_lines}
use Rattle.fc_text.proofs.LineLoop.{lines_left}
use Rattle.fc_text.proofs.PassLemmas.{Passed}
use Rattle.fc_text.proofs.spots.nth_line.Given as goal

-- the lines so far have lower numbers, and the others are left
abbrev pub invariant-loop-line : goal.invariant-loop-line
invariant-loop-line l =
    Passed (λ lines. 0 < l.number → length lines < l.number) (board_lines l.text) (lines_left l.line-iterator.rest.now) l.count
