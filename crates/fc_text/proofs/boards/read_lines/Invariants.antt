use Rattle.fc_text.proofs.LineLoop.{LinesSoFar}
use Rattle.fc_text.proofs.boards.read_lines.Given as goal

-- the lines so far are sound and read, and the others are left
abbrev pub invariant-loop-line : goal.invariant-loop-line
invariant-loop-line l = LinesSoFar l.most l.text l.line-iterator.rest.now l.number l.draft
