use Rattle.fc_text.specs.Line.{board_lines}
use Rattle.fc_text.specs.Spot.{NoneHasCard}
use Rattle.fc_text.proofs.LineLoop.{lines_left}
use Rattle.fc_text.proofs.PassLemmas.{Passed}
use Rattle.fc_text.proofs.spots.first_spot_of.Given as goal

-- none of the lines so far has the card, and the others are left
abbrev pub invariant-loop-line : goal.invariant-loop-line
invariant-loop-line l = Passed (NoneHasCard l.card) (board_lines l.text) (lines_left l.line-iterator.rest.now) l.number
