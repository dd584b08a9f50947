use Rattle.std.proofs.Common.{MatchOption}
use Rattle.fc_text.specs.Line.{board_lines}
use Rattle.fc_text.specs.Spot.{IsLastOf, NoneHasCard}
use Rattle.fc_text.proofs.LineLoop.{lines_left}
use Rattle.fc_text.proofs.PassLemmas.{Passed}
use Rattle.fc_text.proofs.spots.last_spot_of.Given as goal

-- the last spot in the lines so far is kept, and the other lines are left
abbrev pub invariant-loop-line : goal.invariant-loop-line
invariant-loop-line l =
    Passed
    (λ lines. MatchOption l.last (NoneHasCard l.card lines)
    (λ spot. IsLastOf lines l.card spot.line spot.place spot.token.now))
    (board_lines l.text) (lines_left l.line-iterator.rest.now) l.number
