use Rattle.std.proofs.Common.{◌-◌, length, get_or, []}
use Rattle.fc_codes.proofs.StackLemmas.{Grows}
use Rattle.fc_codes.proofs.start_layouts.Layout.grow.Given as goal

abbrev pub invariant-loop-next : goal.invariant-loop-next
invariant-loop-next l =
    Grows l.self l.code l.i l.fn.last l.fn.columns l.columns l.next

abbrev pub decreases-loop-next : goal.decreases-loop-next
decreases-loop-next l = 52 - length (get_or l.columns l.i [])
