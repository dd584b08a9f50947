use Rattle.std.proofs.Common.{◌≡◌, length}
use Rattle.std.specs.Cmp.Lexicographic.{slice_cmp}
use Rattle.std.specs.Ordering.{nat_cmp}
use Rattle.fc_cert.proofs.comparisons.compare.Given as goal

-- what is left has the order of all
abbrev pub invariant-loop-x : goal.invariant-loop-x
invariant-loop-x l = slice_cmp nat_cmp l.a l.b ≡ slice_cmp nat_cmp l.left l.right

abbrev pub decreases-loop-x : goal.decreases-loop-x
decreases-loop-x l = length l.left
