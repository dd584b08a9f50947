use Rattle.std.proofs.Common.{◌≡◌, bit_and}
use Rattle.fc_bound.proofs.emptying.Emptying.loosen.Given as goal

abbrev pub invariant-loop-loose : goal.invariant-loop-loose
invariant-loop-loose l = l.loose ≡ bit_and l.self.lasts l.self.free

abbrev pub decreases-loop-loose : goal.decreases-loop-loose
decreases-loop-loose l = l.self.all
