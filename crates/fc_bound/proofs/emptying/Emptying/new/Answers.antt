use Rattle.std.proofs.Common.{bit_and, arith}
use Rattle.std.proofs.lemmas.Nat.{and_le_r}
use Rattle.fc_bound.proofs.TiedLemmas.{and_twice}
use Rattle.fc_bound.proofs.emptying.Emptying.new.Goals as goal

pub invariant_of-result : goal.invariant_of-result
invariant_of-result c = record {
  cards = omega (arith, and_le_r c.args.marks.all 4503599627370495);
  left = and_twice c.args.marks.lasts (bit_and c.args.marks.all 4503599627370495);
}
