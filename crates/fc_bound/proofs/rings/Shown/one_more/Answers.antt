use Rattle.std.proofs.Common.{arith}
use Rattle.std.proofs.lemmas.Nat.{and_le_r}
use Rattle.fc_bound.proofs.TiedLemmas.{in_second}
use Rattle.fc_bound.proofs.rings.Shown.one_more.Goals as goal

pub loop-rest-init : goal.loop-rest-init
loop-rest-init c = record {
  below = omega (arith, and_le_r c.args.through c.args.able, c.requires.able);
  within = in_second c.args.through c.args.able;
}
