use Rattle.std.proofs.Common.{◌^◌, ◌<◌, bit_and, ◌∙◌, ap, arith}
use Rattle.std.proofs.lemmas.Nat.{and_le_l}
use Rattle.fc_bound.specs.inner.Rows.{waiting_in}
use Rattle.fc_bound.proofs.OnesLemmas.{waiting_ones}
use Rattle.fc_bound.proofs.columns_left.Left.waiting.Goals as goal

pub returns : goal.returns
returns c =
    let held = c.self.inside.held in
    let all = c.self.inside.all in
    let fits : bit_and held all < 2 ^ 64 = omega (arith, and_le_l held all) in
    record {
      value = waiting_ones c.self.inside.position.now c.self.inside.rows.now held all c.self.inside.lasts c.self.invariant fits ∙ ap waiting_in c.self.view_is;
    }
