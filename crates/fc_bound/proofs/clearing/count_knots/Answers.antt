use Rattle.std.proofs.Common.{ap, ◌∙◌, arith}
use Rattle.fc_bound.specs.Clearing.{cards_in}
use Rattle.fc_bound.specs.Knots.{knot_count}
use Rattle.fc_bound.proofs.KnotLemmas.{knot_cost_no_greater}
use Rattle.fc_bound.proofs.KnotSteps.{count_is}
use Rattle.fc_bound.proofs.clearing.count_knots.Goals as goal

pub returns : goal.returns
returns c =
    let s = c.args.left.now in
    let count = c.knot_count.ensures.value ∙ ap knot_count c.copy-copy.ensures.value in
    record {
      value = count;
      least = omega (arith, count, count_is s, knot_cost_no_greater (cards_in s) s c.requires.cards);
    }
