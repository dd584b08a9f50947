use Rattle.std.proofs.Common.{arith}
use Rattle.std.proofs.lemmas.Bool.Decides.{nat_tests}
use Rattle.fc_moves.specs.GameRules.{are_of_other_colour}
use Rattle.fc_moves.proofs.GameLemmas.{free_cell-stands, other_ranks}
use Rattle.fc_moves.proofs.free_cell.FreeCellGame.stands.Goals as goal

pub returns-then-rank : goal.returns-then-rank
returns-then-rank c = record {
  value =
      free_cell-stands c.args.self.now.cells c.args.upper c.args.lower c.is_red.result c.is_red-then-rank.result (omega (arith, c.rank.ensures.within.greatest)) (omega (arith, c.rank-2.ensures.within.greatest)) c.is_red.ensures.value c.is_red-then-rank.ensures.value (omega arith);
}

pub returns-else-rank : goal.returns-else-rank
returns-else-rank c = record {
  value = (λ yes. absurd (grind (arith, nat_tests)), λ found. absurd (other_ranks are_of_other_colour c.args.upper c.args.lower (λ e. c.if-rank.false (omega (arith, e))) found));
}
