use Rattle.std.proofs.Common.{arith}
use Rattle.fc_notes.proofs.TypedNumbers.{takes_more}
use Rattle.fc_notes.proofs.typed_numbers.first_lines.Goals as goal

pub loop-taken-preserved : goal.loop-taken-preserved
loop-taken-preserved c = record {
  taken =
      takes_more c.args.text.now c.loop-taken.rest.now c.split_line.result.0.now c.split_line.result.1.now c.loop-taken.taken
      c.loop-taken.invariant.taken c.split_line.ensures.line c.split_line.ensures.joined;
  most = omega arith;
  within = omega (arith, c.loop-taken.invariant.within, c.split_line.ensures.shorter);
}
