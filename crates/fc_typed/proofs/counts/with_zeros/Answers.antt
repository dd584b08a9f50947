use Rattle.std.proofs.Common.{◌∙◌, arith}
use Rattle.fc_typed.proofs.CountLemmas.{zeros_next, zeros_all}
use Rattle.fc_typed.proofs.counts.with_zeros.Goals as goal

pub loop-preserved : goal.loop-preserved
loop-preserved c =
    c.saturating_mul-value.ensures ∙ zeros_next 4294967295 c.args.value c.loop.counter c.loop.value c.loop.invariant

pub returns : goal.returns
returns c m n v z =
    zeros_all 4294967295 m n c.args.value c.args.zeros c.loop.counter c.loop.value (omega arith) (omega arith) c.loop.invariant (omega arith) v z
