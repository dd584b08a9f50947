use Rattle.std.proofs.Common.{refl, arith}
use Rattle.fc_typed.proofs.CountLemmas.{unit_letter}
use Rattle.fc_typed.proofs.counts.read_unit.Goals as goal

pub returns-in-107-clause-value : goal.returns-in-107-clause-value
returns-in-107-clause-value c =
    (3, (unit_letter c.args.unit.now c.in-107.len_at_least c.in-107.len_below).0 (grind arith), refl)

pub returns-in-109-clause-value : goal.returns-in-109-clause-value
returns-in-109-clause-value c =
    (6, (unit_letter c.args.unit.now c.in-109.len_at_least c.in-109.len_below).1 (grind arith), refl)
