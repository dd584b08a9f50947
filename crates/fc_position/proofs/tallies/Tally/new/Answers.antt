use Rattle.std.proofs.Common.{◌≤◌, arith}
use Rattle.std.proofs.lemmas.List.Elements.{All-replicate}
use Rattle.fc_position.proofs.tallies.Tally.new.Goals as goal

pub invariant_of-result : goal.invariant_of-result
invariant_of-result c = All-replicate (λ n. n ≤ 2) 52 0 (omega arith)
