use Rattle.std.proofs.Common.{◌≡◌, ℕ}
use Rattle.std.specs.Prelude.{◌&&◌, count_by}
use Rattle.std.specs.Int.{bit_at}
use Rattle.fc_bound.specs.Knots.{without_last_where, waits_above}
use Rattle.fc_bound.proofs.ShedLemmas.{is_gone}
use Rattle.fc_bound.proofs.columns_left.Left.shed.Given as goal

-- those that are no more among the rest are gone
abbrev pub invariant-loop-rest : goal.invariant-loop-rest
invariant-loop-rest l = record {
  some : (u : ℕ) → bit_at l.rest u ≡ 1 → bit_at l.bits u ≡ 1;
  gone : l.self ≡ without_last_where (is_gone l.bits l.rest) l.fn.self;
  met : l.met ≡ count_by (λ x. is_gone l.bits l.rest x && waits_above x) l.fn.self;
}

abbrev pub decreases-loop-rest : goal.decreases-loop-rest
decreases-loop-rest l = l.rest
