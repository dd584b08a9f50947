-- Greater bounds close the same tables.
use Rattle.std.proofs.Common.{ℕ, ◌+◌, ◌<◌, ◌≤◌, inl, inr, ⊎_elim, arith}
use Rattle.fc_position.specs.Board.{Board}
use Rattle.fc_moves.proofs.StepLemmas.{step_keeps}
use Rattle.fc_home.proofs.SettleLemmas.{settles_keep}
use Rattle.fc_tables.specs.Laws.{GreaterBoundsCloseToo}
use Rattle.fc_tables.specs.Table.{Table, IsCoveredBelow}

-- what is covered by a bound is covered by one that is no less there
covered-more : (low high : Board → ℕ) (n : ℕ) (T : Table) (x : Board) (d : ℕ) → low x ≤ high x → IsCoveredBelow low n T x d → IsCoveredBelow high n T x d
covered-more low high n T x d more covered = ⊎_elim (λ far. inl (omega (arith, far, more))) (λ lists. inr lists) covered

pub greater_close : GreaterBoundsCloseToo
greater_close low high g rule p n T px more closed = record {
  not_won = closed.not_won;
  start = λ q k settles.
      covered-more low high n T q k (more q (settles_keep g rule p q k px settles).position) (closed.start q k settles);
  steps = λ e x listed pe same inside m y z k step settles.
      let under = more x pe.position in
      let near : e.1 + low x < n = omega (arith, inside, under) in
      covered-more low high n T z (e.1 + 1 + k)
      (more z (settles_keep g rule y z k (step_keeps g x y m pe step) settles).position)
      (closed.steps e x listed pe same near m y z k step settles);
}
