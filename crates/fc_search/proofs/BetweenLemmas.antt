-- Tables between the rows of a closed one whose cost and bound are below n and all of them.
use Rattle.std.proofs.Common.{ℕ, ◌+◌, ◌<◌, [], inl, inr, refl, ⊎_elim, arith}
use Rattle.std.specs.Prelude.{Contains}
use Rattle.std.proofs.lemmas.Bool.{cases_lt}
use Rattle.fc_position.specs.Board.{Board}
use Rattle.fc_position.specs.Position.{IsPosition}
use Rattle.fc_moves.specs.GameRules.{GameRules}
use Rattle.fc_bound.specs.LowerBound.{IsLowerBound}
use Rattle.fc_tables.specs.Table.{Table, IsCoveredBelow, IsClosedBelow, IsClosedInside}

-- what a table covers is covered by those of its pairs whose cost and bound are below n
between-covered : (low : Board → ℕ) (n : ℕ) (S T : Table) (x : Board) (d : ℕ) → IsLowerBound low
    → ((e : Board × ℕ) → Contains T e → e.1 + low e.0 < n → Contains S e) → IsCoveredBelow low n T x d → IsCoveredBelow low n S x d
between-covered low n S T x d lower inside covered =
    ⊎_elim (λ far. inl far)
    (λ (e, listed, same, cost).
    let equal = lower.alike x e.0 same in
    ⊎_elim (λ near. inr (e, inside e listed near, same, cost)) (λ far. inl (omega (arith, far, equal, cost)))
    (cases_lt (e.1 + low e.0) n)) covered

-- so a table between them, of costs below n, is closed: a won board has the bound 0
pub rows_between : (low : Board → ℕ) (g : GameRules) (rule : ℕ) (p : Board) (n : ℕ) (S T : Table) → IsLowerBound low
    → IsClosedInside low g rule p n T → ((e : Board × ℕ) → Contains S e → Contains T e × IsPosition e.0 × (e.1 < n))
    → ((e : Board × ℕ) → Contains T e → e.1 + low e.0 < n → Contains S e) → IsClosedBelow low g rule p n S
rows_between low g rule p n S T lower closed among inside = record {
  not_won = λ e listed won.
      let a = among e listed in
      let least = lower.needed g e.0 [] a.1 (e.0, refl, won) in
      closed.not_won e a.0 (omega (arith, a.2, least)) won;
  start = λ q k settles. between-covered low n S T q k lower inside (closed.start q k settles);
  steps = λ e x listed px same near m y z k step settles.
      between-covered low n S T z (e.1 + 1 + k) lower inside (closed.steps e x (among e listed).0 px same near m y z k step settles);
}
