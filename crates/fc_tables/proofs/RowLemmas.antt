-- Tables that are made of closed ones, and that no empty table is closed.
use Rattle.std.proofs.Common.{ℕ, ◌+◌, ◌<◌, ◌↔◌, inl, inr, ⊎_elim, arith}
use Rattle.std.specs.Prelude.{Contains}
use Rattle.std.proofs.lemmas.Bool.{cases_lt}
use Rattle.fc_position.specs.Board.{Board}
use Rattle.fc_tables.specs.Laws.{RowsInsideAreClosedBelow, ClosedInsideAllIsClosed, CostsOfClosedTablesAreFree, NoEmptyTableIsClosed}
use Rattle.fc_tables.specs.Table.{Table, ListsClass, IsCoveredBelow}
use Rattle.fc_bound.specs.LowerBound.{IsLowerBound}
use Rattle.fc_home.proofs.EveryLemmas.{every_settles}

-- what a table covers is covered by its pairs whose cost and bound are below n
rows-covered : (low : Board → ℕ) (n : ℕ) (S T : Table) (x : Board) (d : ℕ) → IsLowerBound low
    → ((e : Board × ℕ) → Contains S e ↔ (Contains T e × (e.1 + low e.0 < n))) → IsCoveredBelow low n T x d → IsCoveredBelow low n S x d
rows-covered low n S T x d lower rows covered =
    ⊎_elim (λ far. inl far)
    (λ (e, listed, same, cost).
    let equal = lower.alike x e.0 same in
    ⊎_elim (λ inside. inr (e, (rows e).1 (listed, inside), same, cost)) (λ far. inl (omega (arith, far, equal, cost)))
    (cases_lt (e.1 + low e.0) n)) covered

pub rows_inside : RowsInsideAreClosedBelow
rows_inside low g rule p n S T lower closed rows = record {
  not_won = λ e listed. let both = (rows e).0 listed in closed.not_won e both.0 both.1;
  start = λ q k settles. rows-covered low n S T q k lower rows (closed.start q k settles);
  steps = λ e x listed px same inside m y z k step settles.
      rows-covered low n S T z (e.1 + 1 + k) lower rows (closed.steps e x ((rows e).0 listed).0 px same inside m y z k step settles);
}

-- what is covered below a number that its bound doesn't reach is listed
near-listed : (low : Board → ℕ) (n : ℕ) (T : Table) (x : Board) (d : ℕ) → d + low x < n → IsCoveredBelow low n T x d → ListsClass T x
near-listed low n T x d near covered =
    ⊎_elim (λ far. absurd (omega (arith, near, far))) (λ (e, listed, same, cost). (e, listed, same)) covered

pub inside_all : ClosedInsideAllIsClosed
inside_all low g rule p T all = record {
  not_won = λ e listed. (all (e.1 + low e.0 + 1)).not_won e listed (omega arith);
  start = λ q k settles. near-listed low (k + low q + 1) T q k (omega arith) ((all (k + low q + 1)).start q k settles);
  steps = λ e x listed px same m y z k step settles.
      let n = e.1 + 1 + k + low z + low x + 1 in
      near-listed low n T z (e.1 + 1 + k) (omega arith) ((all n).steps e x listed px same (omega arith) m y z k step settles);
}

pub costs_free : CostsOfClosedTablesAreFree
costs_free g rule p S T closed boards = record {
  not_won = λ e listed. let other = (boards e.0).0 (e.1, listed) in closed.not_won (e.0, other.0) other.1;
  start = λ q k settles. over q (closed.start q k settles);
  steps = λ e x listed px same m y z k step settles.
      let other = (boards e.0).0 (e.1, listed) in
      over z (closed.steps (e.0, other.0) x other.1 px same m y z k step settles);
} where
  over : (x : Board) → ListsClass T x → ListsClass S x
  over x (e, listed, same) = let other = (boards e.0).1 (e.1, listed) in ((e.0, other.0), other.1, same)

pub empty_open : NoEmptyTableIsClosed
empty_open g rule p closed =
    let way = every_settles g rule p in
    let found = closed.start way.1 way.0 way.2 in
    absurd (omega (arith, found.1.1))
