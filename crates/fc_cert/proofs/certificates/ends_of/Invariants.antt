use Rattle.std.proofs.Common.{◌≡◌, ◌-◌, ◌≤◌, ℕ, List, length, ◌++◌}
use Rattle.fc_cert.specs.inner.Layout.{AreRecords, ends_from}
use Rattle.fc_cert.proofs.certificates.ends_of.Given as goal

-- of the records those that are left follow, and where the others end was noted
abbrev pub invariant-loop : goal.invariant-loop
invariant-loop l = record {
  shorter : length l.rest ≤ length l.records;
  ends : (rows : List (List ℕ × ℕ)) → AreRecords l.head.cells l.head.kind l.records l.count rows
      → (left : List (List ℕ × ℕ)) × AreRecords l.head.cells l.head.kind l.rest (l.count - l.counter) left
      × (ends_from 0 rows ≡ l.ends.items ++ ends_from (length l.records - length l.rest) left);
}
