use Rattle.std.proofs.Common.{◌-◌, ◌↔◌}
use Rattle.fc_canonical.specs.inner.Parts.{times_in, AreColumns}
use Rattle.fc_canonical.proofs.checks.are_columns.Given as goal

-- the bytes are such columns exactly where the rest is those that are left
abbrev pub invariant-loop : goal.invariant-loop
invariant-loop l =
    AreColumns (times_in l.fn.cards) 0 8 l.bytes ↔ AreColumns (times_in l.cards) l.last (8 - l.counter) l.rest
