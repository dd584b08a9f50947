use Rattle.std.proofs.Common.{◌≡◌, take}
use Rattle.std.specs.Prelude.{map}
use Rattle.fc_lists.specs.declared.written_entries.Entry.TheVariants as entry
use Rattle.fc_lists.proofs.written_entries.entries_of.Given as goal

-- the moves so far are the entries
abbrev pub invariant-loop-m : goal.invariant-loop-m
invariant-loop-m l = l.entries.items ≡ map entry.Move (take l.m-index l.list)
