use Rattle.std.proofs.Common.{◌≡◌, ◌<◌, length, take}
use Rattle.std.specs.Prelude.{count_by}
use Rattle.fc_notes.specs.Length.{has_seven}
use Rattle.fc_notes.proofs.deal_lengths.seven_count.Given as goal

-- so many of the columns that were passed have seven cards
abbrev pub invariant-loop-column : goal.invariant-loop-column
invariant-loop-column l = record {
  counted : l.sevens ≡ count_by has_seven (take l.column l.start.columns);
  eight : 0 < l.column → length l.start.columns ≡ 8;
}
