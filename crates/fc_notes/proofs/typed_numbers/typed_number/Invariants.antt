use Rattle.std.proofs.Common.{◌≡◌, ◌-◌, ◌<◌, ◌≤◌, false, length}
use Rattle.fc_typed.specs.declared.tidy_texts.TheConstants.{MOST_BYTES}
use Rattle.std.specs.Prelude.{◌⊎◌}
use Rattle.fc_notes.specs.FileLine.{is_in_units, line_count, staying_count}
use Rattle.fc_notes.proofs.typed_numbers.typed_number.Given as goal

-- the line that is sought stands from the least to the most
abbrev pub invariant-loop-least : goal.invariant-loop-least
invariant-loop-least l = record {
  order : l.least ≤ l.most;
  some : 0 < l.least;
  most : l.most ≤ line_count l.typed;
  above : length l.typed < MOST_BYTES → is_in_units l.typed ≡ false → 0 < l.line → staying_count l.typed (l.least - 1) < l.line;
  here : length l.typed < MOST_BYTES → is_in_units l.typed ≡ false
      → (l.line ≤ staying_count l.typed l.most) ⊎ (l.most ≡ line_count l.typed);
}

abbrev pub decreases-loop-least : goal.decreases-loop-least
decreases-loop-least l = l.most - l.least
