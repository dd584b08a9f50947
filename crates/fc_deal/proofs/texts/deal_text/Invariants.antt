use Rattle.std.proofs.Common.{◌≡◌, ◌<◌, take}
use Rattle.std.specs.List.{flat_map}
use Rattle.fc_position.specs.Position.{IsPosition}
use Rattle.fc_deal.specs.DealText.{line_text}
use Rattle.fc_deal.proofs.texts.deal_text.Given as goal

-- the lines of the columns so far are written
abbrev pub invariant-loop-i : goal.invariant-loop-i
invariant-loop-i l = record {
  written : l.text.bytes ≡ flat_map line_text (take l.i l.position.columns);
  whole : 0 < l.i → IsPosition l.position;
}
