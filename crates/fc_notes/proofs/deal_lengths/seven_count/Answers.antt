use Rattle.std.proofs.Common.{ap, ◌∙◌, arith}
use Rattle.std.specs.Prelude.{count_by}
use Rattle.std.proofs.lemmas.List.{take_all}
use Rattle.fc_notes.specs.Length.{has_seven}
use Rattle.fc_notes.proofs.deal_lengths.seven_count.Goals as goal

pub returns : goal.returns
returns c =
    let eight = c.loop-column.invariant.eight (omega arith) in
    record {
      value = c.loop-column.invariant.counted
          ∙ ap (count_by has_seven) (take_all c.loop-column.column c.args.start.now.columns (omega (arith, eight)));
    }
