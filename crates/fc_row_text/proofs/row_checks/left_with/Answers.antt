use Rattle.std.proofs.Common.{None, get_or, rules}
use Rattle.std.specs.Option.{option_or}
use Rattle.std.proofs.lemmas.List.FromFn.{fill_by_all}
use Rattle.fc_row_text.specs.RowText.{left_by}
use Rattle.fc_row_text.proofs.row_checks.left_with.Goals as goal

pub returns : goal.returns
returns c =
    fill_by_all (λ k. option_or (get_or c.args.left.now k None) (left_by c.args.number (get_or c.args.entries.now k None))) c.loop-column.below 8 None
    c.loop-column.invariant.0 (search rules)
