use Rattle.std.proofs.Common.{◌≡◌, map, ap, ◌∙◌, ◌++◌, rules}
use Rattle.std.specs.List.{flat_map}
use Rattle.fc_position.specs.Board.{column}
use Rattle.fc_canonical.specs.Key.{column_bytes}
use Rattle.fc_canonical.proofs.WrittenLemmas.{key_spells}
use Rattle.fc_canonical.proofs.keys.key.Goals as goal

pub returns-clause-value : goal.returns-clause-value
returns-clause-value c =
    let position = c.args.position.now in
    let cells = c.cell_bytes.result in
    let columns = flat_map column_bytes (map (column position) c.column_numbers.result) in
    let front : c.try_extend_from_slice-2.new.self.items ≡ position.homes ++ cells = search rules in
    key_spells position c.column_numbers.result cells c.write_columns.new.key.items c.counts.ensures.whole.columns
    c.column_numbers.ensures.rearranged c.column_numbers.ensures.ordered c.cell_bytes.ensures.rearranged
    c.cell_bytes.ensures.ordered (c.write_columns.ensures.after ∙ ap (λ l. l ++ columns) front)
