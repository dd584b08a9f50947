use Rattle.std.proofs.Common.{sym, ◌∙◌}
use Rattle.fc_row_text.proofs.FaultLemmas.{own_numbers, own_row}
use Rattle.fc_row_text.proofs.row_lines.own_kind.Goals as goal

pub returns-in-None : goal.returns-in-None
returns-in-None c =
    own_numbers c.args.line.now (sym c.is_column_line.ensures ∙ c.if-not-is_column_line.false)
    (sym c.cells_named.ensures ∙ c.in-None.is) (sym c.are_letters.ensures ∙ c.if-are_letters.true)

pub returns-in-None-2 : goal.returns-in-None-2
returns-in-None-2 c =
    own_row c.args.line.now (sym c.is_column_line.ensures ∙ c.if-not-is_column_line.false)
    (sym c.cells_named.ensures ∙ c.in-None.is) (sym c.are_letters.ensures ∙ c.if-are_letters.false)
