use Rattle.std.proofs.Common.{◌∙◌, subst}
use Rattle.fc_text.specs.Board.{IsBoardFault}
use Rattle.fc_row_text.specs.RowText.{text_in_columns}
use Rattle.fc_text.proofs.OnceLemmas.{spell_no_fault}
use Rattle.fc_notes.proofs.length_notes.board_in_rows.Goals as goal

pub returns-in-Err-clause-none : goal.returns-in-Err-clause-none
returns-in-Err-clause-none c = λ b spelled.
    spell_no_fault c.args.cells (text_in_columns c.args.text.now) b c.in-Err.field-0 spelled.spelled
    (subst (λ text. IsBoardFault c.args.cells text c.in-Err.field-0) (c.bytes.ensures.value ∙ c.in-Ok.ensures.value) c.in-Err.ensures.fault)
