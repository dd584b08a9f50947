use Rattle.std.proofs.Common.{◌++◌, length, take, ◌∙◌, sym, ap, arith}
use Rattle.fc_cards.specs.Texts.{with_line_end}
use Rattle.fc_text.specs.Printed.{column_text}
use Rattle.fc_text.proofs.PrintLemmas.{lines_text, lines_text-more, room_for_column}
use Rattle.fc_text.proofs.PrintedLines.{spells_printed}
use Rattle.fc_text.proofs.printers.print_board.Goals as goal

pub push_column-requires : goal.push_column-requires
push_column-requires c =
    let whole = c.column.ensures.whole in
    let room = room_for_column c.args.cells c.args.position.now c.loop-i.i whole c.requires.game (omega (arith, whole.columns)) in
    omega (arith, ap length c.loop-i.invariant.written, ap length c.column.ensures.value)

pub loop-i-preserved : goal.loop-i-preserved
loop-i-preserved c =
    let whole = c.column.ensures.whole in
    let b = c.args.position.now in
    record {
      written =
          c.push_column.ensures.text
          ∙ ap (λ t. t ++ with_line_end (column_text c.column.result.now)) c.loop-i.invariant.written
          ∙ ap (λ cards. lines_text c.args.cells b (take c.loop-i.i b.columns) ++ with_line_end (column_text cards)) c.column.ensures.value
          ∙ sym (lines_text-more c.args.cells b b.columns c.loop-i.i (omega (arith, whole.columns)));
      whole = λ _. whole;
    }

pub returns-clause-spelled : goal.returns-clause-spelled
returns-clause-spelled c =
    let whole = c.loop-i.invariant.whole (omega arith) in
    spells_printed c.args.cells c.args.position.now c.loop-i.text.bytes c.loop-i.i whole c.requires.fits c.requires.game (omega arith) c.loop-i.invariant.written
