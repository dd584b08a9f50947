use Rattle.fc_text.specs.Line.{board_lines}
use Rattle.fc_text.proofs.BoardLemmas.{has_card_fault}
use Rattle.fc_text.proofs.FitLemmas.{spelled_fits}
use Rattle.fc_text.proofs.boards.read_board.Goals as goal

-- src/boards.rt:24:1
pub returns-in-Err-finish-clause-fault : goal.returns-in-Err-finish-clause-fault
returns-in-Err-finish-clause-fault c =
    has_card_fault c.args.cells c.args.text.now c.in-Err-finish.fault c.of_cards.result c.if-text-gt4096.false c.in-Ok.ensures.sound
    (c.in-Err-finish.ensures.fault (board_lines c.args.text.now) c.in-Ok.ensures.read) c.of_cards.ensures

pub returns-in-Ok-finish-clause-fits : goal.returns-in-Ok-finish-clause-fits
returns-in-Ok-finish-clause-fits c =
    spelled_fits c.args.cells (board_lines c.args.text.now) c.in-Ok-finish.position c.in-Ok.ensures.sound
    (c.in-Ok-finish.ensures.spelled (board_lines c.args.text.now) c.in-Ok.ensures.read)
