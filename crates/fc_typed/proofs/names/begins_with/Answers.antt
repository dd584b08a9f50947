use Rattle.fc_text.proofs.PieceLemmas.{begins_with-is}
use Rattle.fc_typed.proofs.names.begins_with.Goals as goal

pub returns : goal.returns
returns c =
    begins_with-is c.args.piece.now c.args.name.now c.min-count.result c.eq_ignore_ascii_case.result c.min-count.ensures c.eq_ignore_ascii_case.ensures.test
