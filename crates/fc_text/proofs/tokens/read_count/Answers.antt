use Rattle.fc_text.proofs.TokenLemmas.{none_then, not_zero, no_rank_no_count}
use Rattle.fc_text.proofs.tokens.read_count.Goals as goal

pub returns-clause-refused : goal.returns-clause-refused
returns-clause-refused c =
    let other = not_zero c.args.text.now c.as_slice.result.now c.eq.result c.as_slice.ensures c.eq.ensures c.if-eq.false in
    none_then c.read_rank.result c.read_rank.ensures.refused (no_rank_no_count c.args.text.now other)
