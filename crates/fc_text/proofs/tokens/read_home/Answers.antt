use Rattle.fc_text.proofs.TokenLemmas.{no_count_no_home}
use Rattle.fc_text.proofs.tokens.read_home.Goals as goal

pub returns-in_err-read_count-clause-refused : goal.returns-in_err-read_count-clause-refused
returns-in_err-read_count-clause-refused c =
    rw c.from_residual-in_err-read_count.ensures (no_count_no_home c.args.token.now c.in_err-read_count.ensures.refused)
