use Rattle.fc_cards.proofs.TextLemmas.{no_rank_no_card}
use Rattle.fc_cards.proofs.cards.Card.read.Goals as goal

pub returns-in_err-read_rank-clause-refused : goal.returns-in_err-read_rank-clause-refused
returns-in_err-read_rank-clause-refused c =
    rw c.from_residual-in_err-read_rank.ensures
    (no_rank_no_card c.args.text.now c.in_ok-suit.rank.now c.in_ok-suit.suit.now c.in_ok-suit.ensures.cases.0 c.in_err-read_rank.ensures.refused)
