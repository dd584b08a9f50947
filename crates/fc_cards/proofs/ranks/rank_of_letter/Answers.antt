use Rattle.std.proofs.Common.{◌≡◌, arith}
use Rattle.fc_cards.specs.Texts.{rank_letter}
use Rattle.fc_cards.proofs.EachRank.{by_rank}
use Rattle.fc_cards.proofs.ranks.rank_of_letter.Goals as goal

-- no rank has a letter below those of the digits from 2 on but the ace
pub returns-in_default-clause-refused : goal.returns-in_default-clause-refused
returns-in_default-clause-refused c =
    by_rank (λ r. rank_letter r ≡ c.args.letter → ⊥)
    (λ e. omega arith) (λ e. omega arith) (λ e. omega arith) (λ e. omega arith) (λ e. omega arith)
    (λ e. omega arith) (λ e. omega arith) (λ e. omega arith) (λ e. omega arith) (λ e. omega arith)
    (λ e. omega arith) (λ e. omega arith) (λ e. omega arith)

pub returns-in_default-2-clause-refused : goal.returns-in_default-2-clause-refused
returns-in_default-2-clause-refused c =
    by_rank (λ r. rank_letter r ≡ c.args.letter → ⊥)
    (λ e. omega arith) (λ e. omega arith) (λ e. omega arith) (λ e. omega arith) (λ e. omega arith)
    (λ e. omega arith) (λ e. omega arith) (λ e. omega arith) (λ e. omega arith) (λ e. omega arith)
    (λ e. omega arith) (λ e. omega arith) (λ e. omega arith)
