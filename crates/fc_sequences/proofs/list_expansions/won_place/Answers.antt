use Rattle.std.proofs.Common.{arith}
use Rattle.fc_sequences.proofs.EndLemmas.{first_board, none_won}
use Rattle.fc_sequences.proofs.list_expansions.won_place.Goals as goal

pub returns : goal.returns
returns c =
    let first = first_board c.args.boards.now c.requires.some in record {
      there = (first.0, first.1, none_won c.args.boards.now first.0 (λ i d within found. c.loop-place.invariant i d (omega arith) found));
    }
