use Rattle.std.proofs.Common.{None, map, replicate, rules}
use Rattle.std.specs.Prelude.{IsSome}
use Rattle.std.specs.Result.{result_ok}
use Rattle.fc_position.specs.Board.{board_of}
use Rattle.fc_deal.proofs.DealLemmas.{dealt_board_is, board_given, board_same}
use Rattle.fc_deal.proofs.deals.deal.Goals as goal

pub returns-clause-range : goal.returns-clause-range
returns-clause-range c =
    let board = board_of c.deal_columns.result (replicate 4 None) (replicate 4 0) in
    let some : IsSome (result_ok c.from_parts.result) =
    board_given c.args.n board c.from_parts.result (dealt_board_is c.args.n (map (λ v. v.items) c.deal_columns.result) c.deal_columns.ensures.dealt) c.from_parts.ensures.fault in
    (λ _. search rules, λ _. rw c.ok.ensures.value some)

pub returns-clause-value : goal.returns-clause-value
returns-clause-value c =
    let board = board_of c.deal_columns.result (replicate 4 None) (replicate 4 0) in
    rw c.ok.ensures.value
    (board_same c.args.n board c.from_parts.result (dealt_board_is c.args.n (map (λ v. v.items) c.deal_columns.result) c.deal_columns.ensures.dealt) c.from_parts.ensures.position)
