use Rattle.std.proofs.Common.{◌≡◌}
use Rattle.fc_text.specs.Line.{tokens_of}
use Rattle.fc_typed.specs.Title.{any_token, is_board_token}
use Rattle.fc_typed.proofs.titles.has_board_token.Given as goal

-- the tokens that are left decide
abbrev pub invariant-loop-token : goal.invariant-loop-token
invariant-loop-token l = any_token is_board_token (tokens_of l.token-iterator.rest.now) ≡ any_token is_board_token (tokens_of l.piece)
