use Rattle.std.proofs.Common.{◌≡◌}
use Rattle.fc_text.specs.Line.{tokens_of}
use Rattle.fc_typed.specs.Title.{any_token, has_word}
use Rattle.fc_typed.proofs.titles.has_worded_token.Given as goal

-- the tokens that are left decide
abbrev pub invariant-loop-token : goal.invariant-loop-token
invariant-loop-token l = any_token has_word (tokens_of l.token-iterator.rest.now) ≡ any_token has_word (tokens_of l.piece)
