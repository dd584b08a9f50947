use Rattle.std.proofs.Common.{◌↔◌}
use Rattle.fc_replay.specs.Token.{move_tokens}
use Rattle.fc_lists.specs.Alone.{AllTokens, IsPairText}
use Rattle.fc_lists.proofs.letter_lines.are_pairs.Given as goal

-- the tokens that are left decide
abbrev pub invariant-loop-token : goal.invariant-loop-token
invariant-loop-token l = AllTokens IsPairText (move_tokens l.token-iterator.rest.now) ↔ AllTokens IsPairText (move_tokens l.text)
