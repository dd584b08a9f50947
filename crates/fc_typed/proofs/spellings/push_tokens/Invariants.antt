use Rattle.std.proofs.Common.{◌≡◌, ◌+◌, ◌*◌, ◌≤◌, ◌++◌, [], length}
use Rattle.fc_typed.specs.Respelled.{each_token}
use Rattle.fc_typed.specs.inner.Respelled.{respelled_token}
use Rattle.fc_typed.proofs.spellings.push_tokens.Given as goal

-- the tokens so far are respelled, and the rest is left
abbrev pub invariant-loop-len : goal.invariant-loop-len
invariant-loop-len l = record {
  tidy : l.tidy.items ++ each_token (respelled_token l.telling) [] l.rest ≡ l.fn.tidy.items ++ each_token (respelled_token l.telling) [] l.piece;
  within : 2 * length l.tidy.items + 3 * length l.rest ≤ 2 * length l.fn.tidy.items + 3 * length l.piece;
}

abbrev pub decreases-loop-len : goal.decreases-loop-len
decreases-loop-len l = length l.rest
