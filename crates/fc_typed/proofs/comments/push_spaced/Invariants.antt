use Rattle.std.proofs.Common.{◌≡◌, ◌++◌, map, take}
use Rattle.fc_typed.specs.Comment.{comma_blank}
use Rattle.fc_typed.proofs.comments.push_spaced.Given as goal

-- the bytes so far are pushed
abbrev pub invariant-loop-byte : goal.invariant-loop-byte
invariant-loop-byte l = l.tidy.items ≡ l.fn.tidy.items ++ map comma_blank (take l.byte-index l.piece)
