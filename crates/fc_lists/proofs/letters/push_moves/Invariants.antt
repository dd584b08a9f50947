use Rattle.std.proofs.Common.{◌≡◌, ◌++◌, take}
use Rattle.std.specs.List.{flat_map}
use Rattle.fc_lists.proofs.ListTextLemmas.{next_text}
use Rattle.fc_lists.proofs.letters.push_moves.Given as goal

-- the moves so far are written
abbrev pub invariant-loop-m : goal.invariant-loop-m
invariant-loop-m l = l.text.items ≡ l.initial.text.items ++ flat_map next_text (take l.m-index l.rest)
