use Rattle.std.proofs.Common.{◌≡◌, ◌++◌, Bor, ℕ, List, map}
use Rattle.fc_replay.specs.Token.{move_tokens}
use Rattle.fc_lists.proofs.told_entries.said_entry.Given as goal

-- the words so far stand before those that are left
abbrev pub invariant-loop-word : goal.invariant-loop-word
invariant-loop-word l = map (λ (w : Bor (List ℕ)). w.now) l.words.items ++ move_tokens l.word-iterator.rest.now ≡ move_tokens l.line
