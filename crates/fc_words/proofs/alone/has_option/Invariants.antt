use Rattle.std.proofs.Common.{◌≡◌, map, drop, string_bytes}
use Rattle.fc_words.specs.Alone.{has_option}
use Rattle.fc_words.proofs.alone.has_option.Given as goal

-- what is left has the option exactly where all the words have it
abbrev pub invariant-loop-word : goal.invariant-loop-word
invariant-loop-word l = has_option l.name (map (λ s. string_bytes s) (drop l.word-index l.words))
    ≡ has_option l.name (map (λ s. string_bytes s) l.words)
