use Rattle.std.proofs.Common.{◌≡◌, map, drop}
use Rattle.std.specs.List.{list_any}
use Rattle.std.specs.Str.{bytes_eq}
use Rattle.fc_notes.proofs.reasons.is_one_of.Given as goal

-- no word so far is it, so the others decide
abbrev pub invariant-loop-word : goal.invariant-loop-word
invariant-loop-word l = list_any (λ word. bytes_eq word l.token) (drop l.word-index (map (λ word. word.now) l.words))
    ≡ list_any (λ word. bytes_eq word l.token) (map (λ word. word.now) l.words)
