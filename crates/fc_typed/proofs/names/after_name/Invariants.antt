use Rattle.std.proofs.Common.{◌≡◌, map, drop}
use Rattle.fc_text.specs.Line.{after_name}
use Rattle.fc_typed.proofs.names.after_name.Given as goal

-- no name so far fits, so the others decide
abbrev pub invariant-loop-name : goal.invariant-loop-name
invariant-loop-name l =
    after_name (drop l.name-index (map (λ name. name.now) l.names)) l.piece ≡ after_name (map (λ name. name.now) l.names) l.piece
