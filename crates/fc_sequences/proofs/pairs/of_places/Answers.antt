use Rattle.std.proofs.Common.{ℕ, [], ◌∷◌, ◌∙◌, ap}
use Rattle.fc_moves.specs.MoveText.{place_letter}
use Rattle.fc_sequences.proofs.pairs.of_places.Goals as goal

pub returns-in-None-clause-refused : goal.returns-in-None-clause-refused
returns-in-None-clause-refused c p has from to =
    c.in-None.ensures.refused record { from = p.from; to = p.to } record { from = has.from; to = has.to }
    (ap (λ (x : ℕ). x ∷ c.args.to ∷ []) from ∙ ap (λ (x : ℕ). place_letter p.from ∷ x ∷ []) to)
