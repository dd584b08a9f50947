use Rattle.fc_text.specs.Line.{tokens_of}
use Rattle.fc_text.specs.Spot.{HasSpelled}
use Rattle.fc_text.proofs.PassLemmas.{Passed}
use Rattle.fc_text.proofs.spots.first_spelled.Given as goal

-- none of the tokens so far spells the card, and the others are left
abbrev pub invariant-loop-token : goal.invariant-loop-token
invariant-loop-token l =
    Passed (λ before. HasSpelled l.card before → ⊥) (tokens_of l.piece) (tokens_of l.token-iterator.rest.now) l.place
