use Rattle.std.proofs.Common.{MatchOption}
use Rattle.fc_text.specs.Line.{tokens_of}
use Rattle.fc_text.specs.Spot.{HasSpelled, IsLastSpelled}
use Rattle.fc_text.proofs.PassLemmas.{Passed}
use Rattle.fc_text.proofs.spots.last_spelled.Given as goal

-- the last of the tokens so far that spells the card is kept, and the other tokens are left
abbrev pub invariant-loop-token : goal.invariant-loop-token
invariant-loop-token l =
    Passed
    (λ before. MatchOption l.last (HasSpelled l.card before → ⊥) (λ found. IsLastSpelled l.card before found.0 found.1.now))
    (tokens_of l.piece) (tokens_of l.token-iterator.rest.now) l.place
