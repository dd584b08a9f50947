use Rattle.fc_text.specs.Line.{tokens_of}
use Rattle.fc_text.specs.Spot.{NoneIsBad}
use Rattle.fc_text.specs.inner.Spot.{AreNoted}
use Rattle.fc_text.proofs.PassLemmas.{Passed}
use Rattle.fc_text.proofs.spots.first_bad.Given as goal

-- none of the tokens so far is bad, their suits are noted, and the other tokens are left
abbrev pub invariant-loop-token : goal.invariant-loop-token
invariant-loop-token l =
    Passed (λ before. NoneIsBad l.cells l.fault l.kind before × AreNoted l.fault l.kind before l.named) (tokens_of l.piece)
    (tokens_of l.token-iterator.rest.now) l.place
