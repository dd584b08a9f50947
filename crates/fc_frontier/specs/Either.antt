-- A queue of one kind or the other: what stands in it, and which pair is taken.
use Rattle.std.specs.Prelude.{◌≡◌, ℕ, List, ◌∷◌}
use Rattle.fc_frontier.specs.Place.{PopsFirst, pairs_at, place_of}
use Rattle.fc_frontier.specs.Queue.{with_pair}
use Rattle.fc_frontier.specs.Tie.{Enters, Pops, TiedQueue, pairs_of}
use Rattle.fc_frontier.specs.declared.either.EitherFrontier.{EitherFrontier}
use Rattle.fc_frontier.specs.declared.either.EitherFrontier.TheVariants.{Buckets, Ties, SmallTies}

-- the pairs of the queue that it is
abbrev pub pairs_of_either : EitherFrontier → List (ℕ × ℕ)
pairs_of_either (Buckets pairs) = pairs
pairs_of_either (Ties queue) = pairs_of queue.entries
pairs_of_either (SmallTies placed) = pairs_at 256 placed

-- the queue is of the same kind, and the pair of f and node stands in it where that kind has it: before those of its f, or with
-- its tie
abbrev pub GoesIn : ℕ → ℕ → ℕ → EitherFrontier → EitherFrontier → Type 0
GoesIn f tie node (Buckets old) new = new ≡ Buckets (with_pair (f, node) old)
GoesIn f tie node (Ties old) new = (queue : TiedQueue) × (new ≡ Ties queue)
    × Enters (record { f = f; tie = tie; stamp = old.pushes; node = node }) old queue
GoesIn f tie node (SmallTies old) new = new ≡ SmallTies (with_pair (place_of f tie, node) old)

-- the queue is of the same kind, and the pair that is gone from it is the one that this kind has next
abbrev pub GoesOut : ℕ × ℕ → EitherFrontier → EitherFrontier → Type 0
GoesOut pair (Buckets old) new = (rest : List (ℕ × ℕ)) × (new ≡ Buckets rest) × (old ≡ pair ∷ rest)
GoesOut pair (Ties old) new = (queue : TiedQueue) × (new ≡ Ties queue) × Pops pair old queue
GoesOut pair (SmallTies old) new = (rest : List (ℕ × ℕ)) × (new ≡ SmallTies rest) × PopsFirst pair old rest
