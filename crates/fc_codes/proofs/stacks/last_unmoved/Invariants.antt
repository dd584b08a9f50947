use Rattle.std.proofs.Common.{◌≡◌, ℕ, ◌<◌, length, get_or}
use Rattle.std.specs.Int.{bit_at}
use Rattle.fc_codes.proofs.stacks.last_unmoved.Given as goal

-- the cards past this place have moved
abbrev pub invariant-loop-last : goal.invariant-loop-last
invariant-loop-last l =
    (l.last < length l.cards) × ((i : ℕ) → l.last < i → i < length l.cards → bit_at l.moved (get_or l.cards i 0) ≡ 1)

abbrev pub decreases-loop-last : goal.decreases-loop-last
decreases-loop-last l = l.last
