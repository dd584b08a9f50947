-- Tallies: how often each card was counted, and what is wrong where one wasn't counted once.
use Rattle.std.specs.Prelude.{◌≡◌, ℕ, ◌+◌, ◌<◌, ◌≤◌, min, List, slice_index, All}
use Rattle.fc_position.specs.declared.faults.PartsFault.{PartsFault}
use Rattle.fc_position.specs.declared.faults.PartsFault.TheVariants.{Repeated, Missing}

-- each is the number of a card
abbrev pub AllCards : List ℕ → Type 0
AllCards cards = All (λ c. c < 52) cards

-- the new tally has each card so often more, two standing for every greater count
abbrev pub Adds : (ℕ → ℕ) → List ℕ → List ℕ → Type 0
Adds times old new = (c : ℕ) → c < 52 → slice_index new c ≡ min (slice_index old c + times c) 2

-- the fault of cards that stand so often: the least one that stands twice or more; where none does, the least one that
-- is missing
abbrev pub IsFaultOf : (ℕ → ℕ) → PartsFault → Type 0
IsFaultOf times (Repeated c) = (c < 52) × (1 < times c) × ((d : ℕ) → d < c → times d ≤ 1)
IsFaultOf times (Missing c) =
    (c < 52) × (times c ≡ 0) × ((d : ℕ) → d < c → times d ≡ 1) × ((d : ℕ) → d < 52 → times d ≤ 1)

-- each of the 52 cards stands once
abbrev pub EachOnce : (ℕ → ℕ) → Type 0
EachOnce times = (c : ℕ) → c < 52 → times c ≡ 1
