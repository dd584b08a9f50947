-- What is known along a list by the boards that were asked so far, and which of them may be asked next.
use Rattle.std.specs.Prelude.{◌≡◌, ◌⊎◌, ◌<◌, ◌≤◌, ℕ, ◌+◌, ◌-◌, List, Option, Some, None, All}
use Rattle.fc_review.specs.Review.{IsAsked, IsFirstLost, IsLastWon, first_behind}
use Rattle.fc_review.specs.declared.known_boards.KnownBoard.{KnownBoard}
use Rattle.fc_review.specs.declared.spans.Open.{Open}
use Rattle.fc_review.specs.declared.spans.Span.{Span}

-- the open boards begin and end with asked ones, from this board on
pub record AreOpen (asked : List KnownBoard) (low : ℕ) (open_boards : Open) : Type 0 where
  pub least : low ≤ open_boards.first
  pub order : open_boards.first ≤ open_boards.last
  pub first : IsAsked asked open_boards.first
  pub last : IsAsked asked open_boards.last

-- what lies behind the last won board: nothing; or boards up to the first lost one; or open ones up to the last board of all, or up
-- to the first lost one
abbrev pub IsGap : List KnownBoard → ℕ → ℕ → Option Open → Option ℕ → Type 0
IsGap asked count low None None = (low ≡ count + 1) × IsAsked asked count
IsGap asked count low None (Some lost) = low ≤ lost
IsGap asked count low (Some o) None = AreOpen asked low o × (o.last ≡ count)
IsGap asked count low (Some o) (Some lost) = AreOpen asked low o × (o.last < lost)

-- along a list of so many moves the boards that were asked say so much: the last won one, the first lost one, and the open ones between
pub record IsSpan (asked : List KnownBoard) (count : ℕ) (won : Option KnownBoard) (open_boards : Option Open) (lost : Option ℕ) : Type 0 where
  pub within : All (λ known. known.after ≤ count) asked
  pub last_won : IsLastWon asked won
  pub first_lost : IsFirstLost asked lost
  pub gap : IsGap asked count (first_behind won) open_boards lost

-- a board lies between boards that are known to be won, open or lost
abbrev pub LiesBetween : ℕ → Option Open → Option ℕ → ℕ → Type 0
LiesBetween low None None n = ⊥
LiesBetween low None (Some lost) n = (low ≤ n) × (n < lost)
LiesBetween low (Some o) None n = (low ≤ n) × (n < o.first)
LiesBetween low (Some o) (Some lost) n = ((low ≤ n) × (n < o.first)) ⊎ ((o.last < n) × (n < lost))

-- none does
abbrev pub IsClosed : ℕ → Option Open → Option ℕ → Type 0
IsClosed low None None = Unit {0}
IsClosed low None (Some lost) = lost ≤ low
IsClosed low (Some o) None = o.first ≤ low
IsClosed low (Some o) (Some lost) = (o.first ≤ low) × (lost ≤ o.last + 1)

-- how many do
abbrev pub left_of : ℕ → Option Open → Option ℕ → ℕ
left_of low None None = 0
left_of low None (Some lost) = lost - low
left_of low (Some o) None = o.first - low
left_of low (Some o) (Some lost) = (o.first - low) + (lost - (o.last + 1))

-- the same of what is known so far
abbrev pub IsKnownBy : List KnownBoard → ℕ → Span → Type 0
IsKnownBy asked count s = IsSpan asked count s.won s.between s.lost

abbrev pub LiesIn : Span → ℕ → Type 0
LiesIn s n = LiesBetween (first_behind s.won) s.between s.lost n

abbrev pub left_in : Span → ℕ
left_in s = left_of (first_behind s.won) s.between s.lost

-- of open boards those are kept that are behind a won one
abbrev pub AreKeptBehind : Option Open → ℕ → Option Open → Type 0
AreKeptBehind None won result = result ≡ None
AreKeptBehind (Some o) won result = ((won < o.first) × (result ≡ Some o)) ⊎ ((o.first ≤ won) × (result ≡ None))

-- or before a lost one
abbrev pub AreKeptBefore : Option Open → ℕ → Option Open → Type 0
AreKeptBefore None lost result = result ≡ None
AreKeptBefore (Some o) lost result = ((o.last < lost) × (result ≡ Some o)) ⊎ ((lost ≤ o.last) × (result ≡ None))

-- open boards with another one before them or behind them
abbrev pub AreJoined : Option Open → ℕ → Open → Type 0
AreJoined None after result = (result.first ≡ after) × (result.last ≡ after)
AreJoined (Some o) after result = ((after < o.first) × (result.first ≡ after) × (result.last ≡ o.last)) ⊎ ((o.first ≤ after) × (result.first ≡ o.first) × (result.last ≡ after))
