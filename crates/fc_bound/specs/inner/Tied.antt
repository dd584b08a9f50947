-- Cards that wait beneath one another, as rows and bits tell it.
use Rattle.std.specs.Prelude.{◌≡◌, ℕ, ◌<◌, List, Contains, slice_index_or}
use Rattle.std.specs.Int.{bit_at}
use Rattle.fc_bound.specs.declared.ring_search.Reached.{Reached}
use Rattle.fc_bound.specs.declared.ring_search.Reached.TheVariants.{Again, Others}
use Rattle.fc_bound.specs.declared.waiting_rows.Row.{Row}
use Rattle.fc_bound.specs.Rows.{no_row}

-- each card of one set is of the other
abbrev pub IsWithin : ℕ → ℕ → Type 0
IsWithin cards others = (c : ℕ) → bit_at cards c ≡ 1 → bit_at others c ≡ 1

-- by the row of a card another one waits beneath it
abbrev pub WaitsBy : List Row → ℕ → ℕ → Type 0
WaitsBy rows c e = bit_at (slice_index_or rows e no_row).waiting c ≡ 1

-- a card of a set waits beneath one of the set, and one of the set waits beneath it
pub record IsTied (rows : List Row) (cards c : ℕ) : Type 0 where
  pub own : bit_at cards c ≡ 1
  pub host : ℕ
  pub host_own : bit_at cards host ≡ 1
  pub waits : WaitsBy rows c host
  pub guest : ℕ
  pub guest_own : bit_at cards guest ≡ 1
  pub awaited : WaitsBy rows guest c

-- each card of a set is tied in it: the set is a ring, or has no card
abbrev pub AreTiedIn : List Row → ℕ → Type 0
AreTiedIn rows cards = (c : ℕ) → bit_at cards c ≡ 1 → IsTied rows cards c

-- the same of each card of a list, among these cards
pub record AreTiedBy (rows : List Row) (ring : List ℕ) : Type 0 where
  pub waits : (c : ℕ) → Contains ring c → (e : ℕ) × Contains ring e × WaitsBy rows c e
  pub awaited : (e : ℕ) → Contains ring e → (c : ℕ) × Contains ring c × WaitsBy rows c e

-- the card that is reached again is a card
abbrev pub IsCard : Reached → Type 0
IsCard (Again last) = last < 52
IsCard (Others waiting) = Unit {0}
