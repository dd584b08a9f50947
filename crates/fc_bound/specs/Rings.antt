-- Rings: cards in columns that wait for each other, so that the first of them to move doesn't go home.
use Rattle.std.specs.Prelude.{◌≡◌, ◌≢◌, ℕ, ◌&&◌, ◌||◌, Bool, false, IsTrue, List, [], ◌∷◌, All, AllPairs, Contains}
use Rattle.std.specs.Int.{bit_at}
use Rattle.std.specs.List.{list_any}
use Rattle.fc_bound.specs.Bound.{is_lower, stands_in, is_above_lower}

-- in a column, the deepest card first, a lower card of the suit of c lies at the card e or beneath it
abbrev pub is_at_or_beneath : ℕ → ℕ → List ℕ → Bool
is_at_or_beneath c e [] = false
is_at_or_beneath c e (d ∷ above) = (is_lower c d && stands_in (d ∷ above) e) || is_at_or_beneath c e above

-- a card waits beneath another: in some column a lower card of its suit lies at that one or beneath it
abbrev pub waits_beneath : List (List ℕ) → ℕ → ℕ → Bool
waits_beneath columns c e = list_any (is_at_or_beneath c e) columns

-- a ring: cards, each of which waits beneath one of them, and beneath each of which one of them waits
pub record IsRing (columns : List (List ℕ)) (ring : List ℕ) : Type 0 where
  pub some_card : ring ≢ []
  pub waits : (c : ℕ) → Contains ring c → (e : ℕ) × Contains ring e × IsTrue (waits_beneath columns c e)
  pub awaited : (e : ℕ) → Contains ring e → (c : ℕ) × Contains ring c × IsTrue (waits_beneath columns c e)

-- no card stands in both
abbrev pub AreApart : List ℕ → List ℕ → Type 0
AreApart a b = (c : ℕ) → Contains a c → Contains b c → ⊥

-- each card of a ring has its bit in the set
abbrev pub IsAmong : ℕ → List ℕ → Type 0
IsAmong cards ring = (c : ℕ) → Contains ring c → bit_at cards c ≡ 1

-- no card of a ring is held back, which would be a ring by itself
abbrev pub HoldsNone : List (List ℕ) → List ℕ → Type 0
HoldsNone columns ring = (c : ℕ) → Contains ring c → list_any (is_above_lower c) columns ≡ false

-- a family: rings without a card in common, of cards of this set that aren't held back
pub record IsFamily (columns : List (List ℕ)) (cards : ℕ) (rings : List (List ℕ)) : Type 0 where
  pub are : All (IsRing columns) rings
  pub apart : AllPairs AreApart rings
  pub among : All (IsAmong cards) rings
  pub free : All (HoldsNone columns) rings
