-- What lay beneath the cards at the start and what lay on them, as tables.
use Rattle.std.specs.Prelude.{◌≡◌, ℕ, ◌<◌, ◌==◌, nat_lt, if◌then◌else◌, length, List, ◌∷◌, Option, Some, None, slice_index}
use Rattle.std.specs.Int.{bit_at}
use Rattle.fc_position.specs.Board.{Board, column}
use Rattle.fc_position.specs.Position.{IsPosition}
use Rattle.fc_codes.specs.Spelled.{beneath}

-- the card that a table tells of a card: none where the number is of no card
abbrev pub card_at : List ℕ → ℕ → Option ℕ
card_at table x = if nat_lt (slice_index table x) 52 then Some (slice_index table x) else None

-- the table tells of each card that lay deepest the number of its column
pub record AreHeadsOf (s : Board) (heads : List ℕ) : Type 0 where
  pub count : length heads ≡ 52
  pub there : (c : ℕ) → c < 52 → slice_index heads c < 8
  pub begun : (j c : ℕ) (rest : List ℕ) → j < 8 → column s j ≡ c ∷ rest → slice_index heads c ≡ j

-- the tables tell of each card what it lay on at the start, and of those that lay deepest their columns, and the bits are theirs
pub record IsTableOf (s : Board) (table heads : List ℕ) (bits : ℕ) : Type 0 where
  pub whole : IsPosition s
  pub count : length table ≡ 52
  pub each : (c : ℕ) → c < 52 → slice_index table c ≡ beneath s c
  pub over : AreHeadsOf s heads
  pub deepest : (c : ℕ) → c < 52 → bit_at bits c ≡ (if beneath s c == 52 then 1 else 0)
