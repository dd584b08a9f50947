-- What the cards lie on by a code, within the crate.
use Rattle.std.specs.Prelude.{◌≡◌, ℕ, ◌<◌, ◌==◌, ◌&&◌, nat_lt, if◌then◌else◌, length, map, filter, count_by, List, [], ◌∷◌, Some, None, slice_index}
use Rattle.std.specs.List.{range_with_len}
use Rattle.std.specs.Int.{bit_at}
use Rattle.fc_cards.specs.Card.{suit, all_cards}
use Rattle.fc_position.specs.Board.{Board}
use Rattle.fc_codes.specs.Spelled.{beneath, with_padding, seat, lying_on}
use Rattle.fc_codes.specs.State.{AreMoved}
use Rattle.fc_codes.specs.inner.Beneath.{card_at}
use Rattle.fc_codes.specs.inner.Bits.{cards_of}
use Rattle.fc_codes.specs.declared.seats.Seats.{Seats}

-- what a card lies on where only the cards before k lie by a code, and the others as at the start
abbrev pub seat_until : Board → List ℕ → ℕ → ℕ → ℕ
seat_until s code k c = if nat_lt c k then seat s code c else beneath s c

-- how many of these cards of a suit are home
abbrev pub home_among : List ℕ → List ℕ → ℕ → ℕ
home_among code cards u = count_by (λ c. (suit c == u) && (slice_index code c == 1)) cards

-- the bits are of the cards before k that have moved
abbrev pub AreMovedUntil : List ℕ → ℕ → ℕ → Type 0
AreMovedUntil code k bits =
    (c : ℕ) → c < 52 → bit_at bits c ≡ (if (nat_lt c k) && (nat_lt 0 (slice_index code c)) then 1 else 0)

-- no card that hasn't moved lies on x
abbrev pub IsBare : Board → List ℕ → ℕ → Type 0
IsBare s code x = (c : ℕ) → c < 52 → slice_index code c ≡ 0 → beneath s c ≡ x → ⊥

-- these tell what the cards lie on where those before k have moved
pub record AreSeatsUntil (s : Board) (code : List ℕ) (k : ℕ) (seats : Seats) : Type 0 where
  pub count : length seats.above ≡ 52
  pub there : (x : ℕ) → x < 52 → slice_index seats.above x < 52 → seat s code (slice_index seats.above x) ≡ x
  pub lies : (c : ℕ) → c < 52 → c < k → 0 < slice_index code c → seat s code c < 52 → slice_index seats.above (seat s code c) ≡ c
  pub deepest : (c : ℕ) → c < 52 → bit_at seats.deepest c ≡ (if seat_until s code k c == 52 then 1 else 0)
  pub moved : AreMovedUntil code k seats.moved
  pub cells : seats.cells ≡ with_padding 4 None (map (λ c. Some c) (filter (λ c. slice_index code c == 2) (range_with_len 0 k)))
  pub four : length seats.cells ≡ 4
  pub held : seats.held ≡ length (filter (λ c. slice_index code c == 2) (range_with_len 0 k))
  pub homes : seats.homes ≡ map (home_among code (range_with_len 0 k)) (0 ∷ 1 ∷ 2 ∷ 3 ∷ [])

-- the table tells what lies on a card, where none that hasn't moved does
pub record AreOver (s : Board) (code table : List ℕ) : Type 0 where
  pub count : length table ≡ 52
  pub above : (x : ℕ) → x < 52 → IsBare s code x → card_at table x ≡ lying_on s code x
  pub there : (x : ℕ) → x < 52 → slice_index table x < 52 → seat s code (slice_index table x) ≡ x

-- so does the table, and the bits are of the deepest cards and of those that have moved
pub record AreStacksOf (s : Board) (code table : List ℕ) (tops marks : ℕ) : Type 0 where
  pub over : AreOver s code table
  pub deepest : cards_of tops ≡ filter (λ c. seat s code c == 52) all_cards
  pub on_table : (c : ℕ) → c < 52 → bit_at tops c ≡ 1 → seat s code c ≡ 52
  pub moved : AreMoved code marks

-- these tell where the cards are by the code
pub record AreSeatsOf (s : Board) (code : List ℕ) (seats : Seats) : Type 0 where
  pub stacks : AreStacksOf s code seats.above seats.deepest seats.moved
  pub cells : seats.cells ≡ with_padding 4 None (map (λ c. Some c) (filter (λ c. slice_index code c == 2) all_cards))
  pub homes : seats.homes ≡ map (home_among code all_cards) (0 ∷ 1 ∷ 2 ∷ 3 ∷ [])
