-- Words of numbers of three bits, within the crate.
use Rattle.std.specs.Prelude.{◌≡◌, ℕ, ◌+◌, ◌-◌, ◌*◌, ◌^◌, ◌<◌, length, List, slice_index}
use Rattle.fc_codes.specs.Words.{digit, words_of_halves}

-- three words of which no bits are set but those of the cards
pub record AreWords (words : List ℕ) : Type 0 where
  pub three : length words ≡ 3
  pub first : slice_index words 0 < 2 ^ 63
  pub second : slice_index words 1 < 2 ^ 63
  pub third : slice_index words 2 < 2 ^ 30

-- five halves of such words
pub record AreHalves (halves : List ℕ) : Type 0 where
  pub five : length halves ≡ 5
  pub first : slice_index halves 0 < 2 ^ 32
  pub third : slice_index halves 2 < 2 ^ 32
  pub words : AreWords (words_of_halves halves)

-- the word with another number at a place
abbrev pub with_number : ℕ → ℕ → ℕ → ℕ
with_number word i number = word - digit word i * 2 ^ (3 * i) + number * 2 ^ (3 * i)
