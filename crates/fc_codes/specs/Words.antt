-- Lists of 52 numbers below 8 in three words: 21, 21 and 10 numbers, three bits each, the first one lowest.
use Rattle.std.specs.Prelude.{ℕ, zero, suc, ◌+◌, ◌*◌, ◌/◌, ◌%◌, ◌^◌, map, List, [], ◌∷◌, slice_index}
use Rattle.fc_cards.specs.Card.{all_cards}

-- three bits of a word
abbrev pub digit : ℕ → ℕ → ℕ
digit word i = word / 2 ^ (3 * i) % 8

-- the word with so many numbers, by their places
unfoldable pub word_with : (ℕ → ℕ) → ℕ → ℕ
word_with f zero = 0
word_with f (suc n) = f 0 + 8 * word_with (λ i. f (suc i)) n

-- the number for a card
abbrev pub read_state : List ℕ → ℕ → ℕ
read_state words c = digit (slice_index words (c / 21)) (c % 21)

-- the numbers in three words
unfoldable pub numbers_of : List ℕ → List ℕ
numbers_of words = map (read_state words) all_cards

-- the word of so many numbers of a list from a place on
abbrev pub word_of : List ℕ → ℕ → ℕ → ℕ
word_of states from count = word_with (λ i. slice_index states (from + i)) count

-- the three words of such a list
abbrev pub words_of : List ℕ → List ℕ
words_of states = word_of states 0 21 ∷ word_of states 21 21 ∷ word_of states 42 10 ∷ []

-- the three words of five halves, each lower one first; the last word has no upper half
abbrev pub words_of_halves : List ℕ → List ℕ
words_of_halves halves =
    (slice_index halves 0 + slice_index halves 1 * 2 ^ 32) ∷ (slice_index halves 2 + slice_index halves 3 * 2 ^ 32)
    ∷ slice_index halves 4 ∷ []

-- the five halves of three words
abbrev pub halves_of_words : List ℕ → List ℕ
halves_of_words words =
    slice_index words 0 % 2 ^ 32 ∷ slice_index words 0 / 2 ^ 32 ∷ slice_index words 1 % 2 ^ 32 ∷ slice_index words 1 / 2 ^ 32
    ∷ slice_index words 2 % 2 ^ 32 ∷ []
