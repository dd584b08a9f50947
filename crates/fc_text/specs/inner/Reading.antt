-- What the reader of one line has read of its tokens.
use Rattle.std.specs.Prelude.{◌≡◌, ℕ, ◌<◌, ◌≤◌, List, length, min, take, Option, Some, None, slice_get, All, slice_index, slice_index_or}
use Rattle.std.specs.List.{AllZip}
use Rattle.fc_position.specs.Board.{count_in_column}
use Rattle.fc_position.specs.Tally.{Adds}
use Rattle.fc_text.specs.Spelling.{SpellsCard, SpellsCell, SpellsHomeIn}

-- a tally counts up to two
abbrev pub IsTally : List ℕ → Type 0
IsTally tally = (c : ℕ) → c < 52 → slice_index tally c ≤ 2

-- the tokens spell cards, of which the first 52 are kept and all are counted
pub record ReadsColumn (tokens : List (List ℕ)) (kept old new : List ℕ) : Type 0 where
  pub cards : List ℕ
  pub spelled : AllZip SpellsCard tokens cards
  pub front : kept ≡ take 52 cards
  pub counted : Adds (λ c. count_in_column c cards) old new

-- the tokens spell what cells hold, of which the first four are kept; the others are empty
pub record ReadsCells (tokens : List (List ℕ)) (kept : List (Option ℕ)) (count : ℕ) : Type 0 where
  pub counted : count ≡ min (length tokens) 5
  pub four : length kept ≡ 4
  pub read : (i : ℕ) (token : List ℕ) → slice_get tokens i ≡ Some token
      → (held : Option ℕ) × SpellsCell token held × (i < 4 → slice_index_or kept i None ≡ held)
  pub empty : (i : ℕ) → length tokens ≤ i → slice_index_or kept i None ≡ None

-- the tokens spell how many cards of each suit are home
pub record ReadsHomes (tokens : List (List ℕ)) (kept : List ℕ) : Type 0 where
  pub four : length kept ≡ 4
  pub most : All (λ n. n ≤ 13) kept
  pub read : (s : ℕ) → s < 4 → SpellsHomeIn tokens s (slice_index kept s)
