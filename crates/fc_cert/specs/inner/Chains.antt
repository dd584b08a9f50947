-- How records are chained, so that a key is looked for among few of them.
use Rattle.std.specs.Prelude.{◌≡◌, ◌≢◌, ℕ, ◌+◌, ◌*◌, ◌/◌, ◌<◌, ◌≤◌, ◌^◌, List, length, take, slice_index, slice_index_or, []}
use Rattle.std.specs.Hash.FoldHasher as folding
use Rattle.fc_cert.specs.declared.chains.TheConstants.{WINDOW}

-- the hash of bytes
abbrev pub hash_of : List ℕ → ℕ
hash_of bytes = folding.finish (folding.write folding.initial bytes)

-- the place of a key where so many are chained: it lies in a window that its counts and cells tell
unfoldable pub place_of : ℕ → List ℕ → ℕ
place_of count key = hash_of (take 8 key) / 2 ^ 32 * count / 2 ^ 32 + hash_of key / 2 ^ 54

-- the places of the rows' keys, by the rows' numbers
abbrev pub places_of : List (List ℕ × ℕ) → ℕ → ℕ
places_of rows i = place_of (length rows) (slice_index_or rows i ([], 0)).0

-- the link tells the last number before k with this place, as one more than it; 0 tells that there is none
pub record IsLast (places : ℕ → ℕ) (place k link : ℕ) : Type 0 where
  pub before : link ≤ k
  pub there : (i : ℕ) → link ≡ i + 1 → places i ≡ place
  pub none_after : (i : ℕ) → link ≤ i → i < k → places i ≢ place

-- the first k rows are chained: each has a link to the last one before it with its place, and each place one to the last of them
pub record AreChained (rows : List (List ℕ × ℕ)) (k : ℕ) (links : List ℕ) : Type 0 where
  pub count : length links ≡ 2 * length rows + WINDOW
  pub rows_linked : (i : ℕ) → i < k → IsLast (places_of rows) (places_of rows i) i (slice_index links i)
  pub places_linked : (place : ℕ) → place < length rows + WINDOW → IsLast (places_of rows) place k (slice_index links (length rows + place))

-- all rows are chained, if there are any
abbrev pub IsChained : List (List ℕ × ℕ) → List ℕ → Type 0
IsChained rows links = 0 < length rows → AreChained rows (length rows) links
