-- Queues of pairs with ties: what stands in them, and which entry is taken.
use Rattle.std.specs.Prelude.{◌≡◌, ℕ, ◌+◌, ◌-◌, ◌^◌, ◌<◌, ◌≤◌, ◌⊎◌, min, map, List, ◌∷◌, All}
use Rattle.std.specs.List.Sorted.{IsPermutation}

-- a pair of f and node that stands in the queue, its tie, and its stamp: how many pushes there were before it
pub record Entry : Type 0 where
  pub f : ℕ
  pub tie : ℕ
  pub stamp : ℕ
  pub node : ℕ

-- a queue: its entries, in any order, and how many pushes there were, counted up to 2 ^ 32 - 1
pub record TiedQueue : Type 0 where
  pub entries : List Entry
  pub pushes : ℕ

-- the pair of an entry
abbrev pub pair_of : Entry → ℕ × ℕ
pair_of entry = (entry.f, entry.node)

-- the pairs of entries
abbrev pub pairs_of : List Entry → List (ℕ × ℕ)
pairs_of entries = map pair_of entries

-- the entry was pushed before the one with this stamp: its own is lesser, or no greater where the count of pushes has ended
abbrev pub IsOlder : ℕ → Entry → Type 0
IsOlder stamp entry = (entry.stamp ≤ stamp) × (entry.stamp ≡ stamp → stamp ≡ 2 ^ 32 - 1)

-- this entry was pushed: it stands there with the old ones, which were pushed before it, and there was one push more
pub record Enters (entry : Entry) (old new : TiedQueue) : Type 0 where
  pub entries : IsPermutation (entry ∷ old.entries) new.entries
  pub older : All (IsOlder entry.stamp) old.entries
  pub pushes : new.pushes ≡ min (old.pushes + 1) (2 ^ 32 - 1)

-- the other entry has a greater f, or the same f and a greater tie, or the same f and tie and was pushed no later
abbrev pub Precedes : Entry → Entry → Type 0
Precedes entry other = (entry.f < other.f)
    ⊎ ((entry.f ≡ other.f) × ((entry.tie < other.tie) ⊎ ((entry.tie ≡ other.tie) × (other.stamp ≤ entry.stamp))))

-- each of these entries has a greater f, or the same f and a greater tie, or the same f and tie and was pushed no later
abbrev pub PrecedesAll : Entry → List Entry → Type 0
PrecedesAll entry entries = All (Precedes entry) entries

-- an entry with this pair was taken: it stood there and was next, and the others stay
pub record Pops (pair : ℕ × ℕ) (old new : TiedQueue) : Type 0 where
  pub entry : Entry
  pub is : pair ≡ pair_of entry
  pub entries : IsPermutation (entry ∷ new.entries) old.entries
  pub next : PrecedesAll entry old.entries
  pub pushes : new.pushes ≡ old.pushes
