-- Queues of pairs of a number f and a node: what stands in them, and in which order it is taken.
use Rattle.std.specs.Prelude.{ℕ, ◌≤◌, nat_le, cond, fold, List, [], ◌∷◌, All}
use Rattle.std.specs.List.Sorted.{IsPermutation}

-- the new pairs are the old ones and this one, each as often as it stands there, in any order
abbrev pub Adds : List (ℕ × ℕ) → List (ℕ × ℕ) → ℕ × ℕ → Type 0
Adds old new pair = IsPermutation (pair ∷ old) new

-- no pair has a lesser f
abbrev pub IsLeast : ℕ × ℕ → List (ℕ × ℕ) → Type 0
IsLeast pair pairs = All (λ other. pair.0 ≤ other.0) pairs

-- one pair more, before the first that has no lesser f: in front of all of equal f
abbrev pub with_pair : ℕ × ℕ → List (ℕ × ℕ) → List (ℕ × ℕ)
with_pair pair [] = pair ∷ []
with_pair pair (other ∷ others) = cond (nat_le pair.0 other.0) (pair ∷ other ∷ others) (other ∷ with_pair pair others)

-- pairs that were pushed one by one, in the order in which they are taken
abbrev pub in_order : List (ℕ × ℕ) → List (ℕ × ℕ)
in_order pushed = fold (λ queue pair. with_pair pair queue) [] pushed
