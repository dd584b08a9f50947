-- Queues of nodes at places: each f and tie has one place, a lesser one for a lesser f, and of equal f for a lesser tie.
use Rattle.std.specs.Prelude.{◌≡◌, ℕ, ◌+◌, ◌*◌, ◌/◌, map, List, ◌∷◌}

-- the place of an f and a tie
abbrev pub place_of : ℕ → ℕ → ℕ
place_of f tie = 256 * f + tie

-- the pair of f and node of a node at a place, where each f has so many places
abbrev pub pair_at : ℕ → ℕ × ℕ → ℕ × ℕ
pair_at ties placed = (placed.0 / ties, placed.1)

-- the pairs of nodes at places
abbrev pub pairs_at : ℕ → List (ℕ × ℕ) → List (ℕ × ℕ)
pairs_at ties placed = map (pair_at ties) placed

-- the pair of the first of these was taken, and the others stay
pub record PopsFirst (pair : ℕ × ℕ) (old new : List (ℕ × ℕ)) : Type 0 where
  pub placed : ℕ × ℕ
  pub is : pair ≡ pair_at 256 placed
  pub order : old ≡ placed ∷ new
