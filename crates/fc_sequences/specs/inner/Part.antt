-- Fronts of a list of moves that are one entry.
use Rattle.std.specs.Prelude.{◌≡◌, ℕ, ◌-◌, ◌<◌, ◌≤◌, List, [], ◌∷◌, ◌++◌, length, take, slice_get, IsSomeAnd}
use Rattle.fc_cards.specs.declared.places.Place.TheVariants.{Column}
use Rattle.fc_position.specs.Board.{Board}
use Rattle.fc_moves.specs.declared.steps.Move.{Move}
use Rattle.fc_moves.specs.GameRules.{GameRules}
use Rattle.fc_moves.specs.Run.{Run}
use Rattle.fc_sequences.specs.declared.gathers.Part.{Part}
use Rattle.fc_sequences.specs.declared.pairs.Pair.{Pair}
use Rattle.fc_sequences.specs.Gathering.{BeginsAt, IsCarry, IsGathered, IsLongest}
use Rattle.fc_sequences.specs.Pair.{PlaysCards, moves_for}

-- so many cards are played from the one place to the other, by no more moves than the part has
abbrev pub PlaysPart : GameRules → Board → Part → Board → Type 0
PlaysPart g b part c = PlaysCards g b part.from part.to part.count c × (moves_for g b part.from part.to part.count ≤ part.moves)

-- the first moves of the list, as many as the part has, lead from where it begins to where it ends, to the board on which just the
-- part was played; and where they are several, it is from a column to a column
pub record IsPart (g : GameRules) (b : Board) (ms : List Move) (part : Part) : Type 0 where
  pub some : 1 ≤ part.moves
  pub there : part.moves ≤ length ms
  pub from : BeginsAt ms part.from
  pub to : IsSomeAnd (slice_get ms (part.moves - 1)) (λ m. m.to ≡ part.to)
  pub board : Board
  pub run : Run g b (take part.moves ms) board
  pub plays : PlaysPart g b part board
  pub joined : 1 < part.moves → (i : ℕ) × (j : ℕ) × (part.from ≡ Column i) × (part.to ≡ Column j)

-- of the fronts of the list with no more moves than the first number, those that carry a sequence have no more than the second
abbrev pub NoneLonger : GameRules → Board → List Move → ℕ → ℕ → Type 0
NoneLonger g b ms most n = (m i j k : ℕ) → m ≤ most → IsCarry g b (take m ms) i j k → m ≤ n

-- the moves lead from the one board to the other, and the entry to which they are gathered, played with k cards, was added to the list
abbrev pub AddsEntry : GameRules → List Move → ℕ → Board × List Pair → Board × List Pair → Type 0
AddsEntry g part k old new = (p : Pair) × (new.1 ≡ old.1 ++ p ∷ []) × IsGathered g old.0 part p k new.0

-- the moves up to those that are left are gathered to the entries
abbrev pub GathersDownTo : GameRules → Board → List Pair → List Move → List Move → Board → Type 0
GathersDownTo g b [] ms left c = (ms ≡ left) × (c ≡ b)
GathersDownTo g b (p ∷ ps) ms left c = (k : ℕ) × (mid : Board) × (part : List Move) × (rest : List Move)
    × IsGathered g b part p k mid × IsLongest g b ms part rest × GathersDownTo g mid ps rest left c
