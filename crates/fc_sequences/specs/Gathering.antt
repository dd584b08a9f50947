-- One-card moves gathered to entries: those that together carry a sequence are one entry.
use Rattle.std.specs.Prelude.{◌≡◌, ◌≢◌, ◌⊎◌, ◌↔◌, ℕ, ◌-◌, ◌≤◌, List, [], ◌∷◌, ◌++◌, length, take, slice_get, IsSome, IsSomeAnd}
use Rattle.fc_cards.specs.declared.places.Place.{Place}
use Rattle.fc_cards.specs.declared.places.Place.TheVariants.{Column}
use Rattle.fc_position.specs.Board.{Board}
use Rattle.fc_moves.specs.declared.steps.Move.{Move}
use Rattle.fc_moves.specs.GameRules.{GameRules}
use Rattle.fc_moves.specs.Run.{Run}
use Rattle.fc_sequences.specs.declared.gathers.GatherFault.{GatherFault}
use Rattle.fc_sequences.specs.declared.gathers.GatherFault.TheVariants.{NotAllowed, Memory}
use Rattle.fc_sequences.specs.declared.gathers.TheConstants.{MOST_AHEAD}
use Rattle.fc_sequences.specs.declared.pairs.Pair.{Pair}
use Rattle.fc_sequences.specs.Pair.{HasPairText, PlaysBy, PlaysCards, moves_for}
use Rattle.fc_sequences.specs.Sequence.{MayCarry, board_after_carry}

-- the first of the moves takes a card from this place, and the last of them one to this place
abbrev pub BeginsAt : List Move → Place → Type 0
BeginsAt ms from = IsSomeAnd (slice_get ms 0) (λ m. m.from ≡ from)

abbrev pub EndsAt : List Move → Place → Type 0
EndsAt ms to = IsSomeAnd (slice_get ms (length ms - 1)) (λ m. m.to ≡ to)

-- the moves carry the last k cards of column i to column j: the first takes a card from the one and the last one to the other, they
-- lead to the board with just these cards moved, and the cards may be carried at once by no more moves
pub record IsCarry (g : GameRules) (b : Board) (ms : List Move) (i j k : ℕ) : Type 0 where
  pub from : BeginsAt ms (Column i)
  pub to : EndsAt ms (Column j)
  pub may : MayCarry g b i j k
  pub run : Run g b ms (board_after_carry b i j k)
  pub within : moves_for g b (Column i) (Column j) k ≤ length ms

-- the moves are one entry: one move, or several that carry a sequence
abbrev pub AreOneEntry : GameRules → Board → List Move → Type 0
AreOneEntry g b ms = (length ms ≡ 1) ⊎ ((i : ℕ) × (j : ℕ) × (k : ℕ) × IsCarry g b ms i j k)

-- of the fronts of the list that have no more moves than are looked at, and are one entry, this part is the longest, and this is
-- what is left of the list after it
pub record IsLongest (g : GameRules) (b : Board) (ms part rest : List Move) : Type 0 where
  pub parts : ms ≡ part ++ rest
  pub one : AreOneEntry g b part
  pub most : length part ≤ MOST_AHEAD
  pub longest : (front others : List Move) → ms ≡ front ++ others → length front ≤ MOST_AHEAD → AreOneEntry g b front
      → length front ≤ length part

-- another number of cards than k may be played from the one place to the other
abbrev pub MayPlayAnother : GameRules → Board → Place → Place → ℕ → Type 0
MayPlayAnother g b from to k = (n : ℕ) × (n ≢ k) × ((c : Board) × PlaysCards g b from to n c)

-- a part of a list of moves is gathered to an entry, from where the part begins to where it ends: they lead to the board on which
-- just the entry was played, with k cards, which takes no more moves than the part has; and the entry has a text, which tells
-- how many cards just where another number may be played, too
pub record IsGathered (g : GameRules) (b : Board) (part : List Move) (p : Pair) (k : ℕ) (c : Board) : Type 0 where
  pub from : BeginsAt part p.from
  pub to : EndsAt part p.to
  pub run : Run g b part c
  pub plays : PlaysBy g b p k c
  pub within : moves_for g b p.from p.to k ≤ length part
  pub text : HasPairText p
  pub told : IsSome p.count ↔ MayPlayAnother g b p.from p.to k

-- the moves are gathered to the entries, from the one board to the other: the longest part of them to the first, and so on with the
-- others
abbrev pub Gathers : GameRules → Board → List Pair → List Move → Board → Type 0
Gathers g b [] ms c = (ms ≡ []) × (c ≡ b)
Gathers g b (p ∷ ps) ms c = (k : ℕ) × (mid : Board) × (part : List Move) × (rest : List Move)
    × IsGathered g b part p k mid × IsLongest g b ms part rest × Gathers g mid ps rest c

-- why a list isn't gathered: the rules don't allow the move at this step, which counts from 1, and allow those before it; or memory
-- was wanted
abbrev pub IsGatherFault : GameRules → Board → List Move → GatherFault → Type 0
IsGatherFault g b ms (NotAllowed step) = (1 ≤ step) × (step ≤ length ms) × ((c : Board) → Run g b (take step ms) c → ⊥)
    × ((c : Board) × Run g b (take (step - 1) ms) c)
IsGatherFault g b ms Memory = Unit {0}
