-- Lists as people and programs write them: entries that name a card, or leave out moves home.
use Rattle.std.specs.Prelude.{◌≡◌, ◌⊎◌, ℕ, ◌+◌, List, [], ◌∷◌, ◌++◌, length, map, All, Some}
use Rattle.fc_cards.specs.declared.places.Place.TheVariants.{Home}
use Rattle.fc_position.specs.Board.{Board, IsHome, playable}
use Rattle.fc_position.specs.Position.{IsWon}
use Rattle.fc_moves.specs.declared.steps.Move.{Move}
use Rattle.fc_moves.specs.GameRules.{GameRules}
use Rattle.fc_moves.specs.Run.{Run}
use Rattle.fc_moves.specs.Step.{Allows, Step}
use Rattle.fc_lists.specs.declared.weaving.WeaveFault.{WeaveFault}
use Rattle.fc_lists.specs.declared.weaving.WeaveFault.TheVariants.{Refused, Memory}
use Rattle.fc_lists.specs.declared.written_entries.Entry.{Entry}
use Rattle.fc_lists.specs.declared.written_entries.Entry.TheVariants.{Move as of_move, Card as of_card}

-- the move goes home
abbrev pub IsMoveHome : Move → Type 0
IsMoveHome m = m.to ≡ Home

-- no card of the board can go home
abbrev pub AllowsNoMoveHome : GameRules → Board → Type 0
AllowsNoMoveHome g b = (m : Move) → IsMoveHome m → Allows g b m → ⊥

-- on this board the entry is the move: the one that it names; or one of the card that it names, to the place that it names
abbrev pub IsEntryFor : Board → Entry → Move → Type 0
IsEntryFor b (of_move named) m = m ≡ named
IsEntryFor b (of_card card to) m = (playable b m.from ≡ Some card) × (m.to ≡ to)

-- the rules allow the entry
abbrev pub AllowsEntry : GameRules → Board → Entry → Type 0
AllowsEntry g b e = (m : Move) × IsEntryFor b e m × Allows g b m

-- the entry names a card that is home, and that it goes there
abbrev pub IsHomeBefore : Board → Entry → Type 0
IsHomeBefore b (of_move named) = ⊥
IsHomeBefore b (of_card card to) = (to ≡ Home) × IsHome b.homes card

-- the move makes way for the entry, which is allowed behind it
abbrev pub MakesWay : GameRules → Board → Move → Entry → Type 0
MakesWay g b first e = (c : Board) × Step g b first c × AllowsEntry g c e

-- the move home makes way for an entry, where any move home does
abbrev pub IsWayHome : GameRules → Board → Entry → Move → Type 0
IsWayHome g b e home = IsMoveHome home × ((other : Move) → IsMoveHome other → MakesWay g b other e → MakesWay g b home e)

-- moves, of which so many are entries of a list
pub record Thread : Type 0 where
  pub moves : List Move
  pub listed : ℕ

-- none
abbrev pub no_moves : Thread
no_moves = record { moves = []; listed = 0 }

-- with one more of the list
abbrev pub with_listed : Thread → Move → Thread
with_listed t m = record { moves = t.moves ++ m ∷ []; listed = t.listed + 1 }

-- with one more that is put in
abbrev pub with_inserted : Thread → Move → Thread
with_inserted t m = record { moves = t.moves ++ m ∷ []; listed = t.listed }

-- the moves lead from the board to another: they are the entries of a list before its rest, in their order, each as soon as it is
-- allowed; before one that isn't, moves home, one that makes way for it where there is such a one; and an entry that sends a card home
-- which is there is none of them
pub data Weaves (g : GameRules) (b : Board) (list : List Entry) : List Entry → Thread → Board → Type 0 where
  begins : Weaves g b list list no_moves b
  goes_on : (e : Entry) (m : Move) (rest : List Entry) (t : Thread) (c d : Board) → Weaves g b list (e ∷ rest) t c → IsEntryFor c e m → Step g c m d
      → Weaves g b list rest (with_listed t m) d
  passes : (e : Entry) (rest : List Entry) (t : Thread) (c : Board) → Weaves g b list (e ∷ rest) t c → IsHomeBefore c e → Weaves g b list rest t c
  sends_home : (e : Entry) (home : Move) (rest : List Entry) (t : Thread) (c d : Board) → Weaves g b list (e ∷ rest) t c
      → (AllowsEntry g c e → ⊥) → (IsHomeBefore c e → ⊥) → IsWayHome g c e home → Step g c home d → Weaves g b list (e ∷ rest) (with_inserted t home) d

-- moves home behind a list: where cards go home from the board until none can, and that wins, all of these moves, and else none
pub record EndsAtHome (g : GameRules) (b : Board) (homes : List Move) : Type 0 where
  pub all : List Move
  pub home : All IsMoveHome all
  pub end : Board
  pub run : Run g b all end
  pub stuck : AllowsNoMoveHome g end
  pub kept : (IsWon end × (homes ≡ all)) ⊎ ((IsWon end → ⊥) × (homes ≡ []))

-- the moves are the entries of the list, in their order, with moves home where it goes on only with them, and behind it where they win;
-- so many are put in
pub record IsPlayed (g : GameRules) (b : Board) (list : List Entry) (moves : List Move) (inserted : ℕ) : Type 0 where
  pub front : Thread
  pub homes : List Move
  pub here : Board
  pub parts : moves ≡ front.moves ++ homes
  pub count : front.listed + inserted ≡ length moves
  pub woven : Weaves g b list [] front here
  pub ended : EndsAtHome g here homes

-- an entry of the list, by its step, isn't allowed, nor does it send a card home that is there, and no card can go home before it
pub record IsRefusedEntry (g : GameRules) (b : Board) (list : List Entry) (step : ℕ) : Type 0 where
  pub e : Entry
  pub rest : List Entry
  pub front : Thread
  pub here : Board
  pub woven : Weaves g b list (e ∷ rest) front here
  pub refused : AllowsEntry g here e → ⊥
  pub needed : IsHomeBefore here e → ⊥
  pub stuck : AllowsNoMoveHome g here
  pub place : step + length rest ≡ length list

-- why a list of entries isn't played: one that isn't allowed; or a growth was refused
abbrev pub IsWeaveFault : GameRules → Board → List Entry → WeaveFault → Type 0
IsWeaveFault g b list (Refused step) = IsRefusedEntry g b list step
IsWeaveFault g b list Memory = Unit {0}

-- the moves are those of the list, as such entries are played
abbrev pub IsWoven : GameRules → Board → List Move → List Move → Type 0
IsWoven g b list moves = (inserted : ℕ) × IsPlayed g b (map of_move list) moves inserted

-- a move of the list, by its step, isn't allowed as such an entry
abbrev pub IsRefusedMove : GameRules → Board → List Move → ℕ → Type 0
IsRefusedMove g b list step = IsRefusedEntry g b (map of_move list) step
