-- Why the rules of a game refuse a move.
use Rattle.std.specs.Prelude.{◌≡◌, ℕ, ◌<◌, ◌≤◌, List, [], Some, None}
use Rattle.fc_cards.specs.declared.places.Place.{Place}
use Rattle.fc_cards.specs.declared.places.Place.TheVariants.{Column, Cell, Home}
use Rattle.fc_position.specs.Board.{Board, column, cell, playable, last_of, IsNext}
use Rattle.fc_moves.specs.declared.steps.Move.{Move}
use Rattle.fc_moves.specs.GameRules.{GameRules, Stands, Opens}
use Rattle.fc_moves.specs.Step.{Joins}
use Rattle.fc_moves.specs.declared.refusals.Refusal.{Refusal}
use Rattle.fc_moves.specs.declared.refusals.Refusal.TheVariants.{NoCard, NoWay, NoSuchCell, TakenCell, NoStand, NoOpen, NotNext}

-- no column stands past the eighth
abbrev pub IsNoFarColumn : Place → Type 0
IsNoFarColumn (Column j) = j < 8
IsNoFarColumn (Cell j) = Unit {0}
IsNoFarColumn Home = Unit {0}

-- some card could make the move, whatever stands there
abbrev pub IsWay : Move → Type 0
IsWay m = Joins m.from m.to × IsNoFarColumn m.to

-- why a card may not go to a column with these cards: it may not stand on the last of them, or open a column without any
abbrev pub LandsNot : GameRules → List ℕ → ℕ → Refusal → Type 0
LandsNot g cards card NoStand = (last : ℕ) × (last_of cards ≡ Some last) × (Stands g card last → ⊥)
LandsNot g cards card NoOpen = (cards ≡ []) × (Opens g card → ⊥)
LandsNot g cards card refusal = ⊥

-- why a place doesn't take a card: the game lacks the cell, or has it and it holds a card, or the foundation doesn't
-- lack the card next
abbrev pub TakesNot : GameRules → Board → ℕ → Place → Refusal → Type 0
TakesNot g b card (Column j) refusal = LandsNot g (column b j) card refusal
TakesNot g b card (Cell j) NoSuchCell = g.cells ≤ j
TakesNot g b card (Cell j) TakenCell = (j < g.cells) × ((held : ℕ) × (cell b j ≡ Some held))
TakesNot g b card Home NotNext = IsNext b.homes card → ⊥
TakesNot g b card to refusal = ⊥

-- there is a card and a way, and the place to which it leads doesn't take the card
pub record IsHindered (g : GameRules) (b : Board) (m : Move) (refusal : Refusal) : Type 0 where
  pub card : ℕ
  pub there : playable b m.from ≡ Some card
  pub way : IsWay m
  pub why : TakesNot g b card m.to refusal

-- the first rule that the move breaks: there is a card, it has a way, and the place takes it
abbrev pub IsWhy : GameRules → Board → Move → Refusal → Type 0
IsWhy g b m NoCard = playable b m.from ≡ None
IsWhy g b m NoWay = ((card : ℕ) × (playable b m.from ≡ Some card)) × (IsWay m → ⊥)
IsWhy g b m refusal = IsHindered g b m refusal
