-- What the laws of this crate state.
use Rattle.std.specs.Prelude.{◌≡◌, ℕ, ◌-◌, ◌≤◌, ◌⊎◌, ◌↔◌, length, List, slice_set}
use Rattle.fc_cards.specs.Card.{rank, suit}
use Rattle.fc_position.specs.Board.{Board, IsHome, IsNext}
use Rattle.fc_position.specs.Position.{IsPosition}
use Rattle.fc_moves.specs.declared.steps.Move.{Move}
use Rattle.fc_moves.specs.GameRules.{GameRules, IsGame, IsPositionOf, Stands}
use Rattle.fc_moves.specs.Run.{Run, WinsWithin}
use Rattle.fc_moves.specs.Class.{SameClass}
use Rattle.fc_home.specs.HomeRule.{IsForced, IsFree, GoesHome}
use Rattle.fc_home.specs.Settles.{SettlesBy, Settles}
use Rattle.fc_home.specs.declared.settling.TheConstants.{GREATEST_RULE}

-- by the rules of a game, a card is free exactly where it is next and each card that may stand on it is home or free
abbrev pub CardsAreFreeByOthers : Type 0
CardsAreFreeByOthers = (g : GameRules) (homes : List ℕ) (c : ℕ) → IsGame g
    → IsFree g homes c ↔ (IsNext homes c × ((u : ℕ) → Stands g u c → IsHome homes u ⊎ IsFree g homes u))

-- a forced card is free
abbrev pub ForcedCardsAreFree : Type 0
ForcedCardsAreFree = (g : GameRules) (homes : List ℕ) (c : ℕ) → IsForced g homes c → IsFree g homes c

-- a card that goes home by a rule still does so once another next card is home
abbrev pub GoersStay : Type 0
GoersStay = (rule : ℕ) (g : GameRules) (homes : List ℕ) (c u : ℕ) → length homes ≡ 4 → GoesHome rule g homes c → IsNext homes u
    → (u ≡ c → ⊥) → GoesHome rule g (slice_set homes (suit u) (rank u)) c

-- the moves by which a board settles are steps, one by one
abbrev pub SettlingIsARun : Type 0
SettlingIsARun = (g : GameRules) (rule : ℕ) (b q : Board) (ms : List Move) → SettlesBy g rule b ms q → Run g b ms q

-- a position of the game settles to one of the game
abbrev pub SettlingKeepsPositions : Type 0
SettlingKeepsPositions = (g : GameRules) (rule : ℕ) (b q : Board) (count : ℕ) → IsPositionOf g b → Settles g rule b count q
    → IsPositionOf g q

-- what is settled settles by no move
abbrev pub SettledBoardsStay : Type 0
SettledBoardsStay = (g : GameRules) (rule : ℕ) (b q : Board) (count : ℕ) → Settles g rule b count q → Settles g rule q 0 q

-- every board settles by every home rule, whether or not it is a position
abbrev pub EveryBoardSettles : Type 0
EveryBoardSettles = (g : GameRules) (rule : ℕ) (b : Board) → (count : ℕ) × (q : Board) × Settles g rule b count q

-- a position settles by a rule in one number of moves and to one board
abbrev pub PositionsSettleInOneWay : Type 0
PositionsSettleInOneWay = (g : GameRules) (rule : ℕ) (b q r : Board) (count number : ℕ) → IsPosition b
    → Settles g rule b count q → Settles g rule b number r → (count ≡ number) × (q ≡ r)

-- and by one list of moves
abbrev pub SettlingMovesAreOne : Type 0
SettlingMovesAreOne = (g : GameRules) (rule : ℕ) (b q r : Board) (ms ns : List Move) → IsPosition b
    → SettlesBy g rule b ms q → SettlesBy g rule b ns r → (ms ≡ ns) × (q ≡ r)

-- a class-mate of a board that settles in so many moves settles in as many, to a board of the same class
abbrev pub ClassMatesSettleAlike : Type 0
ClassMatesSettleAlike = (g : GameRules) (rule : ℕ) (b c x : Board) (count : ℕ) → SameClass b c → Settles g rule b count x
    → (y : Board) × Settles g rule c count y × SameClass x y

-- a list of at most so many moves wins from a position exactly where the settling moves are no more, and a list of at most
-- the others wins from the settled position
abbrev pub SettlingLosesNothing : Type 0
SettlingLosesNothing = (g : GameRules) (rule : ℕ) (b q : Board) (count most : ℕ) → IsPosition b → Settles g rule b count q
    → WinsWithin g b most ↔ ((count ≤ most) × WinsWithin g q (most - count))

-- the greatest home rule
abbrev pub NumbersAreTold : Type 0
NumbersAreTold = GREATEST_RULE ≡ 2
