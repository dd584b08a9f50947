-- What the laws of this crate state.
use Rattle.std.specs.Prelude.{◌≡◌, ◌≢◌, ℕ, ◌+◌, ◌≤◌, ◌↔◌, IsTrue, false, cond, length, List, [], ◌∷◌, Some, slice_index_or, All, AllPairs, Contains}
use Rattle.fc_cards.specs.declared.places.Place.TheVariants.{Home}
use Rattle.fc_position.specs.Board.{Board, playable, last_of, board_without, IsHome, IsNext}
use Rattle.fc_position.specs.Position.{IsPosition}
use Rattle.fc_moves.specs.declared.steps.Move.{Move}
use Rattle.fc_moves.specs.GameRules.{GameRules}
use Rattle.fc_moves.specs.Run.{Wins}
use Rattle.fc_moves.specs.Step.{Step}
use Rattle.fc_moves.specs.Class.{SameClass}
use Rattle.fc_home.specs.Settles.{Settles}
use Rattle.fc_bound.specs.declared.bounds.TheConstants.{GREATEST_BOUND}
use Rattle.fc_bound.specs.Bound.{bound, is_away, is_held_back, StandsAboveLower}
use Rattle.fc_bound.specs.Clearing.{waits, without, order_cost, clearing_cost, clearing_bound}
use Rattle.fc_bound.specs.declared.kinds.BoundKind.{BoundKind}
use Rattle.fc_bound.specs.Kinds.{guide_of, low_of, IsShown}
use Rattle.fc_bound.specs.Knots.{knot_bound}
use Rattle.fc_bound.specs.LowerBound.{IsLowerBound}
use Rattle.fc_bound.specs.Rings.{AreApart, IsFamily, IsRing}

-- the tests by which the bound counts tell exactly the cards that are not home, and those above a lower card of their suit
abbrev pub TestsTellTheCards : Type 0
TestsTellTheCards = (b : Board) (c : ℕ) → (IsTrue (is_away b c) ↔ (¬ IsHome b.homes c))
    × (IsTrue (is_held_back b c) ↔ StandsAboveLower b c)

-- a step from a position lowers the bound by one at most
abbrev pub StepsLowerTheBoundByOne : Type 0
StepsLowerTheBoundByOne = (g : GameRules) (b c : Board) (m : Move) → IsPosition b → Step g b m c → bound b ≤ bound c + 1

-- a step that takes no card home changes the bound only by whether its card is held back, before and after
abbrev pub StepsMoveTheBoundByTheirCard : Type 0
StepsMoveTheBoundByTheirCard = (g : GameRules) (b c : Board) (m : Move) (u : ℕ) → IsPosition b → Step g b m c → m.to ≢ Home
    → playable b m.from ≡ Some u
    → bound b + cond (is_held_back c u) 1 0 ≡ bound c + cond (is_held_back b u) 1 0

-- every list of moves that wins from a position has at least as many moves as the bound says
abbrev pub WinsNeedTheBound : Type 0
WinsNeedTheBound = (g : GameRules) (b : Board) (ms : List Move) → IsPosition b → Wins g b ms → bound b ≤ length ms

-- boards of one class have one bound
abbrev pub ClassMatesHaveOneBound : Type 0
ClassMatesHaveOneBound = (b c : Board) → SameClass b c → bound b ≡ bound c

-- no bound of a board is above the greatest: each of the 52 cards is counted twice at most
abbrev pub BoundsAreSmall : Type 0
BoundsAreSmall = (b : Board) → bound b ≤ GREATEST_BOUND

-- no order costs less than the clearing cost, and some order costs as much
abbrev pub ClearingCostIsLeast : Type 0
ClearingCostIsLeast = (columns : List (List ℕ)) → ((order : List ℕ) → clearing_cost columns ≤ order_cost columns order)
    × ((order : List ℕ) × (order_cost columns order ≡ clearing_cost columns))

-- boards of one class have one clearing bound
abbrev pub ClassMatesHaveOneClearingBound : Type 0
ClassMatesHaveOneClearingBound = (b c : Board) → SameClass b c → clearing_bound b ≡ clearing_bound c

-- a last card that waits for none may be taken first: without it the columns cost as much
abbrev pub FreeCardsGoFirst : Type 0
FreeCardsGoFirst = (columns : List (List ℕ)) (i : ℕ) → waits columns (last_of (slice_index_or columns i [])) ≡ false
    → clearing_cost columns ≡ clearing_cost (without columns i)

-- a step from a position lowers the clearing bound by one at most
abbrev pub StepsLowerTheClearingBoundByOne : Type 0
StepsLowerTheClearingBoundByOne = (g : GameRules) (b c : Board) (m : Move) → IsPosition b → Step g b m c
    → clearing_bound b ≤ clearing_bound c + 1

-- every list of moves that wins from a position has at least as many moves as the clearing bound says
abbrev pub WinsNeedTheClearingBound : Type 0
WinsNeedTheClearingBound = (g : GameRules) (b : Board) (ms : List Move) → IsPosition b → Wins g b ms → clearing_bound b ≤ length ms

-- the clearing bound is nowhere less than the plain bound
abbrev pub ClearingIsNoLess : Type 0
ClearingIsNoLess = (b : Board) → bound b ≤ clearing_bound b

-- the knot bound of a position is nowhere greater than its clearing bound
abbrev pub KnotBoundIsNoGreater : Type 0
KnotBoundIsNoGreater = (b : Board) → IsPosition b → knot_bound b ≤ clearing_bound b

-- the knot bound is nowhere less than the plain bound
abbrev pub KnotBoundIsNoLess : Type 0
KnotBoundIsNoLess = (b : Board) → bound b ≤ knot_bound b

-- boards of one class have one knot bound
abbrev pub ClassMatesHaveOneKnotBound : Type 0
ClassMatesHaveOneKnotBound = (b c : Board) → SameClass b c → knot_bound b ≡ knot_bound c

-- tied columns: the last card of each waits for a lower card that stands in one of them
pub record AreTied (columns : List (List ℕ)) (tied : List ℕ) : Type 0 where
  pub some_column : tied ≢ []
  pub wait : (i : ℕ) → Contains tied i → (j : ℕ) × Contains tied j
      × IsTrue (waits (slice_index_or columns j [] ∷ []) (last_of (slice_index_or columns i [])))

-- of tied columns, some one's last card goes first in a best order, at a cost of one
abbrev pub OneOfTheTiedGoesFirst : Type 0
OneOfTheTiedGoesFirst = (columns : List (List ℕ)) (tied : List ℕ) → AreTied columns tied
    → (i : ℕ) × Contains tied i × (clearing_cost columns ≡ 1 + clearing_cost (without columns i))

-- the guide and the bound that a table is closed by are lower bounds, of each kind
abbrev pub TheBoundsAreLowerBounds : Type 0
TheBoundsAreLowerBounds = (kind : BoundKind) → IsLowerBound (guide_of kind) × IsLowerBound (low_of kind)

-- of a position the guide is nowhere greater than the bound that a table is closed by
abbrev pub GuidesAreNoGreater : Type 0
GuidesAreNoGreater = (kind : BoundKind) (b : Board) → IsPosition b → guide_of kind b ≤ low_of kind b

-- rings without a card in common cost one each
abbrev pub RingsCostOneEach : Type 0
RingsCostOneEach = (columns : List (List ℕ)) (rings : List (List ℕ)) → All (IsRing columns) rings → AllPairs AreApart rings
    → length rings ≤ clearing_cost columns

-- a list that wins has a move for each card that is away and each card that is held back, and one more for each ring of a family
abbrev pub WinsNeedTheRings : Type 0
WinsNeedTheRings = (g : GameRules) (b : Board) (ms : List Move) (cards : ℕ) (rings : List (List ℕ)) → IsPosition b → Wins g b ms
    → IsFamily b.columns cards rings → bound b + length rings ≤ length ms

-- a ring stays one where another card moves
abbrev pub RingsStay : Type 0
RingsStay = (g : GameRules) (b c : Board) (m : Move) (u : ℕ) (ring : List ℕ) → IsPosition b → Step g b m c → playable b m.from ≡ Some u
    → (Contains ring u → ⊥) → IsRing b.columns ring → IsRing c.columns ring

-- no card of a ring goes home
abbrev pub RingsKeepFromHome : Type 0
RingsKeepFromHome = (b : Board) (u : ℕ) (ring : List ℕ) → IsPosition b → IsRing b.columns ring → Contains ring u → IsNext b.homes u → ⊥

-- what is shown of a board is no greater than the bound that a table is closed by
abbrev pub ShownIsNoGreater : Type 0
ShownIsNoGreater = (kind : BoundKind) (b : Board) (number note : ℕ) → IsShown kind b number note → number ≤ low_of kind b

-- what is shown of a position is no greater than the greatest bound
abbrev pub ShownIsSmall : Type 0
ShownIsSmall = (kind : BoundKind) (b : Board) (number note : ℕ) → IsPosition b → IsShown kind b number note → number ≤ GREATEST_BOUND

-- of boards of one class the same is shown
abbrev pub ClassMatesShowTheSame : Type 0
ClassMatesShowTheSame = (kind : BoundKind) (b c : Board) (number note : ℕ) → SameClass b c → IsShown kind b number note
    → IsShown kind c number note

-- once a card is lifted and goes home, one less is shown by the same note
abbrev pub HomeShowsOneLess : Type 0
HomeShowsOneLess = (kind : BoundKind) (g : GameRules) (b c : Board) (m : Move) (number note : ℕ) → IsPosition b → Step g b m c → m.to ≡ Home
    → IsShown kind (board_without b m.from) number note → (less : ℕ) × (number ≡ less + 1) × IsShown kind c less note

-- once a position has settled, one less for each move is shown by the same note
abbrev pub SettlingShowsOneLessEach : Type 0
SettlingShowsOneLessEach = (kind : BoundKind) (g : GameRules) (rule : ℕ) (b q : Board) (count number note : ℕ) → IsPosition b
    → Settles g rule b count q → IsShown kind b number note → (less : ℕ) × (number ≡ less + count) × IsShown kind q less note
