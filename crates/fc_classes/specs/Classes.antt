-- The classes of the positions of a game as a graph: settled positions, known by the names of their classes.
use Rattle.std.specs.Prelude.{◌≡◌, ℕ, ◌+◌, ◌-◌, List, sum_by}
use Rattle.fc_position.specs.Board.{Board}
use Rattle.fc_position.specs.Position.{IsWon}
use Rattle.fc_moves.specs.declared.steps.Move.{Move}
use Rattle.fc_moves.specs.GameRules.{GameRules}
use Rattle.fc_moves.specs.Step.{Step}
use Rattle.fc_moves.specs.Run.{WinsIn}
use Rattle.fc_home.specs.Settles.{Settles}
use Rattle.fc_bound.specs.declared.kinds.BoundKind.{BoundKind}
use Rattle.fc_bound.specs.Kinds.{low_of, IsShown}
use Rattle.fc_best_first.specs.Graph.{Graph}
use Rattle.fc_classes.specs.Namings.{Naming}

-- the position settles in so many moves to one with this name
abbrev pub SettlesTo : Naming → GameRules → ℕ → Board → ℕ → List ℕ → Type 0
SettlesTo naming g rule p cost x = (q : Board) × Settles g rule p cost q × naming.names q x

-- a step from the position with the one name leads to a position that settles to one with the other; each move costs one
abbrev pub LeadsTo : Naming → GameRules → ℕ → List ℕ → ℕ → List ℕ → Type 0
LeadsTo naming g rule x cost y = naming.valid g x × ((m : Move) × (z : Board) × (count : ℕ)
    × Step g (naming.spelled x) m z × SettlesTo naming g rule z count y × (cost ≡ 1 + count))

-- how many cards aren't home
abbrev pub away : Board → ℕ
away b = 52 - sum_by (λ n. n) b.homes

-- the question how few moves win from the position, as a graph, with the lower bound of a kind, and what a search may go by; a step
-- may take along each card that isn't home
abbrev pub classes : Naming → BoundKind → GameRules → ℕ → Board → Graph (List ℕ)
classes naming kind g rule p = record {
  starts = λ x cost. SettlesTo naming g rule p cost x;
  edge = LeadsTo naming g rule;
  bound = λ x. low_of kind (naming.spelled x);
  shown = λ x. IsShown kind (naming.spelled x);
  spare = λ x. away (naming.spelled x);
  won = λ x. IsWon (naming.spelled x);
  wins = WinsIn g p;
}
