-- What is searched: a position of a game, and how.
use Rattle.std.specs.Prelude.{ℕ, List, Option, None}
use Rattle.fc_position.specs.Board.{Board}
use Rattle.fc_moves.specs.GameRules.{GameRules}
use Rattle.fc_best_first.specs.Graph.{Graph, Task}
use Rattle.fc_classes.specs.Classes.{classes}
use Rattle.fc_classes.specs.Namings.{by_codes}
use Rattle.fc_methods.specs.declared.methods.Method.{Method}
use Rattle.fc_methods.specs.Method.{QuestionData, as_written}

-- a problem: by how few moves of the game a list wins from the start, the method by which that is searched, and the limit, a
-- number of moves from which on lists aren't wanted, if there is one
pub record Problem : Type 0 where
  pub game : GameRules
  pub method : Method
  pub start : Board
  pub limit : Option ℕ

-- the problem of a question, a start and perhaps a limit
abbrev pub problem_below : QuestionData → Board → Option ℕ → Problem
problem_below q b limit = record { game = q.game; method = q.method; start = b; limit = limit }

-- the problem of a question and a start
abbrev pub problem_of : QuestionData → Board → Problem
problem_of q b = problem_below q b None

-- the problem of a shortest list, searched by the plain bound under a home rule and within a budget
abbrev pub shortest_from : GameRules → ℕ → Board → ℕ → Problem
shortest_from g rule b budget = record { game = g; method = as_written rule budget; start = b; limit = None }

-- the graph of classes in which it is searched, known by their codes, whatever the strategy
abbrev pub classes_of : Problem → Graph (List ℕ)
classes_of p = classes (by_codes p.start) p.method.bound p.game p.method.rule p.start

-- what a search of it is asked
abbrev pub task_of_problem : Problem → Task (List ℕ)
task_of_problem p = record { graph = classes_of p; strategy = p.method.strategy; limit = p.limit }
