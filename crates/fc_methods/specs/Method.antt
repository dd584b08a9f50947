-- How a position is searched.
use Rattle.std.specs.Prelude.{ℕ}
use Rattle.fc_moves.specs.GameRules.{GameRules}
use Rattle.fc_bound.specs.declared.kinds.BoundKind.TheVariants.{Clearing, Plain}
use Rattle.fc_best_first.specs.declared.strategies.Expansion.TheVariants.{Full, Partial}
use Rattle.fc_methods.specs.declared.methods.Method.{Method}
use Rattle.fc_methods.specs.declared.methods.Sought.{Sought}
use Rattle.fc_methods.specs.declared.methods.Sought.TheVariants.{ByMethod}

-- a search for a shortest list by the plain bound and full expansion
abbrev pub as_written : ℕ → ℕ → Method
as_written rule budget = record { rule = rule; bound = Plain; strategy = record { weight = record { parts = 1; times = 1 }; expansion = Full; budget = budget } }

-- a search for a shortest list by the clearing bound and partial expansion, as the best answer of a board is searched for
abbrev pub best_method : ℕ → ℕ → Method
best_method rule budget = record { rule = rule; bound = Clearing; strategy = record { weight = record { parts = 1; times = 1 }; expansion = Partial; budget = budget } }

-- a question: by how few moves of the game a list wins, what is sought of that, and the method
pub record QuestionData : Type 0 where
  pub game : GameRules
  pub sought : Sought
  pub method : Method

-- the question of a shortest list, searched by the plain bound
abbrev pub shortest_asked : GameRules → ℕ → ℕ → QuestionData
shortest_asked g rule budget = record { game = g; sought = ByMethod; method = as_written rule budget }
