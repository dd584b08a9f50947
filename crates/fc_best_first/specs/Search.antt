-- A search as a whole: what it is of, where it stands, and what a turn does to it.
use Rattle.std.specs.Prelude.{◌≡◌, ℕ, ◌⊎◌, List, suc, zero, [], ◌∷◌, Option, Result, Ok, Err}
use Rattle.fc_frontier.specs.Queue.{Adds}
use Rattle.fc_best_first.specs.declared.books.Opening.{Opening}
use Rattle.fc_best_first.specs.declared.turns.Status.{Status}
use Rattle.fc_best_first.specs.declared.turns.Status.TheVariants.{Running, Stopped}
use Rattle.fc_best_first.specs.declared.searches.Step.{Step}
use Rattle.fc_best_first.specs.declared.searches.Step.TheVariants.{Running as running, Done}
use Rattle.fc_best_first.specs.declared.searches.SearchFault.{SearchFault}
use Rattle.fc_best_first.specs.declared.searches.SearchFault.TheVariants as fault
use Rattle.fc_best_first.specs.declared.strategies.Strategy.{Strategy}
use Rattle.fc_best_first.specs.Graph.{Graph, Task, task_by}
use Rattle.fc_best_first.specs.Store.{Store, IsOpening, opens_at, weighed_cost}
use Rattle.fc_best_first.specs.Turn.{Advances, TakesFloor}

-- a search: the space that it is of, its strategy, its limit, what it stores and has open, where it stands, and the greatest f
-- that was taken
pub record Progress (S : Type 0) (K : Type 0) : Type 0 where
  pub space : S
  pub strategy : Strategy
  pub limit : Option ℕ
  pub store : Store K
  pub status : Status K
  pub floor : ℕ

module _ {S K : Type 0} where
  -- what a search is asked, its question by its space
  abbrev pub task_of : (S → Graph K) → Progress S K → Task K
  task_of graph s = task_by (graph s.space) s.strategy s.limit

module _ {K : Type 0} where
  -- the key that starts is stored under 0, as its own parent, and open at its cost plus a number that is shown of it, both weighed
  abbrev pub Begins : Task K → Store K → Type 0
  Begins task s = (x : K) × (cost : ℕ) × (opening : Opening) × task.graph.starts x cost
      × IsOpening task.graph task.strategy.weight x opening × (s.stored ≡ (x, record { cost = cost; parent = 0 }) ∷ [])
      × Adds [] s.waiting (opens_at (weighed_cost task.strategy (record { cost = cost; parent = 0 })) opening, 0)
      × (s.openings ≡ opening ∷ [])

  -- what a turn answers, by the status that it leaves
  abbrev pub reply_of : Status K → Result Step SearchFault
  reply_of Running = Ok running
  reply_of Stopped = Err fault.Stopped
  reply_of _ = Ok Done

  -- one turn of a search, by its status: a running one takes a pair, or a growth was refused and it is stopped; one that
  -- is done or stopped stays as it is
  abbrev pub Turns : Task K → Status K → Store K → Store K → Status K → Result Step SearchFault → Type 0
  Turns task Running old new after reply =
      (Advances task old new after × (reply ≡ reply_of after)) ⊎ ((after ≡ Stopped) × (reply ≡ Err fault.Memory))
  Turns task before old new after reply = (new ≡ old) × (after ≡ before) × (reply ≡ reply_of before)

  -- the floor that a turn leaves, also where a growth was refused: that of a turn of a running search, else the same
  abbrev pub FloorAfter : Status K → List (ℕ × ℕ) → ℕ → ℕ → Type 0
  FloorAfter Running waiting old new = TakesFloor waiting old new
  FloorAfter _ waiting old new = new ≡ old

  -- so many turns, one after the other
  abbrev pub TurnsOn : ℕ → Task K → Status K → Store K → Store K → Status K → Type 0
  TurnsOn zero task before old new after = (new ≡ old) × (after ≡ before)
  TurnsOn (suc turns) task before old new after = (mid : Store K) × (between : Status K) × (reply : Result Step SearchFault)
      × Turns task before old mid between reply × TurnsOn turns task between mid new after

  -- some number of turns
  abbrev pub Runs : Task K → Status K → Store K → Store K → Status K → Type 0
  Runs task before old new after = (turns : ℕ) × TurnsOn turns task before old new after
