-- Searches that tell how far they are, and who hears it.
use Rattle.std.specs.Prelude.{◌≡◌, ◌≢◌, ℕ, zero, suc, ◌+◌, ◌*◌, ◌<◌, ◌≤◌, ◌⊎◌, max, List, [], ◌∷◌, ◌++◌, length, None, Result, MatchResult}
use Rattle.fc_frontier.specs.Queue.{Adds}
use Rattle.fc_moves.specs.declared.steps.Move.{Move}
use Rattle.fc_moves.specs.GameRules.{GameRules}
use Rattle.fc_moves.specs.Run.{Wins}
use Rattle.fc_position.specs.Board.{Board}
use Rattle.fc_best_first.specs.Search.{Begins, FloorAfter, Turns}
use Rattle.fc_best_first.specs.Store.{Store}
use Rattle.fc_best_first.specs.declared.searches.SearchFault.{SearchFault}
use Rattle.fc_best_first.specs.declared.searches.Step.{Step}
use Rattle.fc_best_first.specs.declared.turns.Status.{Status}
use Rattle.fc_best_first.specs.declared.turns.Status.TheVariants.{Running, Stopped}
use Rattle.fc_answers.specs.declared.answers.Verdict.{Verdict}
use Rattle.fc_search.specs.Problem.{Problem, task_of_problem}
use Rattle.fc_search.specs.Search.{IsOfStatus, State}
use Rattle.fc_search.specs.declared.listeners.Progress.{Progress}

module _ {L E : Type 0} where
  -- a listener hears these, one after the other, and each does to it what hearing does
  abbrev pub HearsAll : (L → E → L → Type 0) → L → List E → L → Type 0
  HearsAll hears old [] new = new ≡ old
  HearsAll hears old (far ∷ later) new = (mid : L) × hears old far mid × HearsAll hears mid later new

-- what a listener hears: how far searches are; or a better list, or one with a greater number of moves that none is below
pub data Report : Type 0 where
  Far : Progress → Report
  Better : List Move → ℕ → Report

-- what hearing how far a search is does to a listener
abbrev pub HearsFar : {L : Type 0} → (L → Report → L → Type 0) → L → Progress → L → Type 0
HearsFar hears old far new = hears old (Far far) new

-- where a search stands: what it stores and has open, its status, its floor, and how many turns there were
pub record Stage : Type 0 where
  pub store : Store (List ℕ)
  pub status : Status (List ℕ)
  pub floor : ℕ
  pub turns : ℕ

-- where a search stands after so many turns
abbrev pub stage_of : State → ℕ → Stage
stage_of s turns = record { store = s.store; status = s.status; floor = s.floor; turns = turns }

-- a search of the problem that has had no turn stands there
pub record IsFirst (p : Problem) (stage : Stage) : Type 0 where
  pub begins : Begins (task_of_problem p) stage.store
  pub running : stage.status ≡ Running
  pub floor : Adds [] stage.store.waiting (stage.floor, 0)
  pub none : stage.turns ≡ 0

-- one turn of a search of the problem leads from the one stage to the other
pub record TurnsOnce (p : Problem) (old new : Stage) : Type 0 where
  pub reply : Result Step SearchFault
  pub turn : Turns (task_of_problem p) old.status old.store new.store new.status reply
  pub floor : FloorAfter old.status old.store.waiting old.floor new.floor
  pub counted : new.turns ≡ old.turns + 1

-- so many turns, one after the other
abbrev pub TurnsMany : ℕ → Problem → Stage → Stage → Type 0
TurnsMany zero p old new = new ≡ old
TurnsMany (suc made) p old new = (mid : Stage) × TurnsOnce p old mid × TurnsMany made p mid new

-- of a search of the problem at this stage its budget and its turns are told, and its floor as a number of moves, rounded up:
-- no list of fewer moves wins
pub record TellsFloor (p : Problem) (stage : Stage) (far : Progress) : Type 0 where
  pub budgeted : far.budget ≡ p.method.strategy.budget
  pub counted : far.turns ≡ stage.turns
  pub near : (stage.floor ≤ p.method.strategy.weight.times * far.at_least) × (p.method.strategy.weight.times * far.at_least < stage.floor + p.method.strategy.weight.times)
  pub least : (moves : List Move) → Wins p.game p.start moves → far.at_least ≤ length moves

-- so far a search of the problem is at this stage, where no turn was refused: how many classes it stores, how many entries are
-- open, and no list
pub record IsFar (p : Problem) (stage : Stage) (far : Progress) : Type 0 where
  pub going : stage.status ≢ Stopped
  pub stored : far.classes ≡ length stage.store.stored
  pub opened : far.open ≡ length stage.store.waiting
  pub unlisted : far.shortest ≡ None
  pub floor : TellsFloor p stage far

-- what is heard of a search from one stage on, so many entries having been open at most before, and the stage that was told
-- last: after some turns how far it is then, with the most that was open whenever it was told, and so on
abbrev pub IsHeard : Problem → Stage → ℕ → List Progress → Stage → Type 0
IsHeard p old most [] new = new ≡ old
IsHeard p old most (far ∷ later) new = (mid : Stage) × (made : ℕ) × (1 ≤ made) × TurnsMany made p old mid
    × IsFar p mid far × (far.most_open ≡ max most far.open) × IsHeard p mid far.most_open later new

-- a search of the problem began and stands there now; and this is what was heard of it, where it stands now last
pub record IsHeardOn (p : Problem) (heard : List Progress) (s : State) : Type 0 where
  pub first : Stage
  pub turns : ℕ
  pub begins : IsFirst p first
  pub some : heard ≢ []
  pub told : IsHeard p first 0 heard (stage_of s turns)

-- a search of the problem began and ran to its end, from which it has this verdict; and this is what was heard of it, its
-- end last
pub record IsHeardToEnd (p : Problem) (heard : List Progress) (verdict : Verdict) : Type 0 where
  pub first : Stage
  pub last : Stage
  pub begins : IsFirst p first
  pub some : heard ≢ []
  pub told : IsHeard p first 0 heard last
  pub answered : IsOfStatus p last.store last.status verdict

-- some turns later a growth was refused, and the floor alone is told
pub record IsStopped (p : Problem) (old : Stage) (far : Progress) : Type 0 where
  pub stage : Stage
  pub made : ℕ
  pub some : 1 ≤ made
  pub turned : TurnsMany made p old stage
  pub stopped : stage.status ≡ Stopped
  pub floor : TellsFloor p stage far

-- a search of the problem began, and this is what was heard of it; where a growth stopped it, of that turn too
pub record IsHeardInPart (p : Problem) (heard : List Progress) : Type 0 where
  pub first : Stage
  pub last : Stage
  pub begins : IsFirst p first
  pub front : List Progress
  pub told : IsHeard p first 0 front last
  pub rest : (heard ≡ front) ⊎ ((far : Progress) × (heard ≡ front ++ far ∷ []) × IsStopped p last far)

-- nothing was heard, or this of a search of the problem
abbrev pub IsHeardAtMost : Problem → List Progress → Type 0
IsHeardAtMost p heard = (heard ≡ []) ⊎ IsHeardInPart p heard

-- each tells a number of moves that no list that wins from the board is shorter than
abbrev pub TellFloors : GameRules → Board → List Progress → Type 0
TellFloors g b [] = Unit {0}
TellFloors g b (far ∷ heard) = ((moves : List Move) → Wins g b moves → far.at_least ≤ length moves) × TellFloors g b heard

module _ {L A E : Type 0} (hears : L → Report → L → Type 0) (p : Problem) where
  -- a listener hears of a search of the problem to its end, from which the answer has its verdict; or where a growth was refused,
  -- nothing, or of a part of it
  abbrev pub HearsToVerdict : Result A E → (A → Verdict) → L → L → Type 0
  HearsToVerdict result verdict_of old new = (heard : List Progress) × HearsAll (HearsFar hears) old heard new
      × MatchResult result (λ answer. IsHeardToEnd p heard (verdict_of answer)) (λ refused. IsHeardAtMost p heard)

module _ {L E : Type 0} (hears : L → Report → L → Type 0) (p : Problem) where
  -- a listener hears of a search of the problem up to where it stands; or where a growth was refused, nothing, or of a part of it;
  -- and each number of moves that it is told is one that no list that wins is shorter than
  abbrev pub HearsSearch : Result State E → L → L → Type 0
  HearsSearch result old new = (heard : List Progress) × HearsAll (HearsFar hears) old heard new × TellFloors p.game p.start heard
      × MatchResult result (IsHeardOn p heard) (λ refused. IsHeardAtMost p heard)
