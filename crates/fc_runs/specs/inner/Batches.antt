-- What running several deals in turns promises, over any sink, within the crate.
use Rattle.std.specs.Prelude.{◌≡◌, ℕ, ◌+◌, ◌<◌, Some}
use Rattle.fc_deal.specs.Deal.{dealt_board}
use Rattle.fc_methods.specs.Method.{QuestionData}
use Rattle.fc_search.specs.Problem.{problem_of}
use Rattle.fc_best_first.specs.declared.turns.Status.TheVariants.{Running}
use Rattle.fc_search.specs.Search.{HasRun, State}
use Rattle.fc_batch.specs.Batch.{Batch, search_at}

-- the search of a deal: asked for its board, with the budget, and run on to where it stands
pub record IsSearchOf (q : QuestionData) (deal : ℕ) (s : State) : Type 0 where
  pub problem : s.problem ≡ problem_of q (dealt_board deal)
  pub ran : HasRun (problem_of q (dealt_board deal)) s.store s.status

-- a batch holds the searches of so many deals, rising from this one, under the numbers from 0
abbrev pub HoldsDeals : QuestionData → ℕ → ℕ → Batch → Type 0
HoldsDeals q from count batch =
    (i : ℕ) → i < count → (s : State) × (search_at batch i ≡ Some s) × IsSearchOf q (from + i) s

-- no search with one of the first numbers runs
abbrev pub HaveEnded : ℕ → Batch → Type 0
HaveEnded count batch = (i : ℕ) (s : State) → i < count → search_at batch i ≡ Some s → s.status ≡ Running → ⊥
