-- From a position that was given to the end of a run.
use Rattle.std.proofs.Common.{◌≡◌, ◌⊎◌, ◌∙◌, ap, inl, inr, ℕ, Option, Some, None, Result, Ok, Err, refl, subst}
use Rattle.std.specs.Prelude.{IfOk, IfErr, IfSome}
use Rattle.fc_position.specs.Board.{Board}
use Rattle.fc_moves.specs.GameRules.{GameRules}
use Rattle.fc_best_first.specs.Limits.{IsBudget}
use Rattle.fc_methods.specs.Method.{QuestionData, shortest_asked}
use Rattle.fc_search.proofs.AnswerLemmas.{one_of_three}
use Rattle.fc_board_runs.specs.declared.faults.ProgramFault.{ProgramFault}
use Rattle.fc_board_runs.specs.Devices.{Device, GivesBoard}
use Rattle.fc_runs.specs.Solving.{IsAnsweredFor, IsSolved, IsSolveFault, IsUnansweredFor}

-- something is lent, or nothing
pub is_lent : {A : Type 0} (o : Option A) → (o ≡ None) ⊎ ((x : A) × (o ≡ Some x))
is_lent None = inl refl
is_lent (Some x) = inr (x, refl)

-- the question that was asked, by the number that its home rule was made of
pub asked_by : (q : QuestionData) (g : GameRules) (rule given budget : ℕ) (known : Option ℕ) → q ≡ shortest_asked g rule budget
    → known ≡ Some rule → IfSome known (λ r. r ≡ given) → q ≡ shortest_asked g given budget
asked_by q g rule given budget known asked there value =
    asked ∙ ap (λ (r : ℕ). shortest_asked g r budget) (subst (λ o. IfSome o (λ r. r ≡ given)) there value)

pub solved : (g : GameRules) (rule budget : ℕ) (q : QuestionData) (n : ℕ) (source : Device) (cert : Option Device) (sink : Device) (start : Board)
    (result : Result ℕ ProgramFault) → q ≡ shortest_asked g rule budget → n ≡ g.cells → IsBudget budget → GivesBoard n source start
    → IfOk result (IsAnsweredFor q start cert sink) → IfOk result (IsSolved (shortest_asked g rule budget) source cert sink)
solved g rule budget q n source cert sink start (Ok status) asked cells budgeted given answered =
    let own = subst (λ (x : QuestionData). IsAnsweredFor x start cert sink status) asked answered in
    record {
      budgeted = budgeted;
      start = start;
      given = subst (λ m. GivesBoard m source start) cells given;
      answered = own;
      three = one_of_three g start budget own.verdict own.decided.right.right;
    }
solved g rule budget q n source cert sink start (Err fault) asked cells budgeted given answered = tt

pub unsolved : (g : GameRules) (rule budget : ℕ) (q : QuestionData) (n : ℕ) (source : Device) (cert : Option Device) (sink : Device) (start : Board)
    (result : Result ℕ ProgramFault) → q ≡ shortest_asked g rule budget → n ≡ g.cells → IsBudget budget → GivesBoard n source start
    → IfErr result (IsUnansweredFor q start cert sink) → IfErr result (IsSolveFault (shortest_asked g rule budget) source cert sink)
unsolved g rule budget q n source cert sink start (Ok status) asked cells budgeted given unanswered = tt
unsolved g rule budget q n source cert sink start (Err fault) asked cells budgeted given unanswered =
    inr (
      budgeted,
      (
        start,
        subst (λ m. GivesBoard m source start) cells given,
        subst (λ (x : QuestionData). IsUnansweredFor x start cert sink fault) asked unanswered,
      ),
    )
