-- The floors of rows, and what their certificates rest on.
use Rattle.std.proofs.Common.{rules, ◌≡◌, ◌≢◌, ℕ, suc, List, [], ◌∷◌, ◌++◌, true, false, Option, Some, None, refl, sym, ap, subst, arith}
use Rattle.std.specs.Prelude.{All, IfSome, IsSome}
use Rattle.fc_position.specs.Board.{Board}
use Rattle.fc_moves.specs.declared.steps.Move.{Move}
use Rattle.fc_moves.specs.GameRules.{GameRules}
use Rattle.fc_answers.specs.declared.answers.Outcome.{Outcome}
use Rattle.fc_answers.specs.declared.answers.Outcome.TheVariants as outcome
use Rattle.fc_answers.specs.declared.answers.Verdict.{Verdict}
use Rattle.fc_answers.specs.declared.answers.Verdict.TheVariants as verdict
use Rattle.fc_answers.specs.Verdict.{IsRight, outcome_of}
use Rattle.fc_best.specs.Answering.{HearsOfThem, HearsVerdict, IsSought, IsVerdictFor}
use Rattle.fc_best.specs.Best.{IsBest, IsFloor}
use Rattle.fc_best.specs.Watch.{IsSo, IsTold}
use Rattle.fc_methods.specs.Method.{QuestionData}
use Rattle.fc_search.specs.declared.listeners.Progress.{Progress}
use Rattle.fc_search.specs.Problem.{problem_of}
use Rattle.fc_search.specs.Watch.{Better, Far as how_far, Report, HearsAll, HearsFar, TellFloors}
use Rattle.fc_search.proofs.EndLemmas.{at_most_floors}
use Rattle.fc_board_runs.specs.Devices.{Device, IsUntouched}
use Rattle.fc_runs.specs.declared.answer_rows.Far.{Far}
use Rattle.fc_runs.specs.declared.answer_rows.Last.{Last}
use Rattle.fc_runs.specs.declared.answer_rows.Row.{Row}
use Rattle.fc_methods.specs.declared.methods.Sought.{Sought}
use Rattle.fc_methods.specs.declared.methods.Sought.TheVariants.{ByMethod, Best}
use Rattle.fc_runs.specs.Lists.{list_of}
use Rattle.fc_runs.specs.Rows.{IsAnswerOf, IsRowOf, IsToldIn, IsToldLast, KeepsFar, floor_of, told_floor}
use Rattle.fc_runs.specs.Solving.{IsCertified}
use Rattle.fc_runs.specs.inner.Rows.{LastKeeps}

-- what a listener of rows hears is kept
each_kept : (old new : Last) (heard : List Progress) → HearsAll (HearsFar LastKeeps) old heard new
    → HearsAll (HearsFar KeepsFar) old.far heard new.far
each_kept old new [] same = ap (λ (l : Last). l.far) same
each_kept old new (far ∷ heard) (mid, keeps, rest) = (mid.far, keeps, each_kept mid new heard rest)

all_kept : (old new : Last) (heard : List Report) → HearsAll LastKeeps old heard new → HearsAll KeepsFar old.far heard new.far
all_kept old new [] same = ap (λ (l : Last). l.far) same
all_kept old new (report ∷ heard) (mid, keeps, rest) = (mid.far, keeps, all_kept mid new heard rest)

pub part_kept : (sought : Sought) (q : QuestionData) (b : Board) (old new : Last) → HearsOfThem LastKeeps sought q b old new
    → HearsOfThem KeepsFar sought q b old.far new.far
part_kept ByMethod q b old new (heard, hears, before) = (heard, each_kept old new heard hears, before)
part_kept Best q b old new (heard, (hears, so, better)) = (heard, (all_kept old new heard hears, so, better))

pub end_kept : (sought : Sought) (q : QuestionData) (b : Board) (verdict : Verdict) (old new : Last)
    → HearsVerdict LastKeeps sought q b verdict old new → HearsVerdict KeepsFar sought q b verdict old.far new.far
end_kept ByMethod q b verdict old new (heard, hears, is) = (heard, each_kept old new heard hears, is)
end_kept Best q b verdict old new (front, far, (hears, so, better), told_of, listed) =
    (front, far, (all_kept old new (front ++ how_far far ∷ []) hears, so, better), told_of, listed)

-- who keeps what is told last of a board has a floor of it, if it has any
last_floor : (g : GameRules) (b : Board) (old new : Option Far) (heard : List Progress) → HearsAll (HearsFar KeepsFar) old heard new
    → TellFloors g b heard → IfSome (told_floor old) (IsFloor g b) → IfSome (told_floor new) (IsFloor g b)
last_floor g b old new [] same floors floor = subst (λ o. IfSome (told_floor o) (IsFloor g b)) (sym same) floor
last_floor g b old new (far ∷ heard) (mid, keeps, rest) (least, floors) floor =
    last_floor g b mid new heard rest floors (subst (λ o. IfSome (told_floor o) (IsFloor g b)) (sym keeps) least)

-- who keeps what is told last keeps something, once something was told
kept : (old new : Option Far) (heard : List Progress) → HearsAll (HearsFar KeepsFar) old heard new → IsSome old → IsSome new
kept old new [] same some = subst IsSome (sym same) some
kept old new (far ∷ heard) (mid, keeps, rest) some = kept mid new heard rest (subst IsSome (sym keeps) refl)

heard_last : (old new : Option Far) (heard : List Progress) → HearsAll (HearsFar KeepsFar) old heard new → heard ≢ [] → IsSome new
heard_last old new [] same some = absurd (some refl)
heard_last old new (far ∷ heard) (mid, keeps, rest) some = kept mid new heard rest (subst IsSome (sym keeps) refl)

-- so does who hears of the searches for a best answer
best_kept : (old new : Option Far) (heard : List Report) → HearsAll KeepsFar old heard new → IsSome old → IsSome new
best_kept old new [] same some = subst IsSome (sym same) some
best_kept old new (how_far far ∷ heard) (mid, keeps, rest) some = best_kept mid new heard rest (subst IsSome (sym keeps) refl)
best_kept old new (Better moves floor ∷ heard) (mid, keeps, rest) some = best_kept mid new heard rest (subst IsSome (sym keeps) some)

heard_end : (old new : Option Far) (heard : List Report) (far : Progress) → HearsAll KeepsFar old (heard ++ how_far far ∷ []) new → IsSome new
heard_end old new [] far (mid, keeps, rest) = best_kept mid new [] rest (subst IsSome (sym keeps) refl)
heard_end old new (first ∷ heard) far (mid, keeps, rest) = heard_end mid new heard far rest

-- and so has who keeps what is told last of the searches for a best answer
best_last_floor : (q : QuestionData) (b : Board) (old new : Option Far) (heard : List Report) → HearsAll KeepsFar old heard new
    → All (IsSo q b) heard → IfSome (told_floor old) (IsFloor q.game b) → IfSome (told_floor new) (IsFloor q.game b)
best_last_floor q b old new [] same so floor = subst (λ o. IfSome (told_floor o) (IsFloor q.game b)) (sym same) floor
best_last_floor q b old new (how_far far ∷ heard) (mid, keeps, rest) so floor =
    let first : IsTold q b far = so 0 (how_far far) (omega arith) in
    best_last_floor q b mid new heard rest (λ k d within. so (suc k) d (omega (arith, within)))
    (subst (λ o. IfSome (told_floor o) (IsFloor q.game b)) (sym keeps) first.least)
best_last_floor q b old new (Better moves least ∷ heard) (mid, keeps, rest) so floor =
    best_last_floor q b mid new heard rest (λ k d within. so (suc k) d (omega (arith, within)))
    (subst (λ o. IfSome (told_floor o) (IsFloor q.game b)) (sym keeps) floor)

-- whatever is sought, who keeps what is told last has a floor of the board, if it has any
pub heard_floor : (sought : Sought) (q : QuestionData) (b : Board) (old new : Option Far) → HearsOfThem KeepsFar sought q b old new
    → IfSome (told_floor old) (IsFloor q.game b) → IfSome (told_floor new) (IsFloor q.game b)
heard_floor ByMethod q b old new (heard, hears, before) floor =
    last_floor q.game b old new heard hears (at_most_floors (problem_of q b) heard before) floor
heard_floor Best q b old new (heard, (hears, so, better)) floor = best_last_floor q b old new heard hears so floor

-- and keeps something, once there is a verdict
heard_some : (sought : Sought) (q : QuestionData) (b : Board) (verdict : Verdict) (old new : Option Far)
    → HearsVerdict KeepsFar sought q b verdict old new → IsSome new
heard_some ByMethod q b verdict old new (heard, hears, is) = heard_last old new heard hears is.some
heard_some Best q b verdict old new (front, far, these, told_of, listed) = heard_end old new front far these.0

-- the floor that an answer tells of a board, if it tells any
answered_floor : Outcome → Option ℕ
answered_floor (outcome.Shortest count) = Some count
answered_floor (outcome.Won count least) = Some least
answered_floor outcome.CannotWin = None
answered_floor (outcome.GaveUp told) = None

right_floor : (g : GameRules) (parts times budget : ℕ) (b : Board) (verdict : Verdict) → IsRight g parts times b budget verdict
    → IfSome (answered_floor (outcome_of verdict)) (IsFloor g b)
unfolding answered_floor
right_floor g parts times budget b (verdict.Shortest moves) right = right.least
right_floor g parts times budget b (verdict.Won moves least) right = right.floor
right_floor g parts times budget b verdict.CannotWin right = tt
right_floor g parts times budget b (verdict.GaveUp told) right = tt

best_floor : (g : GameRules) (budget : ℕ) (b : Board) (verdict : Verdict) → IsBest g b budget verdict
    → IfSome (answered_floor (outcome_of verdict)) (IsFloor g b)
unfolding answered_floor
best_floor g budget b (verdict.Shortest moves) right = right.least
best_floor g budget b (verdict.Won moves least) (wins, floor, less) = floor
best_floor g budget b verdict.CannotWin right = tt
best_floor g budget b (verdict.GaveUp told) right = tt

sought_floor : (sought : Sought) (q : QuestionData) (b : Board) (verdict : Verdict) → IsSought sought q b verdict
    → IfSome (answered_floor (outcome_of verdict)) (IsFloor q.game b)
sought_floor ByMethod q b verdict is =
    right_floor q.game q.method.strategy.weight.parts q.method.strategy.weight.times q.method.strategy.budget b verdict is.right.right
sought_floor Best q b verdict is = best_floor q.game q.method.strategy.budget b verdict is.right

told_of_answer : (q : QuestionData) (b : Board) (cert : Option Device) (told : Outcome) (list : Option (List Move))
    → IsAnswerOf q b cert told list → IfSome (answered_floor told) (IsFloor q.game b)
told_of_answer q b cert told list is =
    subst (λ o. IfSome (answered_floor o) (IsFloor q.game b)) (sym is.answer) (sought_floor q.sought q b is.verdict is.decided)

-- the floor of a row: what its answer tells, and else what was told last
row_floor : (q : QuestionData) (b : Board) (cert : Option Device) (told : Option Outcome) (list : Option (List Move)) (far : Option Far)
    → IsToldIn q b cert told list → IfSome (told_floor far) (IsFloor q.game b) → IfSome (floor_of told far) (IsFloor q.game b)
unfolding answered_floor
row_floor q b cert None list far right floor = floor
row_floor q b cert (Some (outcome.GaveUp told)) list far right floor = floor
row_floor q b cert (Some outcome.CannotWin) list far right floor = tt
row_floor q b cert (Some (outcome.Shortest count)) list far right floor =
    told_of_answer q b cert (outcome.Shortest count) list right
row_floor q b cert (Some (outcome.Won count least)) list far right floor =
    told_of_answer q b cert (outcome.Won count least) list right

-- a row has the question's budget, and these parts
pub record HasParts (q : QuestionData) (answer : Option Outcome) (moves : Option (List Move)) (last : Option Far) (row : Row) : Type 0 where
  pub budget : row.budget ≡ q.method.strategy.budget
  pub told : row.told ≡ answer
  pub list : row.list ≡ moves
  pub far : row.far ≡ last

row_of_parts : (q : QuestionData) (b : Board) (cert : Option Device) (told : Option Outcome) (list : Option (List Move)) (far : Option Far)
    (row : Row) → HasParts q told list far row → IsToldIn q b cert told list → (IsSome told → IsSome far) → IsToldLast q b told far
    → IfSome (told_floor far) (IsFloor q.game b) → IsRowOf q b cert row
row_of_parts q b cert told list far row parts right searched heard floor =
    let with_list : IsToldIn q b cert told row.list = subst (λ o. IsToldIn q b cert told o) (sym parts.list) right in
    let with_told : IsToldIn q b cert row.told row.list = subst (λ o. IsToldIn q b cert o row.list) (sym parts.told) with_list in
    let with_far : IfSome (told_floor row.far) (IsFloor q.game b) = subst (λ o. IfSome (told_floor o) (IsFloor q.game b)) (sym parts.far) floor in
    record {
      budget = parts.budget;
      told = with_told;
      searched = λ some. subst IsSome (sym parts.far) (searched (subst IsSome parts.told some));
      heard = subst (IsToldLast q b row.told) (sym parts.far) (subst (λ o. IsToldLast q b o far) (sym parts.told) heard);
      floor = row_floor q b cert row.told row.list row.far with_told with_far;
    }

-- the row of a verdict that was sought
pub verdict_row : (q : QuestionData) (b : Board) (cert : Option Device) (verdict : Verdict) (far : Option Far) (row : Row)
    → HasParts q (Some (outcome_of verdict)) (list_of verdict) far row → IsVerdictFor q b verdict
    → IfSome cert (IsCertified (problem_of q b) verdict) → HearsVerdict KeepsFar q.sought q b verdict None far
    → IfSome (told_floor far) (IsFloor q.game b) → IsRowOf q b cert row
verdict_row q b cert verdict far row parts decided certified heard floor =
    row_of_parts q b cert (Some (outcome_of verdict)) (list_of verdict) far row parts
    record { verdict = verdict; decided = decided; certified = certified; answer = refl; listed = refl }
    (λ _. heard_some q.sought q b verdict None far heard) (verdict, refl, heard) floor

-- and that of want of memory
pub memory_row : (q : QuestionData) (b : Board) (cert : Option Device) (far : Option Far) (row : Row)
    → HasParts q None None far row → IfSome cert IsUntouched → HearsOfThem KeepsFar q.sought q b None far
    → IfSome (told_floor far) (IsFloor q.game b) → IsRowOf q b cert row
memory_row q b cert far row parts untouched heard floor =
    row_of_parts q b cert None None far row parts (refl, untouched)
    (λ some. let no : false ≡ true = some in absurd (search rules)) heard floor
