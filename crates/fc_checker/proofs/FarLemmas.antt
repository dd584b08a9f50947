-- What is far stays so once settled: no move lowers the bound of a position by more than one.
use Rattle.std.proofs.Common.{◌≡◌, ◌≢◌, ℕ, ◌+◌, ◌-◌, ◌<◌, ◌≤◌, min, nat_lt, nat_le, IsTrue, IfSome, Option, None, Some, List, [], ◌∷◌, ◌++◌, length, refl, sym, subst, inl, ⊎_elim, arith}
use Rattle.std.proofs.lemmas.Bool.{cases_lt}
use Rattle.std.proofs.lemmas.Bool.Decides.{nat_tests}
use Rattle.fc_position.specs.Board.{Board, column, board_without, board_with}
use Rattle.fc_position.specs.Position.{IsPosition}
use Rattle.fc_cards.specs.declared.places.Place.{Place}
use Rattle.fc_cards.specs.declared.places.Place.TheVariants.{Column, Cell, Home}
use Rattle.fc_moves.specs.declared.steps.Move.{Move}
use Rattle.fc_moves.specs.GameRules.{GameRules}
use Rattle.fc_moves.specs.Run.{Run}
use Rattle.fc_moves.specs.Step.{Step}
use Rattle.fc_home.proofs.SettleLemmas.{settles_run}
use Rattle.fc_bound.specs.declared.kinds.BoundKind.{BoundKind}
use Rattle.fc_bound.specs.declared.kinds.BoundKind.TheVariants.{Plain, Clearing}
use Rattle.fc_bound.specs.Kinds.{guide_of, low_of}
use Rattle.fc_bound.specs.Clearing.{clearing_bound}
use Rattle.fc_bound.proofs.ClearingOrders.{cost-fronts, fronts-more, fronts-same}
use Rattle.fc_bound.proofs.ClearingSteps.{clearing_lowers}
use Rattle.fc_bound.proofs.HeldLemmas.{step_lowers, step_position}
use Rattle.fc_bound.proofs.KindLemmas.{guides_under}
use Rattle.fc_cert.specs.Content.{Content}
use Rattle.fc_checker.specs.Check.{Holds, level}
use Rattle.fc_checker.specs.inner.Steps.{StepHolds}

-- a move lowers the bound of a position by one at most
low_falls : (kind : BoundKind) (g : GameRules) (b c : Board) (m : Move) → IsPosition b → Step g b m c → low_of kind b ≤ low_of kind c + 1
low_falls Plain g b c m p step = step_lowers g b c m p step
low_falls Clearing g b c m p step = clearing_lowers g b c m p step

-- so moves do by as many as they are
low_runs : (kind : BoundKind) (g : GameRules) (b q : Board) (ms : List Move) → IsPosition b → Run g b ms q
    → low_of kind b ≤ low_of kind q + length ms
low_runs kind g b q [] p run = subst (λ x. low_of kind b ≤ low_of kind x + 0) (sym run) (omega arith)
low_runs kind g b q (m ∷ ms) p (mid, step, rest) =
    let one = low_falls kind g b mid m p step in
    let later = low_runs kind g mid q ms (step_position g b mid m p step) rest in
    omega arith

-- where a card in a cell goes anywhere but home, no less is to be cleared
cell_keeps : (b : Board) (i u : ℕ) (to : Place) → to ≢ Home → clearing_bound b ≤ clearing_bound (board_with (board_without b (Cell i)) u to)
unfolding clearing_bound
cell_keeps b i u (Column j) away =
    let more = cost-fronts b.columns (board_with (board_without b (Cell i)) u (Column j)).columns
    (fronts-more b.columns b.columns j (column b j ++ u ∷ []) (fronts-same b.columns) (u ∷ [], refl)) in
    omega (arith, more)
cell_keeps b i u (Cell j) away = omega arith
cell_keeps b i u Home away = absurd (away refl)

-- so by the clearing bound it is there no less than the bound that a search goes by was before
pub cell_after : (g : GameRules) (b y : Board) (m : Move) (i guide : ℕ) → IsPosition b → guide ≡ guide_of Clearing b → m.from ≡ Cell i → m.to ≢ Home
    → Step g b m y → guide ≤ low_of Clearing y
cell_after g b y m i guide p is from away step =
    let under = guides_under Clearing b p in
    let more = subst (λ f. clearing_bound b ≤ clearing_bound (board_with (board_without b f) step.card m.to)) (sym from) (cell_keeps b i step.card m.to away) in
    let after = subst (λ z. clearing_bound b ≤ clearing_bound z) (sym step.after) more in
    omega (arith, is, under, after)

-- and by each bound, what a search goes by there
guide_there : (kind : BoundKind) (g : GameRules) (b y : Board) (m : Move) (after : ℕ) → IsPosition b → after ≡ guide_of kind y → Step g b m y
    → after ≤ low_of kind y
guide_there kind g b y m after p is step =
    let under = guides_under kind y (step_position g b y m p step) in omega (arith, is, under)

pub told_after : (kind : BoundKind) (b : Board) (m : Move) (o : Option ℕ) → IsPosition b
    → IfSome o (λ after. (g : GameRules) (y : Board) → Step g b m y → m.to ≢ Home → after ≡ guide_of kind y)
    → IfSome o (λ after. (g : GameRules) (y : Board) → Step g b m y → m.to ≢ Home → after ≤ low_of kind y)
told_after kind b m None p told = told
told_after kind b m (Some after) p told = λ g y step away. guide_there kind g b y m after p (told g y step away) step

-- where a step that takes no card home leads to a bound that reaches the level, it holds, once settled
pub step_far : (g : GameRules) (c : Content) (x : Board) (m : Move) (d n after : ℕ) → IsPosition x → level c ≡ Some n → m.to ≢ Home
    → ((h : GameRules) (y : Board) → Step h x m y → m.to ≢ Home → after ≤ low_of c.head.bound y) → n ≤ d + 1 + after
    → StepHolds g c x d m
step_far g c x m d n after p e away told far y step z k (ms, count, settles) =
    let py = step_position g x y m p step in
    let least = told g y step away in
    let falls = low_runs c.head.bound g y z ms py (settles_run g c.head.rule y z ms settles) in
    subst (λ s. Holds c s z (d + 1 + k)) (sym e) (inl (omega (arith, least, falls, count, far)))

-- what a count that goes no further than asked says of the level
pub counted_within : (level moves most guide count : ℕ) → count ≤ guide → (count ≤ most → count ≡ guide) → count ≤ 104 → moves + 1 ≤ level
    → most ≡ min (level - (moves + 1)) 104 → (most < count → level ≤ moves + guide) × (level ≤ moves + guide → most < count)
counted_within level moves most guide count lower exact greatest near is = (
  λ past. omega (arith, lower, greatest, near, is, past),
  λ far. ⊎_elim (λ past. past) (λ le. let same = exact le in absurd (omega (arith, same, greatest, near, is, far, le))) (cases_lt most count),
)

-- what a test of numbers says
pub tested : (a b : ℕ) → IsTrue (nat_lt a b) → a < b
tested a b true = grind (arith, nat_tests)

pub tested_back : (a b : ℕ) → a < b → IsTrue (nat_lt a b)
tested_back a b lt = grind (arith, nat_tests)

pub tested_up : (a b : ℕ) → IsTrue (nat_le a b) → a ≤ b
tested_up a b true = grind (arith, nat_tests)
