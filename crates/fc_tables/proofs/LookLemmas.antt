-- To look at one position of each listed class is enough, and at one step to each class.
use Rattle.std.proofs.Common.{ℕ, ◌+◌, subst, inl, inr, ⊎_elim, arith}
use Rattle.fc_position.specs.Board.{Board}
use Rattle.fc_position.specs.Position.{IsPosition}
use Rattle.fc_moves.specs.declared.steps.Move.{Move}
use Rattle.fc_moves.specs.GameRules.{GameRules, IsPositionOf}
use Rattle.fc_moves.specs.Step.{Step}
use Rattle.fc_moves.proofs.StepLemmas.{step_keeps}
use Rattle.fc_moves.specs.Class.{SameClass}
use Rattle.fc_moves.proofs.ClassLemmas.{class-refl, class-sym, class-trans, class_step}
use Rattle.fc_home.specs.Settles.{Settles}
use Rattle.fc_home.proofs.MateLemmas.{class_settle}
use Rattle.fc_home.proofs.EveryLemmas.{every_settles}
use Rattle.fc_home.proofs.WayLemmas.{settles_once}
use Rattle.fc_tables.specs.Laws.{OneBoardOfAClassIsEnough, OneBoardIsEnoughWithoutBound, ClosedBelowIsSeen, ClosedIsSeen}
use Rattle.fc_tables.specs.Table.{Table, ListsClass, IsCoveredBelow}
use Rattle.fc_bound.specs.LowerBound.{IsLowerBound}

-- what is listed, or covered, is so for its whole class
class-listed : (T : Table) (x y : Board) → SameClass x y → ListsClass T x → ListsClass T y
class-listed T x y s (e, listed, same) = (e, listed, class-trans y x e.0 (class-sym x y s) same)

class-covered : (low : Board → ℕ) (n : ℕ) (T : Table) (x y : Board) (d : ℕ) → IsLowerBound low → SameClass x y → IsCoveredBelow low n T x d → IsCoveredBelow low n T y d
class-covered low n T x y d lower s covered =
    ⊎_elim (λ far. let equal = lower.alike x y s in inl (omega (arith, far, equal)))
    (λ (e, listed, same, cost). inr (e, listed, class-trans y x e.0 (class-sym x y s) same, cost)) covered

-- something that holds of what one board settles to, and of whole classes, holds of what its class-mates settle to
settled-mate : (P : ℕ → Board → Type 0) (g : GameRules) (rule : ℕ) (x y z w : Board) (k l : ℕ)
    → ((n : ℕ) (b c : Board) → SameClass b c → P n b → P n c) → IsPosition y → SameClass x y → Settles g rule x k z → P k z
    → Settles g rule y l w → P l w
settled-mate P g rule x y z w k l mates py s settles holds also =
    let mate = class_settle g rule x y z k s settles in
    let once = settles_once g rule y mate.0 w k l py mate.1 also in
    subst (λ n. P n w) once.0 (subst (P k) once.1 (mates k z mate.0 mate.2 holds))

-- so for something that holds of whole classes: of each class that the steps of a board lead to it holds once settled,
-- exactly where it holds of all that the steps of a class-mate lead to, once settled
looked : (P : ℕ → Board → Type 0) (g : GameRules) (rule : ℕ) (x y : Board)
    → ((n : ℕ) (b c : Board) → SameClass b c → P n b → P n c) → IsPositionOf g x → IsPositionOf g y → SameClass x y
    → ((m : Move) (u : Board) → Step g x m u
    → (l : Move) × (w z : Board) × (k : ℕ) × Step g x l w × SameClass u w × Settles g rule w k z × P k z)
    → (m : Move) (u z : Board) (k : ℕ) → Step g y m u → Settles g rule u k z → P k z
looked P g rule x y mates px py s each m u z k step settles =
    let mate = class_step g y x u m py px (class-sym x y s) step in
    let one = each mate.0 mate.1 mate.2 in
    let same = class-trans u mate.1 one.1 mate.3 one.5 in
    let pu = step_keeps g y u m py step in
    settled-mate P g rule one.1 u one.2 z one.3 k mates pu.position (class-sym u one.1 same) one.6 one.7 settles

shown : (P : ℕ → Board → Type 0) (g : GameRules) (rule : ℕ) (x y : Board)
    → ((n : ℕ) (b c : Board) → SameClass b c → P n b → P n c) → IsPositionOf g x → IsPositionOf g y → SameClass x y
    → ((m : Move) (u z : Board) (k : ℕ) → Step g y m u → Settles g rule u k z → P k z)
    → (m : Move) (u : Board) → Step g x m u
    → (l : Move) × (w z : Board) × (k : ℕ) × Step g x l w × SameClass u w × Settles g rule w k z × P k z
shown P g rule x y mates px py s all m u step =
    let mate = class_step g x y u m px py s step in
    let pu = step_keeps g x u m px step in
    let way = every_settles g rule u in
    let other = class_settle g rule u mate.1 way.1 way.0 mate.3 way.2 in
    let holds = all mate.0 mate.1 other.0 way.0 mate.2 other.1 in
    (m, u, way.1, way.0, step, class-refl u, way.2, mates way.0 other.0 way.1 (class-sym way.1 other.0 other.2) holds)

pub one_enough : OneBoardOfAClassIsEnough
one_enough low g rule n T x y d lower px py s = (
  looked (λ k z. IsCoveredBelow low n T z (d + 1 + k)) g rule x y (λ k b c same. class-covered low n T b c (d + 1 + k) lower same) px py s,
  shown (λ k z. IsCoveredBelow low n T z (d + 1 + k)) g rule x y (λ k b c same. class-covered low n T b c (d + 1 + k) lower same) px py s,
)

pub one_enough_listed : OneBoardIsEnoughWithoutBound
one_enough_listed g rule T x y px py s = (
  looked (λ k z. ListsClass T z) g rule x y (λ k b c same. class-listed T b c same) px py s,
  shown (λ k z. ListsClass T z) g rule x y (λ k b c same. class-listed T b c same) px py s,
)

pub seen_below : ClosedBelowIsSeen
seen_below low g rule p n T lower pp fitting = (
  λ seen. record {
    not_won = seen.not_won;
    start = λ q k settles.
        let way = seen.start in
        settled-mate (λ j z. IsCoveredBelow low n T z j) g rule p p way.0 q way.1 k (λ j b c same. class-covered low n T b c j lower same)
        pp.position (class-refl p) way.2 way.3 settles;
    steps = λ e x listed px same inside.
        let pe = fitting e x listed px same in
        let equal = lower.alike x e.0 same in
        (one_enough low g rule n T e.0 x e.1 lower pe px (class-sym x e.0 same)).0 (seen.steps e listed pe (omega (arith, inside, equal)));
  },
  λ closed. record {
    not_won = closed.not_won;
    start = let way = every_settles g rule p in (way.1, way.0, way.2, closed.start way.1 way.0 way.2);
    steps = λ e listed pe inside.
        (one_enough low g rule n T e.0 e.0 e.1 lower pe pe (class-refl e.0)).1 (closed.steps e e.0 listed pe (class-refl e.0) inside);
  },
)

pub seen_closed : ClosedIsSeen
seen_closed g rule p T pp fitting = (
  λ seen. record {
    not_won = seen.not_won;
    start = λ q k settles.
        let way = seen.start in
        settled-mate (λ j z. ListsClass T z) g rule p p way.0 q way.1 k (λ j b c same. class-listed T b c same)
        pp.position (class-refl p) way.2 way.3 settles;
    steps = λ e x listed px same.
        let pe = fitting e x listed px same in
        (one_enough_listed g rule T e.0 x pe px (class-sym x e.0 same)).0 (seen.steps e listed pe);
  },
  λ closed. record {
    not_won = closed.not_won;
    start = let way = every_settles g rule p in (way.1, way.0, way.2, closed.start way.1 way.0 way.2);
    steps = λ e listed pe.
        (one_enough_listed g rule T e.0 e.0 pe pe (class-refl e.0)).1 (closed.steps e e.0 listed pe (class-refl e.0));
  },
)
