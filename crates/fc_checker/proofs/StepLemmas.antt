-- Where moves lead, once settled: to look at one way, and at one move to each class, is enough.
use Rattle.std.proofs.Common.{◌≡◌, ℕ, ◌+◌, ◌≤◌, Bool, true, false, Option, Some, None, List, [], ◌∷◌, length, refl, sym, subst, inl, inr, ⊎_elim, arith, zero-add}
use Rattle.std.specs.Prelude.{IsTrue, ◌↔◌, Contains}
use Rattle.std.proofs.lemmas.Bool.{false≢true}
use Rattle.fc_position.specs.Board.{Board}
use Rattle.fc_position.specs.Position.{IsPosition}
use Rattle.fc_moves.specs.declared.steps.Move.{Move}
use Rattle.fc_moves.specs.GameRules.{GameRules}
use Rattle.fc_moves.specs.Step.{Step}
use Rattle.fc_moves.proofs.StepLemmas.{step_once}
use Rattle.fc_moves.specs.Class.{SameClass}
use Rattle.fc_canonical.specs.Distinct.{ListsClasses}
use Rattle.fc_canonical.specs.Spelled.{board_of_bytes}
use Rattle.fc_moves.proofs.ClassLemmas.{class-trans}
use Rattle.fc_home.specs.Settles.{Settles, SettlesBy}
use Rattle.fc_home.proofs.MateLemmas.{class_settle}
use Rattle.fc_home.proofs.WayLemmas.{settles_once}
use Rattle.fc_bound.specs.Kinds.{low_of}
use Rattle.fc_bound.proofs.KindLemmas.{bounds_lower}
use Rattle.fc_tables.specs.Table.{IsCoveredBelow, StepsCovered, StepsListed, as_boards}
use Rattle.fc_cert.specs.Content.{Content}
use Rattle.fc_checker.specs.Check.{Holds, StartHolds, StepsHold, level}
use Rattle.fc_checker.specs.inner.Steps.{SettledHolds, StepHolds}

-- what holds of a board does so of its class-mates
holds_alike : (c : Content) (by : Option ℕ) (x y : Board) (d : ℕ) → SameClass y x → Holds c by x d → Holds c by y d
holds_alike c (Some n) x y d same holds =
    ⊎_elim (λ far. let equal = (bounds_lower c.head.bound).1.alike y x same in inl (omega (arith, far, equal)))
    (λ (e, there, mate, le). inr (e, there, class-trans y x e.0 same mate, le)) holds
holds_alike c None x y d same (e, there, mate) = (e, there, class-trans y x e.0 same mate)

-- a board that settles by no move stays
pub stays : (g : GameRules) (rule : ℕ) (b q : Board) (ms : List Move) → length ms ≡ 0 → SettlesBy g rule b ms q → q ≡ b
stays g rule b q [] none settles = settles.0
stays g rule b q (m ∷ ms) none settles = absurd (omega arith)

-- a test is true where what it tells can't be refuted
pub told_by : (P : Type 0) (t : Bool) → IsTrue t ↔ P → ((P → ⊥) → ⊥) → IsTrue t
told_by P true test other = refl
told_by P false test other = absurd (other (λ p. false≢true (test.1 p)))

module _ (g : GameRules) (c : Content) where
  -- a position settles in one way
  pub settled_once : (b q : Board) (k d : ℕ) (t : Bool) → IsPosition b → Settles g c.head.rule b k q
      → IsTrue t ↔ Holds c (level c) q (d + k) → IsTrue t ↔ SettledHolds g c b d
  settled_once b q k d t position settles test = (
    λ true z n also.
        let once = settles_once g c.head.rule b q z k n position settles also in
        subst (λ i. Holds c (level c) z (d + i)) once.0 (subst (λ w. Holds c (level c) w (d + k)) once.1 (test.0 true)),
    λ all. test.1 (all q k settles),
  )

  -- a move leads to one board
  pub led_once : (x y : Board) (m : Move) (d : ℕ) (t : Bool) → Step g x m y → IsTrue t ↔ SettledHolds g c y (d + 1)
      → IsTrue t ↔ StepHolds g c x d m
  led_once x y m d t step test = (
    λ true w also. subst (λ b. SettledHolds g c b (d + 1)) (step_once g x m y w step also) (test.0 true),
    λ all. test.1 (all y step),
  )

  -- so it is enough to look at where that board settles to
  pub step_told : (x y z : Board) (m : Move) (d k : ℕ) (t : Bool) → IsPosition y → Step g x m y → Settles g c.head.rule y k z
      → IsTrue t ↔ Holds c (level c) z (d + 1 + k) → IsTrue t ↔ StepHolds g c x d m
  step_told x y z m d k t position step settles test = led_once x y m d t step (settled_once y z k (d + 1) t position settles test)

  -- of the moves to one class one is enough
  pub one_each : (x : Board) (d : ℕ) (moves : List Move) → ListsClasses g x moves
      → ((m : Move) → Contains moves m → StepHolds g c x d m) → (m : Move) → StepHolds g c x d m
  one_each x d moves lists each m y step z k settles =
      let other = lists.complete m y step in
      let mate = class_settle g c.head.rule y other.1 z k other.4 settles in
      holds_alike c (level c) mate.0 z (d + 1 + k) mate.2 (each other.0 other.2 other.1 other.3 mate.0 k mate.1)

  -- what is asked of the start is asked of where it settles to, after no move
  pub start_holds : (b : Board) → SettledHolds g c b 0 ↔ StartHolds g b c
  start_holds b = (
    λ holds q k settles. subst (Holds c (level c) q) (zero-add k) (holds q k settles),
    λ holds q k settles. subst (Holds c (level c) q) (sym (zero-add k)) (holds q k settles),
  )

  -- what is asked of the steps from a record's board holds where its cost and its bound reach the level
  pub far_steps : (x : Board) (key : List ℕ) (cost n : ℕ) → level c ≡ Some n → n ≤ cost + low_of c.head.bound x → x ≡ board_of_bytes key
      → StepsHold g c (level c) (key, cost)
  far_steps x key cost n e far same =
      subst (λ s. StepsHold g c s (key, cost)) (sym e)
      (λ near. let reach = subst (λ b. n ≤ cost + low_of c.head.bound b) same far in absurd (omega (arith, reach, near)))

  -- and where each of its moves leads to what holds
  pub held_steps : (x : Board) (key : List ℕ) (cost n : ℕ) → level c ≡ Some n → ((m : Move) → StepHolds g c x cost m) → x ≡ board_of_bytes key
      → StepsHold g c (level c) (key, cost)
  held_steps x key cost n e all same =
      subst (λ s. StepsHold g c s (key, cost)) (sym e)
      (λ near. subst (λ b. StepsCovered (IsCoveredBelow (low_of c.head.bound) n (as_boards c.rows)) g c.head.rule b cost) same
      (λ m y z k step settles. subst (λ s. Holds c s z (cost + 1 + k)) e (all m y step z k settles)))

  -- and else not
  pub near_steps : (x : Board) (key : List ℕ) (cost n : ℕ) → level c ≡ Some n → (n ≤ cost + low_of c.head.bound x → ⊥) → x ≡ board_of_bytes key
      → StepsHold g c (level c) (key, cost) → (m : Move) → StepHolds g c x cost m
  near_steps x key cost n e near same holds m y step z k settles =
      let all = subst (λ s. StepsHold g c s (key, cost)) e holds in
      let low = subst (λ b. n ≤ cost + low_of c.head.bound b → ⊥) same near in
      let covered = subst (λ b. StepsCovered (IsCoveredBelow (low_of c.head.bound) n (as_boards c.rows)) g c.head.rule b cost) (sym same) (all (omega (arith, low))) in
      subst (λ s. Holds c s z (cost + 1 + k)) (sym e) (covered m y z k step settles)

  pub listed_steps : (x : Board) (key : List ℕ) (cost : ℕ) (t : Bool) → level c ≡ None
      → IsTrue t ↔ ((m : Move) → StepHolds g c x cost m) → x ≡ board_of_bytes key → IsTrue t ↔ StepsHold g c (level c) (key, cost)
  listed_steps x key cost t e test same = (
    λ true. subst (λ s. StepsHold g c s (key, cost)) (sym e)
        (subst (StepsListed g c.head.rule (as_boards c.rows)) same
        (λ m y z k step settles. subst (λ s. Holds c s z (cost + 1 + k)) e (test.0 true m y step z k settles))),
    λ holds.
        let all = subst (λ s. StepsHold g c s (key, cost)) e holds in
        let listed = subst (StepsListed g c.head.rule (as_boards c.rows)) (sym same) all in
        test.1 (λ m y step z k settles. subst (λ s. Holds c s z (cost + 1 + k)) (sym e) (listed m y z k step settles)),
  )
