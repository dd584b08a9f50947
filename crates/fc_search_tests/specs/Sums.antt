-- A question of the tests' own: to reach a sum by adding 2 at a cost of 3, 4 at a cost of 4 and 6 at a cost of 9.
use Rattle.std.specs.Prelude.{◌≡◌, ℕ, ◌+◌, ◌-◌, ◌*◌, ◌<◌, ◌≤◌, ◌⊎◌, suc, zero, List, ◌++◌, option_to_list, Option, Some, None, true, nat_eq}
use Rattle.std.proofs.Common.{refl, subst, inl, inr, ⊎_elim, arith}
use Rattle.std.proofs.lemmas.Bool.{cases_lt}
use Rattle.std.proofs.lemmas.Bool.Decides.{nat_tests}
use Rattle.fc_best_first.specs.declared.spaces.Child.{Child}
use Rattle.fc_best_first.specs.Graph.{Graph, ReachedBy, IsLawful, IsClosedInside, Lists}

-- one addend: the sum that it leads to is no more than the goal, and a number of one byte
abbrev pub IsAddend : ℕ → ℕ → ℕ → ℕ → Type 0
IsAddend goal x c y =
    (y ≤ goal) × (((y ≡ x + 2) × (c ≡ 3)) ⊎ (((y ≡ x + 4) × (c ≡ 4)) ⊎ ((y ≡ x + 6) × (c ≡ 9)))) × (y ≤ 255)

-- so many addends lead from 0 to the sum at this cost
abbrev pub IsSum : ℕ → ℕ → ℕ → ℕ → Type 0
IsSum goal zero y cost = (y ≡ 0) × (cost ≡ 0)
IsSum goal (suc addends) y cost =
    (x : ℕ) × (d : ℕ) × (c : ℕ) × IsSum goal addends x d × IsAddend goal x c y × (cost ≡ d + c)

-- the question as a graph: no addend costs less than itself, so what is missing is a lower bound, which the sum itself shows; nor
-- more than one and twice itself
abbrev pub sums : ℕ → Graph ℕ
sums goal = record {
  starts = λ x d. (x ≡ 0) × (d ≡ 0);
  edge = IsAddend goal;
  bound = λ x. goal - x;
  shown = λ x bound note. (bound ≡ goal - x) × (note ≡ x);
  spare = λ x. 2 * (255 - x);
  won = λ x. x ≡ goal;
  wins = λ n. (addends : ℕ) × IsSum goal addends goal n;
}

pub number_exact : (x y : ℕ) → nat_eq x y ≡ true → x ≡ y
number_exact x y h = grind (arith, nat_tests)

sum_reached : (goal addends y d : ℕ) → ReachedBy addends (sums goal) y d → IsSum goal addends y d
sum_reached goal zero y d h = h
sum_reached goal (suc addends) y d (x, a, c, h, edge, e) = (x, a, c, sum_reached goal addends x a h, edge, e)

addend_bounds : (goal x c y : ℕ) → IsAddend goal x c y
    → (1 ≤ c) × (c + 2 * (255 - y) ≤ 1 + 2 * (255 - x)) × (goal - x ≤ c + (goal - y))
addend_bounds goal x c y (le, inl h, small) = (omega (arith, h.1), omega (arith, h.0, h.1, small), omega (arith, h.0, h.1, le))
addend_bounds goal x c y (le, inr (inl h), small) = (omega (arith, h.1), omega (arith, h.0, h.1, small), omega (arith, h.0, h.1, le))
addend_bounds goal x c y (le, inr (inr h), small) = (omega (arith, h.1), omega (arith, h.0, h.1, small), omega (arith, h.0, h.1, le))

abbrev IsLeft : ℕ → ℕ → List (ℕ × ℕ) → ℕ → ℕ → Type 0
IsLeft goal n table y d = (n ≤ d + (goal - y)) ⊎ Lists table y d

sum_left : (goal n : ℕ) (table : List (ℕ × ℕ)) → IsClosedInside (sums goal) n table → (addends y d : ℕ)
    → IsSum goal addends y d → IsLeft goal n table y d
sum_left goal n table closed zero y d h = closed.starts y d h
sum_left goal n table closed (suc addends) y d (x, a, c, h, edge, e) =
    let bounds = addend_bounds goal x c y edge in
    ⊎_elim
    (λ le. inl (omega (arith, le, bounds.2, e)))
    (λ listed. ⊎_elim
    (λ below. ⊎_elim
    (λ le. inl (omega (arith, le, listed.2, e)))
    (λ there. inr (there.0, there.1, omega (arith, there.2, listed.2, e)))
    (closed.edges x listed.0 c y listed.1 below edge))
    (λ above. inl (omega (arith, above, listed.2, bounds.2, e)))
    (cases_lt (listed.0 + (goal - x)) n))
    (sum_left goal n table closed addends x a h)

sum_closed : (goal n : ℕ) (table : List (ℕ × ℕ)) → IsClosedInside (sums goal) n table → (m : ℕ)
    → (sums goal).wins m → n ≤ m
sum_closed goal n table closed m (addends, h) =
    ⊎_elim
    (λ le. omega (arith, le))
    (λ listed. ⊎_elim
    (λ below. absurd (closed.not_won goal listed.0 listed.1 below refl))
    (λ above. omega (arith, above, listed.2))
    (cases_lt (listed.0 + (goal - goal)) n))
    (sum_left goal n table closed addends goal m h)

pub sums_lawful : (goal : ℕ) → IsLawful (sums goal)
sums_lawful goal = record {
  answers = λ x d reached won. (reached.0, subst (λ y. IsSum goal reached.0 y d) won (sum_reached goal reached.0 x d reached.1));
  closed = sum_closed goal;
  shown = λ x bound note h. omega (arith, h.0);
  edges = λ x c y edge. let b = addend_bounds goal x c y edge in (b.0, b.1);
  starts = λ x d start. omega (arith, start.1);
}

-- the child that an addend of this size and cost leads to; none where it would go past the goal
abbrev pub IsChildOf : ℕ → ℕ → ℕ → ℕ → Option (Child ℕ) → Type 0
IsChildOf goal x size cost None = goal < x + size
IsChildOf goal x size cost (Some child) =
    (child.key ≡ x + size) × (child.cost ≡ cost) × (x + size ≤ goal)

-- the children that three addends lead to, in their order
abbrev pub in_turn : Option (Child ℕ) → Option (Child ℕ) → Option (Child ℕ) → List (Child ℕ)
in_turn two four six = option_to_list two ++ (option_to_list four ++ option_to_list six)
