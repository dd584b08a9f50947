-- Lemmas on the tests' own question: its children.
use Rattle.std.proofs.Common.{◌≡◌, ℕ, ◌+◌, ◌≤◌, suc, zero, Some, None, Option, ◌++◌, refl, ap, subst, inl, inr, ⊎_elim, arith}
use Rattle.std.specs.Prelude.{Contains, option_to_list}
use Rattle.std.proofs.lemmas.List.Elements.{Contains-append_cases, Contains-append_left, Contains-append_right}
use Rattle.fc_best_first.specs.declared.spaces.Child.{Child}
use Rattle.fc_search_tests.specs.Sums.{IsChildOf, sums}
use Rattle.fc_best_first.specs.Turn.{AreChildren}

one_of : (o : Option (Child ℕ)) (child : Child ℕ) → Contains (option_to_list o) child → o ≡ Some child
one_of None child h = absurd (omega (arith, h.1))
one_of (Some other) child (zero, lt, e) = ap (λ c. Some c) e
one_of (Some other) child (suc k, lt, e) = absurd (omega (arith, lt))

is_one : (goal x size cost : ℕ) (o : Option (Child ℕ)) (child : Child ℕ) → IsChildOf goal x size cost o → o ≡ Some child
    → (child.key ≡ x + size) × (child.cost ≡ cost) × (child.key ≤ goal)
is_one goal x size cost o child h e =
    let own : IsChildOf goal x size cost (Some child) = subst (IsChildOf goal x size cost) e h in
    let key = own.0 in
    let le = own.2 in
    (own.0, own.1, omega (arith, key, le))

has_one : (goal x size cost : ℕ) (o : Option (Child ℕ)) → IsChildOf goal x size cost o → (c y : ℕ) → y ≤ goal
    → y ≡ x + size → c ≡ cost → (child : Child ℕ) × Contains (option_to_list o) child × (child.key ≡ y) × (child.cost ≤ c)
has_one goal x size cost None h c y le e f = absurd (omega (arith, h, le, e))
has_one goal x size cost (Some child) h c y le e f =
    let low : child.cost ≤ c = (let a = h.1 in omega (arith, a, f)) in
    let key : child.key ≡ y = (let a = h.0 in omega (arith, a, e)) in
    (child, (0, omega arith, refl), key, low)

pub sums_children : (goal x : ℕ) (a b c : Option (Child ℕ)) → goal ≤ 255 → IsChildOf goal x 2 3 a → IsChildOf goal x 4 4 b
    → IsChildOf goal x 6 9 c → AreChildren (sums goal) x (option_to_list a ++ (option_to_list b ++ option_to_list c))
sums_children goal x a b c few one two three = record {
  edges = λ child there. ⊎_elim
      (λ first.
      let h = is_one goal x 2 3 a child one (one_of a child first) in
      (h.2, inl (h.0, h.1), omega (arith, h.2, few)))
      (λ rest. ⊎_elim
      (λ second.
      let h = is_one goal x 4 4 b child two (one_of b child second) in
      (h.2, inr (inl (h.0, h.1)), omega (arith, h.2, few)))
      (λ third.
      let h = is_one goal x 6 9 c child three (one_of c child third) in
      (h.2, inr (inr (h.0, h.1)), omega (arith, h.2, few)))
      (Contains-append_cases (option_to_list b) (option_to_list c) child rest))
      (Contains-append_cases (option_to_list a) (option_to_list b ++ option_to_list c) child there);
  whole = λ cost y edge. ⊎_elim
      (λ h. let w = has_one goal x 2 3 a one cost y edge.0 h.0 h.1 in
      (w.0, Contains-append_left (option_to_list a) (option_to_list b ++ option_to_list c) w.0 w.1, w.2, w.3))
      (λ rest. ⊎_elim
      (λ h. let w = has_one goal x 4 4 b two cost y edge.0 h.0 h.1 in (
        w.0,
        Contains-append_right (option_to_list a) (option_to_list b ++ option_to_list c) w.0
            (Contains-append_left (option_to_list b) (option_to_list c) w.0 w.1),
        w.2,
        w.3,
      ))
      (λ h. let w = has_one goal x 6 9 c three cost y edge.0 h.0 h.1 in (
        w.0,
        Contains-append_right (option_to_list a) (option_to_list b ++ option_to_list c) w.0
            (Contains-append_right (option_to_list b) (option_to_list c) w.0 w.1),
        w.2,
        w.3,
      ))
      rest)
      edge.1;
}
