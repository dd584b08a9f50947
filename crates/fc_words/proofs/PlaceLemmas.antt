-- Names of a table, by their places.
use Rattle.std.proofs.Common.{rules, arith, ◌≡◌, ◌≢◌, ◌↔◌, ℕ, zero, suc, ap, sym, ◌∙◌, refl, true, false, List, [], ◌∷◌, Option, Some, None, option_map, is_some, slice_get, get_or, take, drop, take_all, ◌+◌, ◌-◌, ◌<◌, ◌≤◌, ⊎_elim, length, Bor, subst, unwrap_or, IsTrue, IfSome, IfNone}
use Rattle.std.proofs.lemmas.Bool.{cases_lt}
use Rattle.std.proofs.lemmas.Option.{slice_get-get_or, slice_get_past}

-- a name at a place of a table
abbrev named : List (Bor (List ℕ)) → ℕ → List ℕ → Type 0
named names i name = option_map (λ s. s.now) (slice_get names i) ≡ Some name

pub named_at : (names : List (Bor (List ℕ))) (i : ℕ) (name : List ℕ) (d : Bor (List ℕ)) → i < length names → (get_or names i d).now ≡ name → named names i name
named_at names i name d below e = rw (slice_get-get_or names i d below) (ap Some e)

-- what is named at a place is the name there
name_at : (names : List (Bor (List ℕ))) (i : ℕ) (name : List ℕ) (d : Bor (List ℕ)) → i < length names → named names i name → (get_or names i d).now ≡ name
name_at names i name d below at =
    ap (λ o. unwrap_or o []) (subst (λ o. option_map (λ s. s.now) o ≡ Some name) (slice_get-get_or names i d below) at)

pub named_before : (names : List (Bor (List ℕ))) (i : ℕ) (name : List ℕ) (d : Bor (List ℕ)) → i < length names
    → ((k : ℕ) → k < i → named names k name → ⊥) → (get_or names i d).now ≢ name → (k : ℕ) → k < i + 1 → named names k name → ⊥
named_before names i name d below before other k k< at = ⊎_elim (λ lt. before k lt at)
    (λ ge. other (name_at names i name d below (subst (λ j. named names j name) (omega (arith, k<, ge)) at)))
    (cases_lt k i)

pub named_past : (names : List (Bor (List ℕ))) (i : ℕ) (name : List ℕ) → length names ≤ i
    → ((k : ℕ) → k < i → named names k name → ⊥) → (k : ℕ) → named names k name → ⊥
named_past names i name past before k at = ⊎_elim (λ lt. before k lt at)
    (λ ge. let none = slice_get_past names k (omega (arith, past, ge)) in
    let bad : None ≡ Some name = subst (λ o. option_map (λ s. s.now) o ≡ Some name) none at in absurd (search rules))
    (cases_lt k i)

slice_get-drop : {X : Type 0} (n : ℕ) (xs : List X) (i j : ℕ) → j ≡ n + i → slice_get (drop n xs) i ≡ slice_get xs j
slice_get-drop zero xs i j e = let same : i ≡ j = omega arith in ap (slice_get xs) same
slice_get-drop (suc n) [] i j e = refl
slice_get-drop (suc n) (x ∷ xs) i zero e = absurd (omega arith)
slice_get-drop (suc n) (x ∷ xs) i (suc j) e = slice_get-drop n xs i j (omega arith)

-- a name at no place behind the first one is there once
once : (names : List (Bor (List ℕ))) (i : ℕ) (name : List ℕ) → ((k : ℕ) → k < i → named names k name → ⊥)
    → ((k : ℕ) → named (drop (i + 1) names) k name → ⊥) → (j : ℕ) → named names j name → j ≡ i
once names i name before behind j at = ⊎_elim (λ lt. absurd (before j lt at))
    (λ ge. ⊎_elim (λ past. absurd (behind (j - (i + 1))
    (subst (λ o. option_map (λ s. s.now) o ≡ Some name) (sym (slice_get-drop (i + 1) names (j - (i + 1)) j (omega (arith, past)))) at)))
    (λ same. omega (arith, ge, same))
    (cases_lt i j))
    (cases_lt j i)

-- all that is behind a place
all_behind : {X : Type 0} (n m : ℕ) (xs : List X) → m ≡ length xs - n → take m (drop n xs) ≡ drop n xs
all_behind zero m xs e = take_all m xs (omega (arith, e))
all_behind (suc n) m [] e = take_all m [] (omega arith)
all_behind (suc n) m (x ∷ xs) e = all_behind n m xs (omega (arith, e))

-- what is behind a place
abbrev pub behind : List (Bor (List ℕ)) → ℕ → List (Bor (List ℕ))
behind names i = take (length names - (i + 1)) (drop (i + 1) names)

-- whether a name stands behind its first place says whether it is there twice
pub twice : (names : List (Bor (List ℕ))) (i : ℕ) (name : List ℕ) (found : Option ℕ) → named names i name
    → ((k : ℕ) → k < i → named names k name → ⊥)
    → IfSome found (λ k. named (behind names i) k name) → IfNone found ((k : ℕ) → named (behind names i) k name → ⊥)
    → IsTrue (is_some found) ↔ (((a b : ℕ) → named names a name → named names b name → a ≡ b) → ⊥)
twice names i name (Some k) at before there none =
    let whole = all_behind (i + 1) (length names - (i + 1)) names refl in
    let later : named names (i + 1 + k) name = subst (λ o. option_map (λ s. s.now) o ≡ Some name) (slice_get-drop (i + 1) names k (i + 1 + k) refl)
    (subst (λ xs. named xs k name) whole there) in
    (λ _ unique. let same : i ≡ i + 1 + k = unique i (i + 1 + k) at later in absurd (omega (arith, same)), λ _. refl)
twice names i name None at before there none =
    let whole = all_behind (i + 1) (length names - (i + 1)) names refl in
    let never : (k : ℕ) → named (drop (i + 1) names) k name → ⊥ = subst (λ xs. (k : ℕ) → named xs k name → ⊥) whole none in (
      λ bad. let no : false ≡ true = bad in absurd (search rules),
      λ not. absurd (not (λ a b at_a at_b. once names i name before never a at_a ∙ sym (once names i name before never b at_b))),
    )
