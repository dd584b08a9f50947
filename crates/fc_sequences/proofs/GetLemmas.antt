-- Elements of a list that has one more, and lists that hold the elements of another.
use Rattle.std.proofs.Common.{◌≡◌, ◌≢◌, ◌⊎◌, ℕ, ◌+◌, ◌<◌, ◌≤◌, zero, suc, List, [], ◌∷◌, ◌++◌, length, get_or, take, drop, Some, refl, sym, ◌∙◌, ap, subst, inl, inr, ⊎_elim, zero-add, arith}
use Rattle.std.specs.Prelude.{slice_get, slice_set, All, AllPairs, Contains, OnOk, Result, Ok, Err}
use Rattle.fc_moves.specs.inner.GameLaws.{Contains-cases, Contains-first, Contains-later}

-- an element stays where it is
pub get_old : {X : Type 0} (xs ys : List X) (i : ℕ) (x : X) → slice_get xs i ≡ Some x → slice_get (xs ++ ys) i ≡ Some x
get_old [] ys i x e = absurd (cc e)
get_old (z ∷ zs) ys zero x e = e
get_old (z ∷ zs) ys (suc i) x e = get_old zs ys i x e

-- an element of a list that has one more was there, or is the new one
pub get_cases : {X : Type 0} (xs : List X) (y : X) (i : ℕ) (x : X) → slice_get (xs ++ y ∷ []) i ≡ Some x
    → (slice_get xs i ≡ Some x) ⊎ ((i ≡ length xs) × (y ≡ x))
get_cases [] y zero x e = inr (refl, cc e)
get_cases [] y (suc i) x e = absurd (cc e)
get_cases (z ∷ zs) y zero x e = inl e
get_cases (z ∷ zs) y (suc i) x e =
    ⊎_elim (λ found. inl found) (λ new. inr (ap suc new.0, new.1)) (get_cases zs y i x e)

-- the element at a place is at an earlier one past some
pub get_drop : {X : Type 0} (n : ℕ) (xs : List X) (i : ℕ) (x : X) → slice_get (drop n xs) i ≡ Some x → slice_get xs (n + i) ≡ Some x
get_drop zero xs i x e = ap (λ k. slice_get xs k) (zero-add i) ∙ e
get_drop (suc n) [] i x e = absurd (cc e)
get_drop (suc n) (z ∷ zs) i x e =
    let place : suc n + i ≡ suc (n + i) = omega arith in
    ap (λ k. slice_get (z ∷ zs) k) place ∙ get_drop n zs i x e

pub drop_get : {X : Type 0} (n : ℕ) (xs : List X) (i : ℕ) (x : X) → slice_get xs (n + i) ≡ Some x → slice_get (drop n xs) i ≡ Some x
drop_get zero xs i x e = ap (λ k. slice_get xs k) (sym (zero-add i)) ∙ e
drop_get (suc n) [] i x e = absurd (cc e)
drop_get (suc n) (z ∷ zs) i x e =
    let place : suc (n + i) ≡ suc n + i = omega arith in
    drop_get n zs i x (ap (λ k. slice_get (z ∷ zs) k) place ∙ e)

-- the element of a place where another was put, and of another place
pub get_set_same : {X : Type 0} (xs : List X) (i : ℕ) (x : X) → i < length xs → slice_get (slice_set xs i x) i ≡ Some x
get_set_same [] i x below = absurd (omega arith)
get_set_same (z ∷ zs) zero x below = refl
get_set_same (z ∷ zs) (suc i) x below = get_set_same zs i x (omega arith)

pub get_set_other : {X : Type 0} (xs : List X) (i j : ℕ) (x : X) → j ≢ i → slice_get (slice_set xs i x) j ≡ slice_get xs j
get_set_other [] i j x other = refl
get_set_other (z ∷ zs) zero zero x other = absurd (other refl)
get_set_other (z ∷ zs) zero (suc j) x other = refl
get_set_other (z ∷ zs) (suc i) zero x other = refl
get_set_other (z ∷ zs) (suc i) (suc j) x other = get_set_other zs i j x (λ same. other (ap suc same))

-- so many elements and the next one
pub take_next : {X : Type 0} (xs : List X) (n : ℕ) (x : X) → slice_get xs n ≡ Some x → take (suc n) xs ≡ take n xs ++ x ∷ []
take_next [] n x e = absurd (cc e)
take_next (z ∷ zs) zero x e = ap (λ y. y ∷ []) (cc e)
take_next (z ∷ zs) (suc n) x e = ap (λ l. z ∷ l) (take_next zs n x e)

-- of a list that has an element, the others are in one that is shorter by one
others_of : {X : Type 0} (y : X) (ys : List X) → Contains ys y
    → (zs : List X) × (length ys ≡ suc (length zs)) × ((x : X) → y ≢ x → Contains ys x → Contains zs x)
others_of y [] (k, below, e) = absurd (omega arith)
others_of y (z ∷ ys) held =
    ⊎_elim (λ same. (
      ys,
      refl,
      λ x other has. ⊎_elim (λ e. absurd (other (sym same ∙ e))) (λ later. later) (Contains-cases z ys x has),
    ))
    (λ later.
    let less = others_of y ys later in (
      z ∷ less.0,
      ap suc less.1,
      λ x other has.
          ⊎_elim (λ e. subst (Contains (z ∷ less.0)) e (Contains-first less.0 z)) (λ rest. Contains-later z less.0 x (less.2 x other rest))
          (Contains-cases z ys x has),
    ))
    (Contains-cases z ys y held)

-- no two of these elements are the same, and all are in a list, so it has as many at least
pub no_more : {X : Type 0} (xs ys : List X) → AllPairs (λ u v. u ≢ v) xs → All (Contains ys) xs → length xs ≤ length ys
no_more [] ys once held = omega arith
no_more (x ∷ xs) ys once held =
    let less = others_of x ys (held 0 x (omega arith)) in
    let rest = no_more xs less.0 (λ k l d before within. once (suc k) (suc l) d (omega arith) (omega arith))
    (λ k d within. less.2 (get_or xs k d) (once 0 (suc k) d (omega arith) (omega arith)) (held (suc k) d (omega arith))) in
    omega (arith, rest, less.1)

-- what holds holds where a result is right
pub on_ok : {A E : Type 0} (r : Result A E) (P : Type 0) → P → OnOk r P
on_ok (Ok x) P p = p
on_ok (Err e) P p = tt

-- a number that stands at a place
pub number_at : (xs : List ℕ) (i d : ℕ) → i < length xs → slice_get xs i ≡ Some (get_or xs i d)
number_at [] i d below = absurd (omega arith)
number_at (x ∷ xs) zero d below = refl
number_at (x ∷ xs) (suc i) d below = number_at xs i d (omega arith)
