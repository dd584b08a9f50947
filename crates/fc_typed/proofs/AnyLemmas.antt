-- Whether a fact holds of one of a list's elements.
use Rattle.std.proofs.Common.{◌≡◌, ◌↔◌, zero, suc, ◌⊎◌, List, [], ◌∷◌, map, inl, inr, sym, subst, ⊎_elim, arith, refl}
use Rattle.std.specs.Prelude.{Contains}

-- the fact holds of one of them
abbrev pub AnyOf : {A : Type 0} → (A → Type 0) → List A → Type 0
AnyOf P [] = ⊥
AnyOf P (x ∷ xs) = P x ⊎ AnyOf P xs

-- which is the same by the words of the definitions
pub any_contained : {A : Type 0} (P : A → Type 0) (xs : List A) → AnyOf P xs → (x : A) × Contains xs x × P x
any_contained P [] any = absurd any
any_contained P (y ∷ xs) any = ⊎_elim
    (λ here. (y, (0, omega arith, refl), here))
    (λ there.
    let more = any_contained P xs there in
    let at = more.1 in
    let below = at.1 in
    (more.0, (suc at.0, omega arith, at.2), more.2)) any

pub contained_any : {A : Type 0} (P : A → Type 0) (xs : List A) (x : A) → Contains xs x → P x → AnyOf P xs
contained_any P [] x found so = absurd (omega (arith, found.1))
contained_any P (y ∷ xs) x (zero, within, same) so = inl (subst P (sym same) so)
contained_any P (y ∷ xs) x (suc k, within, same) so = inr (contained_any P xs x (k, omega arith, same) so)

-- elements that are made others
pub any_map : {A B : Type 0} (P : B → Type 0) (f : A → B) (xs : List A) → AnyOf P (map f xs) ↔ AnyOf (λ x. P (f x)) xs
any_map P f [] = (λ any. any, λ any. any)
any_map P f (x ∷ xs) =
    let more = any_map P f xs in
    (⊎_elim (λ here. inl here) (λ there. inr (more.0 there)), ⊎_elim (λ here. inl here) (λ there. inr (more.1 there)))

-- past a first element of which the fact doesn't hold, the others decide
pub any_next : {A : Type 0} (P : A → Type 0) (xs after all : List A) (x : A) → xs ≡ x ∷ after → (P x → ⊥)
    → AnyOf P xs ↔ AnyOf P all → AnyOf P after ↔ AnyOf P all
any_next P xs after all x first other so =
    let so' : AnyOf P (x ∷ after) ↔ AnyOf P all = subst (λ ys. AnyOf P ys ↔ AnyOf P all) first so in
    (λ any. so'.0 (inr any), λ any. ⊎_elim (λ here. absurd (other here)) (λ there. there) (so'.1 any))

-- a first element of which it holds decides
pub any_here : {A : Type 0} (P : A → Type 0) (xs after all : List A) (x : A) → xs ≡ x ∷ after → P x
    → AnyOf P xs ↔ AnyOf P all → AnyOf P all
any_here P xs after all x first yes' so = so.0 (subst (AnyOf P) (sym first) (inl yes'))

-- where none is left, it holds of none
pub any_none : {A : Type 0} (P : A → Type 0) (xs all : List A) → xs ≡ [] → AnyOf P xs ↔ AnyOf P all → AnyOf P all → ⊥
any_none P xs all none so any = subst (AnyOf P) none (so.1 any)
