-- Rearranged lists: where each place goes, and the same change made to both.
use Rattle.std.proofs.Common.{◌≡◌, ◌≢◌, ℕ, zero, suc, ◌+◌, ◌<◌, ◌≤◌, ◌⊎◌, Option, Some, None, List, [], ◌∷◌, length, set, get_or, cond, eqb, refl, sym, ◌∙◌, ap, subst, inl, inr, ⊎_elim, arith}
use Rattle.std.specs.Prelude.{swap, sum_by}
use Rattle.std.specs.List.Sorted.{IsPermutation}
use Rattle.std.proofs.lemmas.List.{get_or_default, get_or-set_same, get_or-set_other, length-set, same_lists, get_or_past}
use Rattle.std.proofs.lemmas.List.Edits.{length-swap, swapped_from_swap}
use Rattle.std.proofs.lemmas.List.Sorted.{IsPermutation-keeps, IsPermutation-trans, IsPermutation-swap, sum_by-IsPermutation, length_permutation}
use Rattle.std.proofs.lemmas.List.Sums.{sum_by-cons, sum_by-set}
use Rattle.std.proofs.lemmas.Bool.{cases_eq}
use Rattle.std.proofs.lemmas.Bool.Decides.{nat_tests}

-- where an exchange of two places takes a third
abbrev pub exchanged : ℕ → ℕ → ℕ → ℕ
exchanged i j k = cond (eqb k i) j (cond (eqb k j) i k)

exchanged_back : (i j k : ℕ) → exchanged i j (exchanged i j k) ≡ k
exchanged_back i j k = grind (arith, nat_tests)

exchanged_once : (i j k l : ℕ) → exchanged i j k ≡ exchanged i j l → k ≡ l
exchanged_once i j k l e = sym (exchanged_back i j k) ∙ ap (exchanged i j) e ∙ exchanged_back i j l

pub exchanged_below : (i j k n : ℕ) → i < n → j < n → k < n → exchanged i j k < n
exchanged_below i j k n a b c = grind (arith, nat_tests)

pub exchanged_first : (i j k : ℕ) → k ≡ i → exchanged i j k ≡ j
exchanged_first i j k e = grind (arith, nat_tests)

exchanged_second : (i j k : ℕ) → k ≡ j → exchanged i j k ≡ i
exchanged_second i j k e = grind (arith, nat_tests)

pub exchanged_other : (i j k : ℕ) → k ≢ i → k ≢ j → exchanged i j k ≡ k
exchanged_other i j k a b = grind (arith, nat_tests)

-- an exchange of places from a bound on takes no place below the bound
pub exchanged_least : (i j k bound : ℕ) → bound ≤ i → bound ≤ j → bound ≤ k → bound ≤ exchanged i j k
exchanged_least i j k bound a b c = grind (arith, nat_tests)

-- what stands where after an exchange
pub get_or-swap : {X : Type 0} (xs : List X) (i j k : ℕ) (d : X) → i < length xs → j < length xs
    → get_or (swap xs i j) k d ≡ get_or xs (exchanged i j k) d
get_or-swap xs i j k d a b =
    let s = swapped_from_swap xs (swap xs i j) i j d a b refl in
    ⊎_elim (λ e. ap (λ n. get_or (swap xs i j) n d) e ∙ s.0 ∙ ap (λ n. get_or xs n d) (sym (exchanged_first i j k e)))
    (λ ne. ⊎_elim
    (λ e. ap (λ n. get_or (swap xs i j) n d) e ∙ s.1 ∙ ap (λ n. get_or xs n d) (sym (exchanged_second i j k e)))
    (λ nf. s.2 k ne nf ∙ ap (λ n. get_or xs n d) (sym (exchanged_other i j k ne nf))) (cases_eq k j))
    (cases_eq k i)

-- an exchange after a change is the change, at the other place, after the exchange
set-swap : {X : Type 0} (xs : List X) (i j k : ℕ) (v : X) → i < length xs → j < length xs → k < length xs
    → set (swap xs i j) k v ≡ swap (set xs (exchanged i j k) v) i j
set-swap xs i j k v a b c =
    let to = exchanged i j k in
    let within : to < length xs = exchanged_below i j k (length xs) a b c in
    let long : length (set xs to v) ≡ length xs = length-set xs to v in
    let long_swap : length (swap xs i j) ≡ length xs = length-swap xs i j in
    same_lists (set (swap xs i j) k v) (swap (set xs to v) i j)
    (length-set (swap xs i j) k v ∙ long_swap ∙ sym long ∙ sym (length-swap (set xs to v) i j))
    (λ m d _. let other = get_or-swap (set xs to v) i j m d (omega (arith, long)) (omega (arith, long)) in
    ⊎_elim
    (λ e. let here : get_or (set (swap xs i j) k v) m d ≡ v =
    ap (λ n. get_or (set (swap xs i j) k v) n d) e ∙ get_or-set_same (swap xs i j) k v d (omega (arith, long_swap)) in
    let there : get_or (set xs to v) (exchanged i j m) d ≡ v =
    ap (λ n. get_or (set xs to v) (exchanged i j n) d) e ∙ get_or-set_same xs to v d within in
    here ∙ sym (other ∙ there))
    (λ ne. get_or-set_other (swap xs i j) k m v d ne ∙ get_or-swap xs i j m d a b
    ∙ sym (other ∙ get_or-set_other xs to (exchanged i j m) v d (λ q. ne (exchanged_once i j m k q))))
    (cases_eq m k))

-- each place of the one list has a place of its own in the other, where the same stands
pub record Renaming {X : Type 0} (xs ys : List X) : Type 0 where
  pub to : ℕ → ℕ
  pub long : length ys ≡ length xs
  pub below : (k : ℕ) → k < length xs → to k < length xs
  pub reads : (k : ℕ) (d : X) → get_or ys (to k) d ≡ get_or xs k d
  pub once : (k l : ℕ) → to k ≡ to l → k ≡ l

pub renaming : {X : Type 0} (xs ys : List X) → IsPermutation xs ys → Renaming xs ys
renaming xs ys p =
    IsPermutation-keeps xs (Renaming xs)
    (record { to = λ k. k; long = refl; below = λ k a. a; reads = λ k d. refl; once = λ k l e. e })
    (λ l i j a b r. record {
      to = λ k. exchanged i j (r.to k);
      long = length-swap l i j ∙ r.long;
      below = λ k c. exchanged_below i j (r.to k) (length xs) (omega (arith, r.long)) (omega (arith, r.long)) (r.below k c);
      reads = λ k d. get_or-swap l i j (exchanged i j (r.to k)) d a b
          ∙ ap (λ n. get_or l n d) (exchanged_back i j (r.to k)) ∙ r.reads k d;
      once = λ k m e. r.once k m (exchanged_once i j (r.to k) (r.to m) e);
    }) ys p

-- a change at one of two places where the same stands is the change at the other, and an exchange of the two
set-moved : {X : Type 0} (xs : List X) (i k : ℕ) (v : X) → i < length xs → k < length xs
    → ((d : X) → get_or xs k d ≡ get_or xs i d) → set xs k v ≡ swap (set xs i v) i k
set-moved xs i k v a c e =
    let one : length (set xs k v) ≡ length xs = length-set xs k v in
    let two : length (set xs i v) ≡ length xs = length-set xs i v in
    same_lists (set xs k v) (swap (set xs i v) i k) (one ∙ sym two ∙ sym (length-swap (set xs i v) i k))
    (λ m d _. let other = get_or-swap (set xs i v) i k m d (omega (arith, two)) (omega (arith, two)) in
    let at = λ (n : ℕ). get_or (set xs i v) n d in
    ⊎_elim
    (λ s. let here : get_or (set xs k v) m d ≡ v = ap (λ n. get_or (set xs k v) n d) s ∙ get_or-set_same xs k v d c in
    here ∙ sym (other ∙ ap at (exchanged_second i k m s) ∙ get_or-set_same xs i v d a))
    (λ ne. ⊎_elim
    (λ s. get_or-set_other xs k m v d ne ∙ ap (λ n. get_or xs n d) s ∙ sym (e d)
    ∙ sym (other ∙ ap at (exchanged_first i k m s) ∙ get_or-set_other xs i k v d (λ q. ne (s ∙ sym q))))
    (λ nf. get_or-set_other xs k m v d ne
    ∙ sym (other ∙ ap at (exchanged_other i k m nf ne) ∙ get_or-set_other xs i m v d nf))
    (cases_eq m i))
    (cases_eq m k))

-- the same change at places where the same stands
IsPermutation-set_same : {X : Type 0} (xs ys : List X) (i : ℕ) (v : X) → IsPermutation xs ys → i < length xs
    → (length ys ≡ length xs) × ((k : ℕ) → k < length xs → ((d : X) → get_or ys k d ≡ get_or xs i d)
    → IsPermutation (set xs i v) (set ys k v))
IsPermutation-set_same {X} xs ys i v p a =
    IsPermutation-keeps xs
    (λ l. (length l ≡ length xs) × ((k : ℕ) → k < length xs → ((d : X) → get_or l k d ≡ get_or xs i d) → IsPermutation (set xs i v) (set l k v))) (
      refl,
      λ k c e. IsPermutation-swap (set xs i v) (set xs k v) i k (rw length-set a) (rw length-set c)
          (set-moved xs i k v a c e),
    )
    (λ l x y b1 b2 q. (
      length-swap l x y ∙ q.0,
      λ k c e. let to = exchanged x y k in
          let within : to < length xs = exchanged_below x y k (length xs) (omega (arith, q.0)) (omega (arith, q.0)) c in
          let here : length (set l to v) ≡ length l = length-set l to v in
          IsPermutation-trans (set xs i v) (set l to v) (set (swap l x y) k v)
          (q.1 to within (λ d. sym (get_or-swap l x y k d b1 b2) ∙ e d))
          (IsPermutation-swap (set l to v) (set (swap l x y) k v) x y (omega (arith, here)) (omega (arith, here))
          (set-swap l x y k v b1 b2 (omega (arith, q.0)))),
    )) ys p

-- the same change at places where the same stands keeps a rearrangement
pub IsPermutation-set : {X : Type 0} (xs ys : List X) (i k : ℕ) (e v w : X) → IsPermutation xs ys → i < length xs
    → k < length ys → get_or xs i e ≡ get_or ys k e → v ≡ w → IsPermutation (set xs i v) (set ys k w)
IsPermutation-set xs ys i k e v w p a c same eq =
    let both = IsPermutation-set_same xs ys i v p a in
    subst (λ x. IsPermutation (set xs i v) (set ys k x)) eq
    (both.1 k (omega (arith, both.0))
    (λ d. get_or_default ys k d e c ∙ sym same ∙ get_or_default xs i e d a))

-- how many of a list of options hold something
abbrev pub one_full : Option ℕ → ℕ
one_full None = 0
one_full (Some x) = 1

one_full_most : (x : Option ℕ) → one_full x ≤ 1
one_full_most None = omega arith
one_full_most (Some x) = omega arith

-- where the options from n on are empty, at most n are full
pub full_most : (n : ℕ) (xs : List (Option ℕ)) → ((i : ℕ) → n ≤ i → get_or xs i None ≡ None) → sum_by one_full xs ≤ n
full_most n [] fits = omega arith
full_most zero (x ∷ xs) fits =
    let none : one_full x ≡ 0 = ap one_full (fits 0 (omega arith)) in
    omega (arith, sum_by-cons one_full x xs, none, full_most zero xs (λ i a. fits (suc i) (omega arith)))
full_most (suc n) (x ∷ xs) fits =
    let few : one_full x ≤ 1 = one_full_most x in
    omega (arith, sum_by-cons one_full x xs, few, full_most n xs (λ i a. fits (suc i) (omega arith)))

-- one of the first n is empty, or as many are full as n, or as there are
find_empty : (n : ℕ) (xs : List (Option ℕ)) → ((k : ℕ) × (k < n) × (k < length xs) × (get_or xs k None ≡ None))
    ⊎ ((n ≤ sum_by one_full xs) ⊎ (length xs ≤ sum_by one_full xs))
find_empty n [] = inr (inr (omega arith))
find_empty zero (x ∷ xs) = inr (inl (omega arith))
find_empty (suc n) (None ∷ xs) = inl (0, omega arith, omega arith, refl)
find_empty (suc n) (Some c ∷ xs) =
    let more : sum_by one_full (Some c ∷ xs) ≡ 1 + sum_by one_full xs = sum_by-cons one_full (Some c) xs in
    ⊎_elim (λ f. inl (suc f.0, omega (arith, f.1), omega (arith, f.2), f.3))
    (λ f. ⊎_elim (λ a. inr (inl (omega arith))) (λ a. inr (inr (omega arith))) f) (find_empty n xs)

-- where one of the first n is empty, one of the first n of a rearrangement is, if both are empty from n on
pub empty_of_rearranged : (n : ℕ) (xs ys : List (Option ℕ)) (j : ℕ) → IsPermutation xs ys
    → ((i : ℕ) → n ≤ i → get_or xs i None ≡ None) → j < n → j < length xs → get_or xs j None ≡ None
    → (k : ℕ) × (k < n) × (k < length ys) × (get_or ys k None ≡ None)
empty_of_rearranged n xs ys j p fits below there empty =
    let filled = set xs j (Some 0) in
    let fits_filled : (i : ℕ) → n ≤ i → get_or filled i None ≡ None = λ i a.
    get_or-set_other xs j i (Some 0) None (λ e. omega (arith, e)) ∙ fits i a in
    let none : one_full (get_or xs j None) ≡ 0 = ap one_full empty in
    let more = sum_by-set one_full xs j (Some 0) None there in
    let long : length filled ≡ length xs = length-set xs j (Some 0) in
    let same = sum_by-IsPermutation one_full xs ys p in
    let size = length_permutation xs ys p in
    ⊎_elim (λ f. f)
    (λ f. absurd (⊎_elim
    (λ a. omega (arith, more, none, same, full_most n filled fits_filled))
    (λ a. omega (arith, more, none, same, size, long, full_most (length filled) filled (λ i b. get_or_past filled i None b))) f))
    (find_empty n ys)
