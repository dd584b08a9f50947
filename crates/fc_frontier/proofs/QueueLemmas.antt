-- Lemmas on queues: where a pair goes, and which pair comes first.
use Rattle.std.proofs.Common.{◌≡◌, ℕ, ◌+◌, ◌<◌, ◌≤◌, suc, true, false, leb, List, [], ◌∷◌, ◌++◌, length, get_or, take, drop, refl, sym, ◌∙◌, ap, subst, ⊎_elim, arith, add-one}
use Rattle.std.specs.Prelude.{◌==◌, ◌&&◌, cond, All, Option, Some, None, Result, Ok, Err, OnOk, OnErr, option_to_list, fold, remove, slice_index_or}
use Rattle.std.specs.List.Sorted.{IsPermutation}
use Rattle.std.proofs.lemmas.Bool.{cases_lt, cases_eq}
use Rattle.std.proofs.lemmas.Bool.Decides.{nat_tests}
use Rattle.std.proofs.lemmas.List.{append-nil, get_or_read, take-append-drop, drop_more, length-take, length-drop, get_or-take, get_or-drop}
use Rattle.std.proofs.lemmas.List.Sums.{fold_push, fold-append, sum_by-cons}
use Rattle.std.proofs.lemmas.List.Elements.{All-cons, All-head, All-tail, All-append, All-weaker}
use Rattle.std.proofs.lemmas.List.Sorted.{IsPermutation-refl, IsPermutation-sym, IsPermutation-trans, IsPermutation-cons, IsPermutation-middle, IsPermutation-append_left, length_permutation, All-permutation, sum_by-IsPermutation}
use Rattle.fc_frontier.specs.Queue.{Adds, IsLeast, with_pair, in_order}
use Rattle.fc_frontier.specs.inner.Queue.{IsPlaceOfLeast}
use Rattle.fc_frontier.specs.Laws.{AddsCountOnce, times}

-- a pair that has no greater f than the first goes before it, and else after it
pub inserted-before : (p q : ℕ × ℕ) (qs : List (ℕ × ℕ)) → p.0 ≤ q.0 → with_pair p (q ∷ qs) ≡ p ∷ q ∷ qs
inserted-before p q qs h =
    let test : leb p.0 q.0 ≡ true = grind (arith, nat_tests) in
    rw test refl

pub inserted-after : (p q : ℕ × ℕ) (qs : List (ℕ × ℕ)) → q.0 < p.0 → with_pair p (q ∷ qs) ≡ q ∷ with_pair p qs
inserted-after p q qs h =
    let test : leb p.0 q.0 ≡ false = grind (arith, nat_tests) in
    rw test refl

-- a pair of least f goes first
pub inserted-least : (p : ℕ × ℕ) (qs : List (ℕ × ℕ)) → IsLeast p qs → with_pair p qs ≡ p ∷ qs
inserted-least p [] least = refl
inserted-least p (q ∷ qs) least = inserted-before p q qs (All-head (λ o. p.0 ≤ o.0) q qs least)

-- pairs of lesser f stay in front
pub inserted-behind : (p : ℕ × ℕ) (xs ys : List (ℕ × ℕ)) → All (λ q. q.0 < p.0) xs
    → with_pair p (xs ++ ys) ≡ xs ++ with_pair p ys
inserted-behind p [] ys less = refl
inserted-behind p (x ∷ xs) ys less =
    inserted-after p x (xs ++ ys) (All-head (λ q. q.0 < p.0) x xs less)
    ∙ ap (λ rest. x ∷ rest) (inserted-behind p xs ys (All-tail (λ q. q.0 < p.0) x xs less))

-- pairs of no lesser f stay behind
pub inserted-in_front : (p : ℕ × ℕ) (xs ys : List (ℕ × ℕ)) → IsLeast p ys
    → with_pair p (xs ++ ys) ≡ with_pair p xs ++ ys
inserted-in_front p [] ys least = inserted-least p ys least
inserted-in_front p (x ∷ xs) ys least =
    ⊎_elim
    (λ after. inserted-after p x (xs ++ ys) after ∙ ap (λ rest. x ∷ rest) (inserted-in_front p xs ys least)
    ∙ ap (λ front. front ++ ys) (sym (inserted-after p x xs after)))
    (λ before. inserted-before p x (xs ++ ys) before ∙ ap (λ front. front ++ ys) (sym (inserted-before p x xs before)))
    (cases_lt x.0 p.0)

-- a pair that is put in is one pair more
pub inserted-adds : (p : ℕ × ℕ) (qs : List (ℕ × ℕ)) → Adds qs (with_pair p qs) p
inserted-adds p [] = IsPermutation-refl (p ∷ [])
inserted-adds p (q ∷ qs) =
    ⊎_elim
    (λ after. subst (IsPermutation (p ∷ q ∷ qs)) (sym (inserted-after p q qs after))
    (IsPermutation-trans (p ∷ q ∷ qs) (q ∷ p ∷ qs) (q ∷ with_pair p qs)
    (IsPermutation-sym (q ∷ p ∷ qs) (p ∷ q ∷ qs) (IsPermutation-middle (q ∷ []) p qs))
    (IsPermutation-cons q (p ∷ qs) (with_pair p qs) (inserted-adds p qs))))
    (λ before. subst (IsPermutation (p ∷ q ∷ qs)) (sym (inserted-before p q qs before)) (IsPermutation-refl (p ∷ q ∷ qs)))
    (cases_lt q.0 p.0)

pub inserted-adds_to : (p : ℕ × ℕ) (old new : List (ℕ × ℕ)) → new ≡ with_pair p old → Adds old new p
inserted-adds_to p old new e = subst (λ qs. Adds old qs p) (sym e) (inserted-adds p old)

-- the pairs that were pushed onto a queue stand in it with those that were there
pushed-permuted : (queue pushed : List (ℕ × ℕ))
    → IsPermutation (queue ++ pushed) (fold (λ queue pair. with_pair pair queue) queue pushed)
pushed-permuted queue [] = subst (IsPermutation (queue ++ [])) (grind (arith, append-nil {A = ℕ × ℕ})) (IsPermutation-refl (queue ++ []))
pushed-permuted queue (p ∷ ps) =
    IsPermutation-trans (queue ++ p ∷ ps) (p ∷ (queue ++ ps)) (fold (λ queue pair. with_pair pair queue) (with_pair p queue) ps)
    (IsPermutation-middle queue p ps)
    (IsPermutation-trans (p ∷ (queue ++ ps)) (with_pair p queue ++ ps)
    (fold (λ queue pair. with_pair pair queue) (with_pair p queue) ps)
    (IsPermutation-append_left ps (p ∷ queue) (with_pair p queue) (inserted-adds p queue))
    (pushed-permuted (with_pair p queue) ps))

pub in_order-permuted : (pushed : List (ℕ × ℕ)) → IsPermutation pushed (in_order pushed)
in_order-permuted pushed = pushed-permuted [] pushed

pub length-in_order : (pushed : List (ℕ × ℕ)) → length (in_order pushed) ≡ length pushed
length-in_order pushed = length_permutation pushed (in_order pushed) (in_order-permuted pushed)

-- one pair pushed
pub in_order-push : (p : ℕ × ℕ) (pushed : List (ℕ × ℕ)) → in_order (pushed ++ p ∷ []) ≡ with_pair p (in_order pushed)
in_order-push p pushed = fold_push (λ queue pair. with_pair pair queue) [] pushed p

-- pairs of greater f go behind the first
pushed-behind : (p : ℕ × ℕ) (queue ys : List (ℕ × ℕ)) → All (λ q. p.0 < q.0) ys
    → fold (λ queue pair. with_pair pair queue) (p ∷ queue) ys ≡ p ∷ fold (λ queue pair. with_pair pair queue) queue ys
pushed-behind p queue [] greater = refl
pushed-behind p queue (y ∷ ys) greater =
    ap (λ q. fold (λ queue pair. with_pair pair queue) q ys) (inserted-after y p queue (All-head (λ q. p.0 < q.0) y ys greater))
    ∙ pushed-behind p (with_pair y queue) ys (All-tail (λ q. p.0 < q.0) y ys greater)

-- the last pair of least f comes first
in_order-next : (p : ℕ × ℕ) (xs ys : List (ℕ × ℕ)) → IsLeast p xs → All (λ q. p.0 < q.0) ys
    → in_order (xs ++ p ∷ ys) ≡ p ∷ in_order (xs ++ ys)
in_order-next p xs ys least greater =
    let step : ℕ × ℕ → List (ℕ × ℕ) → List (ℕ × ℕ) = with_pair in
    fold-append (λ queue pair. with_pair pair queue) [] xs (p ∷ ys)
    ∙ ap (λ q. fold (λ queue pair. with_pair pair queue) q ys)
    (inserted-least p (in_order xs) (All-permutation (λ o. p.0 ≤ o.0) xs (in_order xs) (in_order-permuted xs) least))
    ∙ pushed-behind p (in_order xs) ys greater
    ∙ ap (λ q. p ∷ q) (sym (fold-append (λ queue pair. with_pair pair queue) [] xs ys))

-- the pairs without the one that is taken
pub in_order-remove : (pushed : List (ℕ × ℕ)) (i : ℕ) (p : ℕ × ℕ) → IsPlaceOfLeast pushed i → p ≡ slice_index_or pushed i p
    → in_order pushed ≡ p ∷ in_order (remove pushed i)
in_order-remove pushed i p place is =
    let split : pushed ≡ take i pushed ++ p ∷ drop (suc i) pushed =
    sym (take-append-drop i pushed) ∙ ap (λ rest. take i pushed ++ rest)
    (drop_more pushed i p place.within ∙ ap (λ x. x ∷ drop (i + 1) pushed) (sym is) ∙ ap (λ n. p ∷ drop n pushed) (add-one i)) in
    let least : IsLeast p (take i pushed) = λ k d below.
    let inside : k < i = omega (arith, length-take i pushed) in
    let outside : k < length pushed = omega (arith, place.within) in
    rw (get_or-take i pushed k d inside) (subst (λ x. x.0 ≤ (get_or pushed k d).0) (sym (get_or_read pushed i p place.within is d))
    (place.least k d outside)) in
    let greater : All (λ q. p.0 < q.0) (drop (suc i) pushed) = λ k d below.
    let outside : suc i + k < length pushed = omega (arith, length-drop (suc i) pushed) in
    rw (get_or-drop (suc i) pushed k d) (subst (λ x. x.0 < (get_or pushed (suc i + k) d).0) (sym (get_or_read pushed i p place.within is d))
    (place.last (suc i + k) d (omega arith) outside)) in
    ap in_order split ∙ in_order-next p (take i pushed) (drop (suc i) pushed) least greater

-- the pair that is taken has the least f of all
pub in_order-least : (pushed : List (ℕ × ℕ)) (i : ℕ) (p : ℕ × ℕ) → IsPlaceOfLeast pushed i → p ≡ slice_index_or pushed i p
    → IsLeast p (in_order pushed)
in_order-least pushed i p place is =
    All-permutation (λ o. p.0 ≤ o.0) pushed (in_order pushed) (in_order-permuted pushed)
    (λ k d below. subst (λ x. x.0 ≤ (get_or pushed k d).0) (sym (get_or_read pushed i p place.within is d)) (place.least k d below))

-- a queue out of which the first pair was taken
pub first-added : (p : ℕ × ℕ) (old new : List (ℕ × ℕ)) → old ≡ p ∷ new → Adds new old p
first-added p old new e = subst (IsPermutation (p ∷ new)) (sym e) (IsPermutation-refl (p ∷ new))

-- what holds of the pairs holds of the queue after a push, refused or not
pub pushed-all : {T E : Type 0} (P : ℕ × ℕ → Type 0) (r : Result T E) (p : ℕ × ℕ) (old new : List (ℕ × ℕ))
    → OnOk r (new ≡ with_pair p old) → OnErr r (new ≡ old) → P p → All P old → All P new
pushed-all P (Ok x) p old new order refused one all =
    subst (All P) (sym order) (All-permutation P (p ∷ old) (with_pair p old) (inserted-adds p old) (All-cons P p old one all))
pushed-all P (Err e) p old new order refused one all = subst (All P) (sym refused) all

-- what holds of the pairs holds of those that are left
pub taken-all : (P : ℕ × ℕ → Type 0) (r : Option (ℕ × ℕ)) (old new : List (ℕ × ℕ)) → old ≡ option_to_list r ++ new
    → All P old → All P new
taken-all P None old new order all = subst (All P) order all
taken-all P (Some p) old new order all = All-tail P p new (subst (All P) order all)

-- a pair of the near ones goes among them, one of the far ones behind them
pub pushed-near : (limit : ℕ) (p : ℕ × ℕ) (near far new : List (ℕ × ℕ)) → p.0 < limit → All (λ q. limit ≤ q.0) far
    → new ≡ with_pair p near → new ++ far ≡ with_pair p (near ++ far)
pushed-near limit p near far new below from is =
    ap (λ front. front ++ far) is
    ∙ sym (inserted-in_front p near far (All-weaker (λ q. limit ≤ q.0) (λ q. p.0 ≤ q.0) (λ q h. omega arith) far from))

pub pushed-far : (limit : ℕ) (p : ℕ × ℕ) (near far new : List (ℕ × ℕ)) → limit ≤ p.0 → All (λ q. q.0 < limit) near
    → new ≡ with_pair p far → near ++ new ≡ with_pair p (near ++ far)
pushed-far limit p near far new below from is =
    ap (λ back. near ++ back) is
    ∙ sym (inserted-behind p near far (All-weaker (λ q. q.0 < limit) (λ q. q.0 < p.0) (λ q h. omega arith) near from))

-- a pair of least f of the near ones has the least f of all
pub near-least : (limit : ℕ) (p : ℕ × ℕ) (near far rest : List (ℕ × ℕ)) → near ≡ p ∷ rest → All (λ q. q.0 < limit) near
    → All (λ q. limit ≤ q.0) far → IsLeast p near → IsLeast p (near ++ far)
near-least limit p near far rest is below from least =
    let small : p.0 < limit = All-head (λ q. q.0 < limit) p rest (subst (All (λ q. q.0 < limit)) is below) in
    All-append (λ q. p.0 ≤ q.0) near far least
    (All-weaker (λ q. limit ≤ q.0) (λ q. p.0 ≤ q.0) (λ q h. omega arith) far from)

-- two pairs that differ are told apart by their tests
apart_test : (a b c d : ℕ) → (a ≡ c → b ≡ d → ⊥) → ◌≡◌ {A = ℕ} (cond ((a == c) && (b == d)) 1 0) 0
apart_test a b c d apart =
    ⊎_elim (λ e. ⊎_elim (λ f. absurd (apart e f)) (λ ne. grind (arith, nat_tests)) (cases_eq b d))
    (λ ne. grind (arith, nat_tests)) (cases_eq a c)

same_pair : (p q : ℕ × ℕ) → p.0 ≡ q.0 → p.1 ≡ q.1 → q ≡ p
same_pair p q e f =
    let first : ◌≡◌ {A = ℕ × ℕ} q (p.0, q.1) = ap (λ k. (k, q.1)) (sym e) in
    let second : ◌≡◌ {A = ℕ × ℕ} (p.0, q.1) p = ap (λ k. (p.0, k)) (sym f) in
    first ∙ second

-- one pair more is that pair once more, and no other
pub adds_once : AddsCountOnce
adds_once old new pair other added =
    let one : ◌≡◌ {A = ℕ} (cond ((pair.0 == pair.0) && (pair.1 == pair.1)) 1 0) 1 = grind (arith, nat_tests) in (
      omega (arith, counted pair, one),
      λ apart. omega (arith, counted other, apart_test pair.0 pair.1 other.0 other.1 (λ e f. apart (same_pair pair other e f))),
    )
  where
    counted : (q : ℕ × ℕ) → times q new ≡ cond ((pair.0 == q.0) && (pair.1 == q.1)) 1 0 + times q old
    counted q = sum_by-IsPermutation (λ x. cond ((x.0 == q.0) && (x.1 == q.1)) 1 0) (pair ∷ old) new added
        ∙ sum_by-cons (λ x. cond ((x.0 == q.0) && (x.1 == q.1)) 1 0) pair old
