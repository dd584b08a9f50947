-- What the clearing cost of other columns is: of columns in another order, of columns with more cards, and of those
-- without one card.
use Rattle.std.proofs.Common.{◌≡◌, ℕ, ◌+◌, ◌-◌, ◌<◌, ◌≤◌, zero, suc, Bool, true, false, cond, Option, Some, None, List, [], ◌∷◌, ◌++◌, length, get_or, set, take, refl, sym, ◌∙◌, ap, subst, ⊎_elim, arith}
use Rattle.std.specs.Prelude.{◌||◌, count_by, slice_index, nat_lt}
use Rattle.std.specs.List.{list_any}
use Rattle.std.specs.List.Sorted.{IsPermutation}
use Rattle.std.proofs.lemmas.List.{append-nil, length-append}
use Rattle.std.proofs.lemmas.List.Folds.{list_any-append}
use Rattle.std.proofs.lemmas.List.Sums.{sum_by-cons}
use Rattle.std.proofs.lemmas.List.Sorted.{IsPermutation-sym, list_any-IsPermutation, sum_by-IsPermutation}
use Rattle.fc_cards.specs.Card.{rank, suit, all_cards}
use Rattle.fc_position.specs.Board.{last_of, front_of}
use Rattle.fc_position.proofs.BoardLemmas.{front_last}
use Rattle.fc_moves.proofs.Rearrange.{renaming, IsPermutation-set}
use Rattle.fc_bound.specs.Bound.{is_lower, is_away}
use Rattle.fc_bound.specs.Clearing.{waits, fee, without, cards_in, order_cost, clearing_cost, clearing_bound}
use Rattle.fc_bound.specs.Laws.{ClassMatesHaveOneClearingBound, FreeCardsGoFirst}
use Rattle.fc_bound.proofs.AboveLemmas.{or-true}
use Rattle.fc_bound.proofs.ClearingLemmas.{without_none, fee_none, last_there, cases_last, clearing_least, clearing_order}

-- in columns in another order a card waits alike
pub waits-moved : (columns others : List (List ℕ)) (o : Option ℕ) → IsPermutation columns others → waits columns o ≡ waits others o
waits-moved columns others None p = refl
waits-moved columns others (Some u) p = list_any-IsPermutation (list_any (is_lower u)) columns others p

-- an order of columns that costs so much
abbrev pub OrderWithin : List (List ℕ) → ℕ → Type 0
OrderWithin columns cost = (order : List ℕ) × (order_cost columns order ≤ cost)

-- each order has one of the same cost for columns in another order
order-moved : (order : List ℕ) (columns others : List (List ℕ)) → IsPermutation columns others
    → OrderWithin others (order_cost columns order)
order-moved [] columns others p = ([], omega (arith, sum_by-IsPermutation (λ (cards : List ℕ). length cards) columns others p))
order-moved (i ∷ order) columns others p =
    ⊎_elim
    (λ none. let same = ap (λ now. order_cost now order) (without_none columns i none) in
    let found = order-moved order columns others p in
    (found.0, omega (arith, found.1, same, fee_none columns i none)))
    (λ some_last. let inside = last_there columns i some_last.0 some_last.1 in
    let r = renaming columns others p in
    let reads : get_or others (r.to i) [] ≡ get_or columns i [] = r.reads i [] in
    let within : r.to i < length others = omega (arith, r.below i inside, r.long) in
    let rest : IsPermutation (without columns i) (without others (r.to i)) =
    IsPermutation-set columns others i (r.to i) [] (front_of (get_or columns i [])) (front_of (get_or others (r.to i) [])) p inside within
    (sym reads) (ap front_of (sym reads)) in
    let one : fee columns i ≡ fee others (r.to i) =
    ap (λ t. cond t 1 0) (waits-moved columns others (last_of (get_or columns i [])) p
    ∙ ap (λ cards. waits others (last_of cards)) (sym reads)) in
    let found = order-moved order (without columns i) (without others (r.to i)) rest in
    (r.to i ∷ found.0, omega (arith, found.1, one)))
    (cases_last columns i)

cost-moved : (columns others : List (List ℕ)) → IsPermutation columns others → clearing_cost others ≤ clearing_cost columns
cost-moved columns others p =
    let best = clearing_order columns in
    let found = order-moved best.0 columns others p in
    omega (arith, best.1, found.1, clearing_least others found.0)

-- boards of one class have one clearing bound
pub class_clearing : ClassMatesHaveOneClearingBound
unfolding clearing_bound
class_clearing b c s =
    let away : count_by (is_away b) all_cards ≡ count_by (is_away c) all_cards =
    ap (λ h. count_by (λ x. nat_lt (slice_index h (suit x)) (rank x)) all_cards) s.homes in
    omega (
      arith,
      away,
      cost-moved b.columns c.columns s.columns,
      cost-moved c.columns b.columns (IsPermutation-sym b.columns c.columns s.columns),
    )

-- the one list is a front of the other
abbrev pub IsFront : List ℕ → List ℕ → Type 0
IsFront cards more = (rest : List ℕ) × (more ≡ cards ++ rest)

-- each of the columns is a front of the other's
abbrev pub AreFronts : List (List ℕ) → List (List ℕ) → Type 0
AreFronts [] [] = Unit {0}
AreFronts [] (y ∷ ys) = ⊥
AreFronts (x ∷ xs) [] = ⊥
AreFronts (x ∷ xs) (y ∷ ys) = IsFront x y × AreFronts xs ys

-- columns are fronts of themselves
pub fronts-same : (xs : List (List ℕ)) → AreFronts xs xs
fronts-same [] = tt
fronts-same (x ∷ xs) = (([], sym (append-nil x)), fronts-same xs)

-- a column of the one is a front of the other's
fronts-at : (xs ys : List (List ℕ)) (i : ℕ) → AreFronts xs ys → IsFront (get_or xs i []) (get_or ys i [])
fronts-at [] [] i f = ([], refl)
fronts-at [] (y ∷ ys) i f = absurd f
fronts-at (x ∷ xs) [] i f = absurd f
fronts-at (x ∷ xs) (y ∷ ys) zero f = f.0
fronts-at (x ∷ xs) (y ∷ ys) (suc i) f = fronts-at xs ys i f.1

-- fronts stay fronts where a column of both changes to such
fronts-set : (xs ys : List (List ℕ)) (i : ℕ) (x y : List ℕ) → AreFronts xs ys → IsFront x y → AreFronts (set xs i x) (set ys i y)
fronts-set [] [] i x y f one = tt
fronts-set [] (d ∷ ds) i x y f one = absurd f
fronts-set (c ∷ cs) [] i x y f one = absurd f
fronts-set (c ∷ cs) (d ∷ ds) zero x y f one = (one, f.1)
fronts-set (c ∷ cs) (d ∷ ds) (suc i) x y f one = (f.0, fronts-set cs ds i x y f.1 one)

-- and where a column of the one changes alone
pub fronts-more : (xs ys : List (List ℕ)) (i : ℕ) (y : List ℕ) → AreFronts xs ys → IsFront (get_or xs i []) y → AreFronts xs (set ys i y)
fronts-more [] [] i y f one = tt
fronts-more [] (d ∷ ds) i y f one = absurd f
fronts-more (c ∷ cs) [] i y f one = absurd f
fronts-more (c ∷ cs) (d ∷ ds) zero y f one = (one, f.1)
fronts-more (c ∷ cs) (d ∷ ds) (suc i) y f one = (f.0, fronts-more cs ds i y f.1 one)

fronts-less : (xs ys : List (List ℕ)) (i : ℕ) (x : List ℕ) → AreFronts xs ys → IsFront x (get_or ys i []) → AreFronts (set xs i x) ys
fronts-less [] [] i x f one = tt
fronts-less [] (d ∷ ds) i x f one = absurd f
fronts-less (c ∷ cs) [] i x f one = absurd f
fronts-less (c ∷ cs) (d ∷ ds) zero x f one = (one, f.1)
fronts-less (c ∷ cs) (d ∷ ds) (suc i) x f one = (f.0, fronts-less cs ds i x f.1 one)

-- fronts have no more cards
fronts-cards : (xs ys : List (List ℕ)) → AreFronts xs ys → cards_in xs ≤ cards_in ys
fronts-cards [] [] f = omega arith
fronts-cards [] (y ∷ ys) f = absurd f
fronts-cards (x ∷ xs) [] f = absurd f
fronts-cards (x ∷ xs) (y ∷ ys) f =
    let long = ap (λ (cards : List ℕ). length cards) f.0.1 in
    omega (
      arith,
      long,
      length-append x f.0.0,
      fronts-cards xs ys f.1,
      sum_by-cons (λ (cards : List ℕ). length cards) x xs,
      sum_by-cons (λ (cards : List ℕ). length cards) y ys,
    )

-- tests of tests, as numbers
passes_more : (p q r s : Bool) → (p ≡ true → r ≡ true) → (q ≡ true → s ≡ true) → (p || q) ≡ true → (r || s) ≡ true
passes_more true q r s one two passes = ap (λ t. t || s) (one refl)
passes_more false q r s one two passes = ap (λ t. r || t) (two passes) ∙ or-true r

pub bits_more : (p q : Bool) → (p ≡ true → q ≡ true) → cond p 1 0 ≤ cond q 1 0
bits_more true q more = let one : ◌≡◌ {A = ℕ} (cond q 1 0) 1 = ap (λ t. cond t 1 0) (more refl) in omega arith
bits_more false q more = omega arith

-- what passes somewhere in the fronts passes somewhere in the columns
front-passes : (u : ℕ) (x y : List ℕ) → IsFront x y → list_any (is_lower u) x ≡ true → list_any (is_lower u) y ≡ true
front-passes u x y f passes =
    ap (list_any (is_lower u)) f.1 ∙ list_any-append (is_lower u) x f.0 ∙ ap (λ t. t || list_any (is_lower u) f.0) passes

fronts-pass : (u : ℕ) (xs ys : List (List ℕ)) → AreFronts xs ys → list_any (list_any (is_lower u)) xs ≡ true
    → list_any (list_any (is_lower u)) ys ≡ true
fronts-pass u [] [] f passes = passes
fronts-pass u [] (y ∷ ys) f passes = absurd f
fronts-pass u (x ∷ xs) [] f passes = absurd f
fronts-pass u (x ∷ xs) (y ∷ ys) f passes =
    passes_more (list_any (is_lower u) x) (list_any (list_any (is_lower u)) xs) (list_any (is_lower u) y)
    (list_any (list_any (is_lower u)) ys) (front-passes u x y f.0) (fronts-pass u xs ys f.1) passes

pub fronts-wait : (xs ys : List (List ℕ)) (o : Option ℕ) → AreFronts xs ys → waits xs o ≡ true → waits ys o ≡ true
fronts-wait xs ys None f waiting = waiting
fronts-wait xs ys (Some u) f waiting = fronts-pass u xs ys f waiting

-- a list is a front of any longer one without its last card
front-shorter : (cards : List ℕ) (z : ℕ) (rest : List ℕ) → IsFront cards (front_of (cards ++ z ∷ rest))
front-shorter [] z rest = (front_of (z ∷ rest), refl)
front-shorter (x ∷ cards) z rest =
    let later = front-shorter cards z rest in
    let size : length (x ∷ (cards ++ z ∷ rest)) - 1 ≡ suc (length (cards ++ z ∷ rest) - 1) =
    omega (arith, length-append cards (z ∷ rest)) in
    (later.0, ap (λ n. take n (x ∷ (cards ++ z ∷ rest))) size ∙ ap (λ more. x ∷ more) later.1)

-- one more card of the order: it leaves the fronts too, unless its column has more than its front
fronts-step : (order : List ℕ) (i : ℕ) (xs ys : List (List ℕ)) (rest : List ℕ) → AreFronts xs ys
    → get_or ys i [] ≡ get_or xs i [] ++ rest
    → ((cs ds : List (List ℕ)) → AreFronts cs ds → OrderWithin cs (order_cost ds order))
    → OrderWithin xs (order_cost ys (i ∷ order))
fronts-step order i xs ys [] f e later =
    let same : get_or ys i [] ≡ get_or xs i [] = e ∙ append-nil (get_or xs i []) in
    let front : IsFront (front_of (get_or xs i [])) (front_of (get_or ys i [])) =
    ([], ap front_of same ∙ sym (append-nil (front_of (get_or xs i [])))) in
    let found = later (without xs i) (without ys i)
    (fronts-set xs ys i (front_of (get_or xs i [])) (front_of (get_or ys i [])) f front) in
    let cheaper : fee xs i ≤ fee ys i =
    bits_more (waits xs (last_of (get_or xs i []))) (waits ys (last_of (get_or ys i [])))
    (λ waiting. ap (λ cards. waits ys (last_of cards)) same ∙ fronts-wait xs ys (last_of (get_or xs i [])) f waiting) in
    (i ∷ found.0, omega (arith, found.1, cheaper))
fronts-step order i xs ys (z ∷ rest) f e later =
    let shorter : IsFront (get_or xs i []) (front_of (get_or ys i [])) =
    subst (λ cards. IsFront (get_or xs i []) (front_of cards)) (sym e) (front-shorter (get_or xs i []) z rest) in
    let found = later xs (without ys i) (fronts-more xs ys i (front_of (get_or ys i [])) f shorter) in
    (found.0, omega (arith, found.1))

-- each order has one that costs no more for the fronts
order-fronts : (order : List ℕ) (xs ys : List (List ℕ)) → AreFronts xs ys → OrderWithin xs (order_cost ys order)
order-fronts [] xs ys f = ([], fronts-cards xs ys f)
order-fronts (i ∷ order) xs ys f =
    let front = fronts-at xs ys i f in
    fronts-step order i xs ys front.0 f front.1 (λ cs ds g. order-fronts order cs ds g)

-- fronts cost no more
pub cost-fronts : (xs ys : List (List ℕ)) → AreFronts xs ys → clearing_cost xs ≤ clearing_cost ys
cost-fronts xs ys f =
    let best = clearing_order ys in
    let found = order-fronts best.0 xs ys f in
    omega (arith, best.1, found.1, clearing_least xs found.0)

-- a last card may be taken first, at its price
pub cost-taken : (columns : List (List ℕ)) (i : ℕ) → clearing_cost columns ≤ fee columns i + clearing_cost (without columns i)
cost-taken columns i =
    let best = clearing_order (without columns i) in
    omega (arith, best.1, clearing_least columns (i ∷ best.0))

-- the columns without a card are fronts
pub without-front : (columns : List (List ℕ)) (i : ℕ) → AreFronts (without columns i) columns
without-front columns i =
    ⊎_elim (λ none. subst (λ now. AreFronts now columns) (sym (without_none columns i none)) (fronts-same columns))
    (λ some_last. fronts-less columns columns i (front_of (get_or columns i [])) (fronts-same columns)
    (some_last.0 ∷ [], front_last (get_or columns i []) some_last.0 some_last.1))
    (cases_last columns i)

-- a last card that waits for none may be taken first
pub free_first : FreeCardsGoFirst
free_first columns i free =
    let none : fee columns i ≡ 0 = ap (λ t. cond t 1 0) free in
    omega (arith, none, cost-taken columns i, cost-fronts (without columns i) columns (without-front columns i))
