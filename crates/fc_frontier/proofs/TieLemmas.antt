-- Lemmas on queues of pairs with ties.
use Rattle.std.proofs.Common.{◌≡◌, ℕ, ◌+◌, ◌-◌, ◌^◌, ◌<◌, ◌≤◌, min, ◌⊎◌, inl, inr, true, false, List, ◌∷◌, refl, sym, ◌∙◌, subst, ⊎_elim, arith}
use Rattle.std.specs.Prelude.{All}
use Rattle.std.specs.BinaryHeap.{IsUpperBound, lt_by_cmp}
use Rattle.std.specs.declared.cmp.Ordering.{Ordering}
use Rattle.std.specs.List.Sorted.{IsPermutation}
use Rattle.std.specs.Ordering.{is_lt, nat_cmp, ordering_then}
use Rattle.std.proofs.lemmas.Bool.{cases_lt, cases_eq, eq-eqb, false≢true, le-ltb, lt-ltb}
use Rattle.std.proofs.lemmas.List.Elements.{All-cons, All-from_recursion, All-map, All-tail, All-weaker}
use Rattle.std.proofs.lemmas.List.Sorted.{All-permutation, IsPermutation-map}
use Rattle.fc_frontier.specs.Queue.{Adds, IsLeast}
use Rattle.fc_frontier.specs.Tie.{Entry, TiedQueue, pair_of, pairs_of, Precedes, PrecedesAll, IsOlder, Enters, Pops}
use Rattle.fc_frontier.specs.inner.Tie.{entry_cmp}

-- what is no less by a number and then by something else is greater by the number, or equal and no less by the other
not_less : (a b : ℕ) (o : Ordering) → is_lt (ordering_then (nat_cmp a b) o) ≡ false → (b < a) ⊎ ((a ≡ b) × (is_lt o ≡ false))
not_less a b o h =
    ⊎_elim
    (λ less. let is : is_lt (ordering_then (nat_cmp a b) o) ≡ true = rw (lt-ltb a b less) refl in absurd (false≢true (sym h ∙ is)))
    (λ from. ⊎_elim
    (λ e. let is : is_lt (ordering_then (nat_cmp a b) o) ≡ is_lt o = rw (le-ltb a b from, eq-eqb a b e) refl in inr (e, sym is ∙ h))
    (λ apart. inl (omega arith))
    (cases_eq a b))
    (cases_lt a b)

-- an entry that is no less in the heap comes first
first-from_cmp : (entry other : Entry) → is_lt (entry_cmp entry other) ≡ false → Precedes entry other
first-from_cmp entry other h =
    let by_node = nat_cmp other.node entry.node in
    let by_stamp = ordering_then (nat_cmp entry.stamp other.stamp) by_node in
    let by_tie = ordering_then (nat_cmp other.tie entry.tie) by_stamp in
    ⊎_elim (λ less. inl less)
    (λ same_f. inr (
      sym same_f.0,
      ⊎_elim (λ less. inl less)
          (λ same_tie. inr (
            sym same_tie.0,
            ⊎_elim (λ later. omega arith) (λ same_stamp. omega arith) (not_less entry.stamp other.stamp by_node same_tie.1),
          ))
          (not_less other.tie entry.tie by_stamp same_f.1),
    ))
    (not_less other.f entry.f by_tie h)

-- the greatest entry of a heap is next
pub next-from_greatest : (entry : Entry) (entries : List Entry) → IsUpperBound entry_cmp entry entries → PrecedesAll entry entries
next-from_greatest entry entries greatest =
    All-weaker (λ other. lt_by_cmp entry_cmp entry other ≡ false) (Precedes entry) (first-from_cmp entry) entries
    (All-from_recursion (λ other. lt_by_cmp entry_cmp entry other ≡ false) entries greatest)

-- a pushed entry and those before it were pushed before the next
pub older-pushed : (entry : Entry) (old new : List Entry) (next : ℕ) → IsPermutation (entry ∷ old) new
    → next ≡ min (entry.stamp + 1) (2 ^ 32 - 1) → entry.stamp < 2 ^ 32 → All (IsOlder entry.stamp) old → All (IsOlder next) new
older-pushed entry old new next permuted is small older =
    All-permutation (IsOlder next) (entry ∷ old) new permuted
    (All-cons (IsOlder next) entry old (omega arith, λ same. omega arith)
    (All-weaker (IsOlder entry.stamp) (IsOlder next) (λ other before. (omega arith, λ same. omega arith)) old older))

-- what was pushed before the next stays so when one is taken
pub older-taken : (entry : Entry) (old new : List Entry) (next : ℕ) → IsPermutation old (entry ∷ new) → All (IsOlder next) old
    → All (IsOlder next) new
older-taken entry old new next permuted older =
    All-tail (IsOlder next) entry new (All-permutation (IsOlder next) old (entry ∷ new) permuted older)

-- an entry that enters adds its pair
pub enters-adds : (entry : Entry) (old new : TiedQueue) → Enters entry old new
    → Adds (pairs_of old.entries) (pairs_of new.entries) (pair_of entry)
enters-adds entry old new enters = IsPermutation-map pair_of (entry ∷ old.entries) new.entries enters.entries

-- a pair that is taken was one pair more
pub takes-adds : (pair : ℕ × ℕ) (old new : TiedQueue) → Pops pair old new → Adds (pairs_of new.entries) (pairs_of old.entries) pair
takes-adds pair old new takes = subst (Adds (pairs_of new.entries) (pairs_of old.entries)) (sym takes.is)
    (IsPermutation-map pair_of (takes.entry ∷ new.entries) old.entries takes.entries)

-- a pair that is taken has the least f
pub takes-least : (pair : ℕ × ℕ) (old new : TiedQueue) → Pops pair old new → IsLeast pair (pairs_of old.entries)
takes-least pair old new takes = subst (λ (p : ℕ × ℕ). IsLeast p (pairs_of old.entries)) (sym takes.is)
    (All-map (λ other. takes.entry.f ≤ other.0) pair_of old.entries
    (All-weaker (Precedes takes.entry) (λ other. takes.entry.f ≤ other.f)
    (λ other first. ⊎_elim (λ less. omega arith) (λ same. omega arith) first) old.entries takes.next))
