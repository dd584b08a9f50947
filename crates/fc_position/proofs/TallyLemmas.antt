-- Tallies: counting on, and what a tally says of the cards that were counted.
use Rattle.std.proofs.Common.{◌≡◌, ℕ, ◌+◌, ◌≤◌, ◌<◌, Option, Some, None, List, [], ◌∷◌, length, take, get_or, cond, eqb, min, refl, sym, ◌∙◌, ap, ⊎_elim, zero-add, arith}
use Rattle.std.specs.Prelude.{All, IfSome, replicate, slice_index, sum_by}
use Rattle.std.proofs.lemmas.List.{get_or_past, get_or-replicate}
use Rattle.std.proofs.lemmas.List.Elements.{All-head, All-tail}
use Rattle.std.proofs.lemmas.List.Sums.{sum_by_more, sum_by-cons}
use Rattle.std.proofs.lemmas.Bool.{cases_lt}
use Rattle.std.proofs.lemmas.Bool.Decides.{nat_tests}
use Rattle.fc_cards.specs.Card.{rank, suit}
use Rattle.fc_position.specs.declared.faults.PartsFault.{PartsFault}
use Rattle.fc_position.specs.declared.faults.PartsFault.TheVariants.{Repeated, Missing}
use Rattle.fc_position.specs.Board.{Board, places, count_in_column, count_in_cell, count_at_home}
use Rattle.fc_position.specs.Position.{IsPosition, IsShaped}
use Rattle.fc_position.specs.Tally.{Adds, AllCards, IsFaultOf, EachOnce}
use Rattle.fc_position.specs.inner.Tally.{IsOfCards}

-- counting on adds up
pub adds_more : (f g : ℕ → ℕ) (a b d : List ℕ) → Adds f a b → Adds g b d → Adds (λ c. f c + g c) a d
adds_more f g a b d p q c below = let one = p c below in let two = q c below in omega arith

-- the same counts, said in another way
pub adds_same : (f g : ℕ → ℕ) (a b : List ℕ) → ((c : ℕ) → c < 52 → f c ≡ g c) → Adds f a b → Adds g a b
adds_same f g a b same p c below = let one = p c below in let two = same c below in omega arith

-- one more element of a list is counted
pub adds_next : {X : Type 0} (f : ℕ → X → ℕ) (xs : List X) (i : ℕ) (d : X) (a b e : List ℕ) → i < length xs
    → Adds (λ c. sum_by (f c) (take i xs)) a b → Adds (λ c. f c (get_or xs i d)) b e
    → Adds (λ c. sum_by (f c) (take (i + 1) xs)) a e
adds_next f xs i d a b e below p q =
    adds_same (λ c. sum_by (f c) (take i xs) + f c (get_or xs i d)) (λ c. sum_by (f c) (take (i + 1) xs)) a e
    (λ c _. sym (sum_by_more (f c) xs i d below))
    (adds_more (λ c. sum_by (f c) (take i xs)) (λ c. f c (get_or xs i d)) a b e p q)

-- the counts of a tally that begins at none
tally_times : (times : ℕ → ℕ) (tally : List ℕ) → Adds times (replicate 52 0) tally → (c : ℕ) → c < 52
    → slice_index tally c ≡ min (times c) 2
tally_times times tally adds c below =
    adds c below ∙ ap (λ n. min (n + times c) 2) (get_or-replicate 52 c 0 0 below) ∙ ap (λ n. min n 2) (zero-add (times c))

-- the fault of a tally is the fault of what was counted
pub fault-tally : (times : ℕ → ℕ) (tally : List ℕ) → Adds times (replicate 52 0) tally → (fault : PartsFault)
    → IsFaultOf (slice_index tally) fault → IsFaultOf times fault
fault-tally times tally adds (Repeated c) (below, more, least) =
    let count = tally_times times tally adds in
    (below, omega (arith, count c below), λ d lt. omega (arith, count d (omega arith), least d lt))
fault-tally times tally adds (Missing c) (below, none, least, once) =
    let count = tally_times times tally adds in (
      below,
      omega (arith, count c below),
      λ d lt. omega (arith, count d (omega arith), least d lt),
      λ d lt. omega (arith, count d lt, once d lt),
    )

-- a tally of one each is of cards that stand once
pub each_once-tally : (times : ℕ → ℕ) (tally : List ℕ) → Adds times (replicate 52 0) tally
    → EachOnce (slice_index tally) → EachOnce times
each_once-tally times tally adds once c below =
    omega (arith, tally_times times tally adds c below, once c below)

-- cards that stand once each have no fault
pub no_fault : (times : ℕ → ℕ) (fault : PartsFault) → EachOnce times → IsFaultOf times fault → ⊥
no_fault times (Repeated c) once (below, more, least) = omega (arith, once c below, more)
no_fault times (Missing c) once (below, none, least, others) = omega (arith, once c below, none)

-- a number that is no card's stands nowhere among cards
count-other : (cards : List ℕ) (c : ℕ) → AllCards cards → 52 ≤ c → count_in_column c cards ≡ 0
count-other [] c all above = refl
count-other (x ∷ xs) c all above =
    let first : x < 52 = All-head (λ k. k < 52) x xs all in
    let none : ◌≡◌ {A = ℕ} (cond (eqb x c) 1 0) 0 = grind (arith, nat_tests) in
    omega (
      arith,
      sum_by-cons (λ y. cond (eqb y c) 1 0) x xs,
      none,
      count-other xs c (All-tail (λ k. k < 52) x xs all) above,
    )

count-other_columns : (columns : List (List ℕ)) (c : ℕ) → All AllCards columns → 52 ≤ c
    → sum_by (count_in_column c) columns ≡ 0
count-other_columns [] c all above = refl
count-other_columns (x ∷ xs) c all above =
    omega (
      arith,
      sum_by-cons (count_in_column c) x xs,
      count-other x c (All-head AllCards x xs all) above,
      count-other_columns xs c (All-tail AllCards x xs all) above,
    )

one_other : (cell : Option ℕ) (c : ℕ) → IfSome cell (λ k. k < 52) → 52 ≤ c → count_in_cell c cell ≡ 0
one_other None c below above = refl
one_other (Some x) c below above = grind (arith, nat_tests)

count-other_cells : (cells : List (Option ℕ)) (c : ℕ) → All (λ cell. IfSome cell (λ k. k < 52)) cells → 52 ≤ c
    → sum_by (count_in_cell c) cells ≡ 0
count-other_cells [] c all above = refl
count-other_cells (x ∷ xs) c all above =
    omega (
      arith,
      sum_by-cons (count_in_cell c) x xs,
      one_other x c (All-head (λ cell. IfSome cell (λ k. k < 52)) x xs all) above,
      count-other_cells xs c (All-tail (λ cell. IfSome cell (λ k. k < 52)) x xs all) above,
    )

count-other_homes : (homes : List ℕ) (c : ℕ) → All (λ n. n ≤ 13) homes → 52 ≤ c → count_at_home c homes ≡ 0
count-other_homes homes c most above =
    let small : slice_index homes (suit c) ≤ 13 =
    ⊎_elim (λ lt. most (suit c) 0 lt) (λ le. rw (get_or_past homes (suit c) 0 le) (omega arith))
    (cases_lt (suit c) (length homes)) in
    let high : 14 ≤ rank c = omega arith in
    grind (arith, nat_tests)

-- cards that stand once each, in eight columns, four cells and four counts, are a position
pub position-tally : (b : Board) (tally : List ℕ) → IsShaped b → All (λ n. n ≤ 13) b.homes → IsOfCards b → Adds (places b) (replicate 52 0) tally → EachOnce (slice_index tally)
    → IsPosition b
position-tally b tally shape most cards adds once = record {
  columns = shape.columns;
  cells = shape.cells;
  homes = shape.homes;
  once = each_once-tally (places b) tally adds once;
  no_other = λ c above. omega (
    arith,
    count-other_columns b.columns c cards.columns above,
    count-other_cells b.cells c cards.cells above,
    count-other_homes b.homes c most above,
  );
}
