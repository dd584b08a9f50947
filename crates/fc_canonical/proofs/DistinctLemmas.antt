-- When two moves lead to boards of one class.
use Rattle.std.proofs.Common.{◌≡◌, ◌≢◌, ℕ, ◌+◌, ◌-◌, ◌<◌, ◌≤◌, ◌⊎◌, ◌↔◌, Some, None, List, [], ◌∷◌, ◌++◌, length, set, get_or, cond, eqb, refl, sym, ◌∙◌, ap, subst, inl, inr, ⊎_elim, arith}
use Rattle.std.specs.Prelude.{Contains, sum_by, slice_index}
use Rattle.std.specs.List.Sorted.{IsPermutation}
use Rattle.std.proofs.lemmas.List.{get_or-set_same, get_or-set_other, get_or_default, length-set, length-append, same_from_push, set_past}
use Rattle.std.proofs.lemmas.List.Edits.{swap_is}
use Rattle.std.proofs.lemmas.List.Elements.{Contains-get_or}
use Rattle.std.proofs.lemmas.List.Sorted.{Contains-permutation, IsPermutation-swap, IsPermutation-refl, IsPermutation-sym, sum_by-IsPermutation}
use Rattle.std.proofs.lemmas.List.Sums.{sum_by-cons, sum_by-set, sum_by_push, get_or-le-sum_by, sum_by-take-le}
use Rattle.std.proofs.lemmas.Bool.{cases_lt, cases_eq}
use Rattle.std.proofs.lemmas.Bool.Decides.{nat_tests}
use Rattle.fc_cards.specs.Card.{rank, suit}
use Rattle.fc_cards.specs.declared.places.Place.{Place}
use Rattle.fc_cards.specs.declared.places.Place.TheVariants.{Column, Cell, Home}
use Rattle.fc_position.specs.Board.{Board, column, cell, playable, board_without, board_with, last_of, front_of, count_in_column, count_in_cell, IsNext}
use Rattle.fc_position.specs.Position.{IsPosition}
use Rattle.fc_position.proofs.BoardLemmas.{column_there, columns-lifted, homes-lifted, front_last, places_most}
use Rattle.fc_position.proofs.PlaceLemmas.{one_itself, one_column, in_column, source_once}
use Rattle.fc_moves.specs.declared.steps.Move.{Move}
use Rattle.fc_moves.specs.GameRules.{GameRules}
use Rattle.fc_moves.specs.Step.{Step, Joins, Takes}
use Rattle.fc_moves.proofs.StepLemmas.{other_column}
use Rattle.fc_moves.specs.Class.{SameClass}
use Rattle.fc_canonical.specs.inner.Distinct.{Stays}
use Rattle.fc_moves.proofs.ClassLemmas.{class-refl, class-sym, class-trans, class-placed, Alike}
use Rattle.fc_canonical.proofs.KeyLemmas.{no_more}

-- the two are the same column or two empty ones, two cells, or both home
abbrev pub IsSameKind : Board → Place → Place → Type 0
IsSameKind b (Column i) (Column j) = (i ≡ j) ⊎ ((column b i ≡ []) × (column b j ≡ []))
IsSameKind b (Cell i) (Cell j) = Unit {0}
IsSameKind b Home Home = Unit {0}
IsSameKind b (Column i) (Cell j) = ⊥
IsSameKind b (Column i) Home = ⊥
IsSameKind b (Cell i) (Column j) = ⊥
IsSameKind b (Cell i) Home = ⊥
IsSameKind b Home (Column j) = ⊥
IsSameKind b Home (Cell j) = ⊥

-- the moves take one card to places of one kind, or each takes a column's only card to an empty column
abbrev pub IsAlike : Board → Move → Move → Type 0
IsAlike b m n = ((m.from ≡ n.from) × IsSameKind b m.to n.to) ⊎ (Stays b m.from m.to × Stays b n.from n.to)

-- the front of a column has its last card once less
front_once : (cards : List ℕ) (u : ℕ) → last_of cards ≡ Some u → count_in_column u (front_of cards) + 1 ≡ count_in_column u cards
front_once cards u last =
    omega (
      arith,
      sum_by_push (λ x. cond (eqb x u) 1 0) (front_of cards) u,
      one_itself u,
      ap (count_in_column u) (front_last cards u last),
    )

count-pushed : (cards : List ℕ) (u : ℕ) → 1 ≤ count_in_column u (cards ++ u ∷ [])
count-pushed cards u = omega (arith, sum_by_push (λ x. cond (eqb x u) 1 0) cards u, one_itself u)

count-first : (c : ℕ) (rest : List ℕ) → 1 ≤ count_in_column c (c ∷ rest)
count-first c rest = omega (arith, sum_by-cons (λ x. cond (eqb x c) 1 0) c rest, one_itself c)

-- two columns that hold the same cards are one, or empty
one_or_empty : (b : Board) (i j : ℕ) (cards : List ℕ) → IsPosition b → i < length b.columns → j < length b.columns
    → column b i ≡ cards → column b j ≡ cards → (i ≡ j) ⊎ ((column b i ≡ []) × (column b j ≡ []))
one_or_empty b i j [] p one two x y = inr (x, y)
one_or_empty b i j (c ∷ rest) p one two x y =
    inl (one_column b c i j p one two (rw x (count-first c rest)) (rw y (count-first c rest)))

-- the front of a column has no card more often
count-front_le : (cards : List ℕ) (u : ℕ) → count_in_column u (front_of cards) ≤ count_in_column u cards
count-front_le cards u = sum_by-take-le (λ x. cond (eqb x u) 1 0) cards (length cards - 1)

-- a card of a column that is left by a lift was there before
count-lifted : (b : Board) (from : Place) (u k : ℕ) → k < length b.columns → count_in_column u (column (board_without b from) k)
    ≤ count_in_column u (column b k)
count-lifted b (Column i) u k inside =
    ⊎_elim (λ e. let here : column (board_without b (Column i)) k ≡ front_of (column b i) =
    rw e (get_or-set_same b.columns i (front_of (column b i)) [] (rw (sym e) inside)) in
    omega (arith, ap (count_in_column u) here, count-front_le (column b i) u, ap (λ n. count_in_column u (column b n)) e))
    (λ ne. let here = ap (count_in_column u) (get_or-set_other b.columns i k (front_of (column b i)) [] ne) in omega (arith, here))
    (cases_eq k i)
count-lifted b (Cell i) u k inside = omega arith
count-lifted b Home u k inside = omega arith

-- a column that is another with a card put on it is that card alone, and the other is empty
alone : (b : Board) (i j u : ℕ) (cards : List ℕ) → IsPosition b → j ≢ i → i < length b.columns → j < length b.columns
    → column b j ≡ cards → column b i ≡ cards ++ u ∷ [] → Stays b (Column i) (Column j)
alone b i j u [] p other one two x y = (ap length y, x)
alone b i j u (c ∷ rest) p other one two x y =
    absurd (other (one_column b c j i p two one (rw x (count-first c rest)) (rw y (count-first c (rest ++ u ∷ [])))))

stood_at : (b : Board) (n u j : ℕ) (source : Place) (v : ℕ) → IsPosition b → j ≢ n → last_of (column b n) ≡ Some u
    → playable b source ≡ Some v → j < length b.columns → n < length b.columns
    → column (board_without b source) n ≡ column b j ++ u ∷ [] → Stays b (Column n) (Column j)
stood_at b n u j (Column i) v p apart last also one within at =
    ⊎_elim
    (λ e. let here : column (board_without b (Column i)) n ≡ front_of (column b n) =
    rw e (get_or-set_same b.columns i (front_of (column b i)) [] (rw (sym e) within)) in
    let less = get_or-le-sum_by (count_in_column u) b.columns n [] within in
    absurd (omega (
      arith,
      ap (count_in_column u) (sym here ∙ at),
      count-pushed (column b j) u,
      front_once (column b n) u last,
      less,
      places_most b u p,
    )))
    (λ ne. alone b n j u (column b j) p apart within one refl
    (sym (get_or-set_other b.columns i n (front_of (column b i)) [] ne) ∙ at))
    (cases_eq n i)
stood_at b n u j (Cell i) v p apart last also one within at = alone b n j u (column b j) p apart within one refl at
stood_at b n u j Home v p apart last also one within at = absurd (cc also)

-- where it stood before, the card was alone
stood : (b : Board) (from : Place) (u j : ℕ) (source : Place) (v n : ℕ) → IsPosition b → playable b from ≡ Some u
    → playable b source ≡ Some v → Joins from (Column j) → j < length b.columns → n < length b.columns
    → column (board_without b source) n ≡ column b j ++ u ∷ [] → Stays b from (Column j)
stood b from u j source v n p there also joins one within at =
    let some : 1 ≤ count_in_column u (column b n) =
    omega (arith, ap (count_in_column u) at, count-pushed (column b j) u, count-lifted b source u n within) in
    let here = in_column b from u n p there within some in
    let apart : j ≢ n = subst (λ q. Joins q (Column j)) here joins in
    let last : last_of (column b n) ≡ Some u = subst (λ q. playable b q ≡ Some u) here there in
    subst (λ q. Stays b q (Column j)) (sym here)
    (stood_at b n u j source v p apart last also one within at)

-- a column with a card put on it is what the other move makes, or it stood there before
landed : (b : Board) (from : Place) (u j : ℕ) (source : Place) (v k : ℕ) → IsPosition b → playable b from ≡ Some u
    → playable b source ≡ Some v → Joins from (Column j) → Joins source (Column k) → j < length b.columns → k < length b.columns
    → Contains (board_with (board_without b source) v (Column k)).columns (column b j ++ u ∷ [])
    → ((u ≡ v) × (column b j ≡ column b k)) ⊎ Stays b from (Column j)
landed b from u j source v k p there also joins joined one two (n, inside, e) =
    let x = board_without b source in
    let pushed = column x k ++ v ∷ [] in
    let long : length (set x.columns k pushed) ≡ length b.columns = length-set x.columns k pushed ∙ columns-lifted b source in
    let within : n < length b.columns = omega (arith, long) in
    let read : get_or (set x.columns k pushed) n [] ≡ column b j ++ u ∷ [] =
    get_or_default (set x.columns k pushed) n [] (column b j ++ u ∷ []) inside ∙ e in
    ⊎_elim
    (λ same. let at : pushed ≡ column b j ++ u ∷ [] =
    sym (get_or-set_same x.columns k pushed [] (omega (arith, columns-lifted b source)))
    ∙ ap (λ i. get_or (set x.columns k pushed) i []) (sym same) ∙ read in
    let parts = same_from_push (column x k) (column b j) v u at in
    inl (sym parts.1, sym parts.0 ∙ other_column b source k joined))
    (λ other. let at : column x n ≡ column b j ++ u ∷ [] = sym (get_or-set_other x.columns k n pushed [] other) ∙ read in
    inr (stood b from u j source v n p there also joins one within at))
    (cases_eq n k)

-- the moves are alike
abbrev AreAlike : Board → Place → Place → Place → Place → Type 0
AreAlike b from to source target = ((from ≡ source) × IsSameKind b to target) ⊎ (Stays b from to × Stays b source target)

-- one card to columns that hold the same
to_columns : (b : Board) (from source : Place) (u v j k : ℕ) → IsPosition b → playable b from ≡ Some u → playable b source ≡ Some v
    → j < length b.columns → k < length b.columns → u ≡ v → column b j ≡ column b k → AreAlike b from (Column j) source (Column k)
to_columns b from source u v j k p there also one two same e =
    inl (source_once b from source u p there (also ∙ ap (λ (n : ℕ). Some n) (sym same)), one_or_empty b j k (column b k) p one two e refl)

-- the column that a move makes is among the columns of the other's result
made : (x y : Board) (b : Board) (from : Place) (u j : ℕ) → Joins from (Column j) → j < length b.columns
    → IsPermutation (board_with (board_without b from) u (Column j)).columns y.columns → Contains y.columns (column b j ++ u ∷ [])
made x y b from u j joins one perm =
    let l = board_without b from in
    let pushed = column l j ++ u ∷ [] in
    let within : j < length l.columns = omega (arith, columns-lifted b from) in
    let inside : j < length (set l.columns j pushed) = omega (arith, length-set l.columns j pushed) in
    let at : get_or (set l.columns j pushed) j [] ≡ column b j ++ u ∷ [] =
    get_or-set_same l.columns j pushed [] within ∙ ap (λ c. c ++ u ∷ []) (other_column b from j joins) in
    Contains-permutation (set l.columns j pushed) y.columns (column b j ++ u ∷ []) perm
    (subst (Contains (set l.columns j pushed)) at (Contains-get_or (set l.columns j pushed) j [] inside))

-- a lift leaves no card more often in the cells
cells-less : (b : Board) (from : Place) (u : ℕ) → sum_by (count_in_cell u) (board_without b from).cells ≤ sum_by (count_in_cell u) b.cells
cells-less b (Column i) u = omega arith
cells-less b (Cell i) u =
    ⊎_elim (λ lt. omega (arith, sum_by-set (count_in_cell u) b.cells i None None lt))
    (λ le. let same = ap (sum_by (count_in_cell u)) (set_past b.cells i None le) in omega (arith, same)) (cases_lt i (length b.cells))
cells-less b Home u = omega arith

-- a card that is put in a cell from a column stands in a cell once more
cells-more : (b : Board) (u v j : ℕ) → j < length b.cells → cell b j ≡ None
    → sum_by (count_in_cell u) (set b.cells j (Some v)) ≡ sum_by (count_in_cell u) b.cells + count_in_cell u (Some v)
cells-more b u v j inside empty =
    let none = ap (count_in_cell u) empty in omega (arith, sum_by-set (count_in_cell u) b.cells j (Some v) None inside, none)

-- what goes home by one of two moves alone tells their results apart
not_home : (b c : Board) (u : ℕ) → length b.homes ≡ 4 → IsNext b.homes u → set b.homes (suit u) (rank u) ≡ c.homes → c.homes ≡ b.homes → ⊥
not_home b c u four next e f =
    let here : slice_index (set b.homes (suit u) (rank u)) (suit u) ≡ rank u =
    get_or-set_same b.homes (suit u) (rank u) 0 (omega arith) in
    omega (arith, next, here, ap (λ h. slice_index h (suit u)) (e ∙ f))

same_home : (b : Board) (u v : ℕ) → length b.homes ≡ 4 → IsNext b.homes u → IsNext b.homes v
    → set b.homes (suit u) (rank u) ≡ set b.homes (suit v) (rank v) → u ≡ v
same_home b u v four next also e =
    let here : slice_index (set b.homes (suit u) (rank u)) (suit u) ≡ rank u =
    get_or-set_same b.homes (suit u) (rank u) 0 (omega arith) in
    ⊎_elim
    (λ s. let there : slice_index (set b.homes (suit v) (rank v)) (suit u) ≡ rank v =
    rw s (get_or-set_same b.homes (suit v) (rank v) 0 (omega arith)) in
    let ranks = ap (λ h. slice_index h (suit u)) e in
    let equal : rank u ≡ rank v = omega (arith, here, there, ranks) in
    omega (arith, s, equal))
    (λ other. let there = get_or-set_other b.homes (suit v) (suit u) (rank v) 0 other in
    absurd (omega (arith, next, here, there, ap (λ h. slice_index h (suit u)) e)))
    (cases_eq (suit u) (suit v))

-- so moves that lead to one class are alike
alike_from_class : (g : GameRules) (b : Board) (from to : Place) (u : ℕ) (source target : Place) (v : ℕ) → IsPosition b
    → playable b from ≡ Some u → playable b source ≡ Some v → Joins from to → Joins source target → Takes g b u to
    → Takes g b v target → SameClass (board_with (board_without b from) u to) (board_with (board_without b source) v target)
    → AreAlike b from to source target
alike_from_class g b from (Column j) u source (Column k) v p there also joins joined takes taken s =
    let one = landed b from u j source v k p there also joins joined takes.0 taken.0
    (made b (board_with (board_without b source) v (Column k)) b from u j joins takes.0 s.columns) in
    let two = landed b source v k from u j p also there joined joins taken.0 takes.0
    (made b (board_with (board_without b from) u (Column j)) b source v k joined taken.0
    (IsPermutation-sym (board_with (board_without b from) u (Column j)).columns (board_with (board_without b source) v (Column k)).columns s.columns)) in
    ⊎_elim (λ e. to_columns b from source u v j k p there also takes.0 taken.0 e.0 e.1)
    (λ stay. ⊎_elim (λ e. to_columns b from source u v j k p there also takes.0 taken.0 (sym e.0) (sym e.1))
    (λ both. inr (stay, both)) two) one
alike_from_class g b (Column i) (Cell j) u source (Column k) v p there also joins joined takes taken s =
    let same = sum_by-IsPermutation (count_in_cell u) (set b.cells j (Some u)) (board_without b source).cells s.cells in
    absurd (omega (arith, same, cells-more b u u j takes.1 takes.2, cells-less b source u, one_itself u))
alike_from_class g b from (Column j) u (Column i) (Cell k) v p there also joins joined takes taken s =
    let same = sum_by-IsPermutation (count_in_cell v) (board_without b from).cells (set b.cells k (Some v)) s.cells in
    absurd (omega (arith, same, cells-more b v v k taken.1 taken.2, cells-less b from v, one_itself v))
alike_from_class g b (Column i) (Cell j) u (Column h) (Cell k) v p there also joins joined takes taken s =
    let same = sum_by-IsPermutation (count_in_cell u) (set b.cells j (Some u)) (set b.cells k (Some v)) s.cells in
    let one : count_in_cell u (Some v) ≡ 1 =
    omega (arith, same, cells-more b u u j takes.1 takes.2, cells-more b u v k taken.1 taken.2, one_itself u) in
    let card : v ≡ u = grind (arith, nat_tests) in
    inl (source_once b (Column i) (Column h) u p there (also ∙ ap (λ (n : ℕ). Some n) card), tt)
alike_from_class g b from Home u source Home v p there also joins joined takes taken s =
    let homes = ap (λ h. set h (suit u) (rank u)) (sym (homes-lifted b from)) ∙ s.homes
    ∙ ap (λ h. set h (suit v) (rank v)) (homes-lifted b source) in
    let card = same_home b u v p.homes takes taken homes in
    inl (source_once b from source u p there (also ∙ ap (λ (n : ℕ). Some n) (sym card)), tt)
alike_from_class g b from Home u source (Column k) v p there also joins joined takes taken s =
    absurd (not_home b (board_without b source) u p.homes takes (ap (λ h. set h (suit u) (rank u)) (sym (homes-lifted b from)) ∙ s.homes) (homes-lifted b source))
alike_from_class g b from Home u source (Cell k) v p there also joins joined takes taken s =
    absurd (not_home b (board_without b source) u p.homes takes (ap (λ h. set h (suit u) (rank u)) (sym (homes-lifted b from)) ∙ s.homes) (homes-lifted b source))
alike_from_class g b from (Column j) u source Home v p there also joins joined takes taken s =
    absurd (not_home b (board_without b from) v p.homes taken (ap (λ h. set h (suit v) (rank v)) (sym (homes-lifted b source)) ∙ sym s.homes) (homes-lifted b from))
alike_from_class g b from (Cell j) u source Home v p there also joins joined takes taken s =
    absurd (not_home b (board_without b from) v p.homes taken (ap (λ h. set h (suit v) (rank v)) (sym (homes-lifted b source)) ∙ sym s.homes) (homes-lifted b from))
alike_from_class g b (Cell i) (Cell j) u source target v p there also joins joined takes taken s = absurd joins
alike_from_class g b Home (Cell j) u source target v p there also joins joined takes taken s = absurd (cc there)
alike_from_class g b from to u (Cell i) (Cell k) v p there also joins joined takes taken s = absurd joined
alike_from_class g b from to u Home (Cell k) v p there also joins joined takes taken s = absurd (cc also)

-- a column of one card is its last card alone
pub only_card : (cards : List ℕ) (u : ℕ) → last_of cards ≡ Some u → length cards ≡ 1 → cards ≡ u ∷ []
only_card cards u last long =
    let both = front_last cards u last in
    let front : front_of cards ≡ [] =
    no_more (front_of cards) (omega (arith, ap length both, length-append (front_of cards) (u ∷ []), long)) in
    both ∙ ap (λ l. l ++ u ∷ []) front

-- a move of a column's only card to an empty column leads to the class itself
stay_class : (g : GameRules) (b : Board) (from to : Place) (u : ℕ) → playable b from ≡ Some u → Joins from to → Takes g b u to
    → Stays b from to → SameClass b (board_with (board_without b from) u to)
stay_class g b (Column i) (Column j) u there joins takes (long, empty) =
    let inside = column_there b i u there in
    let only = only_card (column b i) u there long in
    let front : front_of (column b i) ≡ [] = ap front_of only in
    let other : column (board_without b (Column i)) j ≡ [] = other_column b (Column i) j joins ∙ empty in
    record {
      columns = IsPermutation-swap b.columns (set (set b.columns i (front_of (column b i))) j (column (board_without b (Column i)) j ++ u ∷ [])) i j inside takes.0
          (ap (λ l. set (set b.columns i l) j (column (board_without b (Column i)) j ++ u ∷ [])) (front ∙ sym empty)
          ∙ ap (λ l. set (set b.columns i (column b j)) j l) (ap (λ l. l ++ u ∷ []) other ∙ sym only)
          ∙ swap_is b.columns i j [] inside takes.0);
      cells = IsPermutation-refl b.cells;
      homes = refl;
    }
stay_class g b (Column i) (Cell j) u there joins takes stay = absurd stay
stay_class g b (Column i) Home u there joins takes stay = absurd stay
stay_class g b (Cell i) to u there joins takes stay = absurd stay
stay_class g b Home to u there joins takes stay = absurd stay

-- places of one kind take a card alike
kind_alike : (g : GameRules) (b : Board) (from to target : Place) (u : ℕ) → Joins from to → Joins from target → Takes g b u to
    → Takes g b u target → IsSameKind b to target → Alike (board_without b from) (board_without b from) to target
kind_alike g b from (Column i) (Column j) u joins joined takes taken kind =
    let long = columns-lifted b from in (
      omega (arith, long, takes.0),
      omega (arith, long, taken.0),
      ⊎_elim (λ e. ap (column (board_without b from)) e)
          (λ e. other_column b from i joins ∙ e.0 ∙ sym (other_column b from j joined ∙ e.1)) kind,
    )
kind_alike g b (Column h) (Cell i) (Cell j) u joins joined takes taken kind = (takes.1, taken.1, takes.2 ∙ sym taken.2)
kind_alike g b (Cell h) (Cell i) (Cell j) u joins joined takes taken kind = absurd joins
kind_alike g b Home (Cell i) (Cell j) u joins joined takes taken kind = absurd joins
kind_alike g b from Home Home u joins joined takes taken kind = tt
kind_alike g b from (Column i) (Cell j) u joins joined takes taken kind = absurd kind
kind_alike g b from (Column i) Home u joins joined takes taken kind = absurd kind
kind_alike g b from (Cell i) (Column j) u joins joined takes taken kind = absurd kind
kind_alike g b from (Cell i) Home u joins joined takes taken kind = absurd kind
kind_alike g b from Home (Column j) u joins joined takes taken kind = absurd kind
kind_alike g b from Home (Cell j) u joins joined takes taken kind = absurd kind

-- one card to places of one kind leads to one class
kind_class : (g : GameRules) (b : Board) (from source to target : Place) (u v : ℕ) → from ≡ source → u ≡ v → Joins from to
    → Joins source target → Takes g b u to → Takes g b v target → IsSameKind b to target
    → SameClass (board_with (board_without b from) u to) (board_with (board_without b source) v target)
kind_class g b from source to target u v e f joins joined takes taken kind =
    let taken_here : Takes g b u target = subst (λ n. Takes g b n target) (sym f) taken in
    let joined_here : Joins from target = subst (λ p. Joins p target) (sym e) joined in
    subst (λ p. SameClass (board_with (board_without b from) u to) (board_with (board_without b p) v target)) e
    (subst (λ n. SameClass (board_with (board_without b from) u to) (board_with (board_without b from) n target)) f
    (class-placed (board_without b from) (board_without b from) u to target (class-refl (board_without b from))
    (kind_alike g b from to target u joins joined_here takes taken_here kind)))

-- moves lead to one class exactly where they are alike
pub alike_class : (g : GameRules) (b : Board) (m n : Move) (x y : Board) → IsPosition b → Step g b m x → Step g b n y
    → IsAlike b m n ↔ SameClass x y
alike_class g b m n x y p s t = (
  λ alike. ⊎_elim
      (λ e. let card : s.card ≡ t.card = let one = s.playable in let two = t.playable in
      let same = ap (playable b) e.0 in cc in
      rw (s.after, t.after) (kind_class g b m.from n.from m.to n.to s.card t.card e.0 card s.joins t.joins s.takes t.takes e.1))
      (λ e. let one = stay_class g b m.from m.to s.card s.playable s.joins s.takes e.0 in
      let two = stay_class g b n.from n.to t.card t.playable t.joins t.takes e.1 in
      let left = board_with (board_without b m.from) s.card m.to in
      let right = board_with (board_without b n.from) t.card n.to in
      rw (s.after, t.after) (class-trans left b right (class-sym b left one) two)) alike,
  λ same. alike_from_class g b m.from m.to s.card n.from n.to t.card p s.playable t.playable s.joins t.joins s.takes t.takes
      (subst (λ z. SameClass z (board_with (board_without b n.from) t.card n.to)) s.after (subst (λ z. SameClass x z) t.after same)),
)
