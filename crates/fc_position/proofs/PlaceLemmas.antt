-- Where a card stands: at one place of a position, and so in one column, and playable at one place.
use Rattle.std.proofs.Common.{◌≡◌, ◌≢◌, ℕ, ◌+◌, ◌<◌, ◌≤◌, Some, None, List, [], length, set, get_or, cond, eqb, refl, sym, ◌∙◌, ap, ⊎_elim, arith}
use Rattle.std.specs.Prelude.{sum_by}
use Rattle.std.proofs.lemmas.List.{get_or-set_other, length-set}
use Rattle.std.proofs.lemmas.List.Sums.{sum_by-set, get_or-le-sum_by}
use Rattle.std.proofs.lemmas.Bool.{cases_eq}
use Rattle.std.proofs.lemmas.Bool.Decides.{nat_tests}
use Rattle.fc_cards.specs.declared.places.Place.{Place}
use Rattle.fc_cards.specs.declared.places.Place.TheVariants.{Column, Cell, Home}
use Rattle.fc_position.specs.Board.{Board, column, cell, playable, count_in_column, count_in_cell}
use Rattle.fc_position.specs.Position.{IsPosition}
use Rattle.fc_position.proofs.BoardLemmas.{column_there, cell_there, last_counted, places_most}

-- two places with one number each add up
pub two_of_sum : {X : Type 0} (f : X → ℕ) (xs : List X) (i j : ℕ) (d : X) → f d ≡ 0 → i ≢ j → i < length xs → j < length xs
    → f (get_or xs i d) + f (get_or xs j d) ≤ sum_by f xs
two_of_sum f xs i j d none other one two =
    let gone = set xs i d in
    let long : length gone ≡ length xs = length-set xs i d in
    let changed = sum_by-set f xs i d d one in
    let kept = ap f (get_or-set_other xs i j d d (λ e. other (sym e))) in
    omega (arith, none, changed, kept, get_or-le-sum_by f gone j d (omega (arith, long)))

pub one_itself : (u : ℕ) → ◌≡◌ {A = ℕ} (cond (eqb u u) 1 0) 1
one_itself u = grind (arith, nat_tests)

-- a card that stands in two columns stands in one
pub one_column : (b : Board) (c i j : ℕ) → IsPosition b → i < length b.columns → j < length b.columns
    → 1 ≤ count_in_column c (column b i) → 1 ≤ count_in_column c (column b j) → i ≡ j
one_column b c i j p one two x y =
    ⊎_elim (λ e. e)
    (λ ne. absurd (omega (arith, two_of_sum (count_in_column c) b.columns i j [] refl ne one two, places_most b c p)))
    (cases_eq i j)

-- a playable card that stands in a column is playable there
pub in_column : (b : Board) (from : Place) (u k : ℕ) → IsPosition b → playable b from ≡ Some u → k < length b.columns
    → 1 ≤ count_in_column u (column b k) → from ≡ Column k
in_column b (Column i) u k p there inside some =
    ap (λ (n : ℕ). Column n) (one_column b u i k p (column_there b i u there) inside (last_counted (column b i) u there) some)
in_column b (Cell i) u k p there inside some =
    let held : count_in_cell u (cell b i) ≡ 1 = ap (count_in_cell u) there ∙ one_itself u in
    absurd (omega (
      arith,
      held,
      get_or-le-sum_by (count_in_cell u) b.cells i None (cell_there b i u there),
      get_or-le-sum_by (count_in_column u) b.columns k [] inside,
      places_most b u p,
    ))
in_column b Home u k p there inside some = absurd (cc there)

-- a card is playable at one place
pub source_once : (b : Board) (from to : Place) (u : ℕ) → IsPosition b → playable b from ≡ Some u → playable b to ≡ Some u → from ≡ to
source_once b from (Column j) u p x y =
    in_column b from u j p x (column_there b j u y) (last_counted (column b j) u y)
source_once b (Column i) (Cell j) u p x y =
    sym (in_column b (Cell j) u i p y (column_there b i u x) (last_counted (column b i) u x))
source_once b (Cell i) (Cell j) u p x y =
    let one : count_in_cell u (cell b i) ≡ 1 = ap (count_in_cell u) x ∙ one_itself u in
    let two : count_in_cell u (cell b j) ≡ 1 = ap (count_in_cell u) y ∙ one_itself u in
    ⊎_elim (λ e. ap (λ (n : ℕ). Cell n) e)
    (λ ne. absurd (omega (
      arith,
      one,
      two,
      two_of_sum (count_in_cell u) b.cells i j None refl ne (cell_there b i u x) (cell_there b j u y),
      places_most b u p,
    )))
    (cases_eq i j)
source_once b Home (Cell j) u p x y = absurd (cc x)
source_once b from Home u p x y = absurd (cc y)
