-- A canonical board fits the game where any board of its class does.
use Rattle.std.proofs.Common.{◌≡◌, ℕ, zero, suc, ◌+◌, ◌<◌, ◌≤◌, Option, Some, None, List, [], ◌∷◌, get_or, cond, refl, ap, arith}
use Rattle.std.specs.Prelude.{sum_by, count_by, is_some}
use Rattle.std.proofs.lemmas.List.Sums.{sum_by-cons}
use Rattle.std.proofs.lemmas.List.Sorted.{sum_by-IsPermutation}
use Rattle.fc_cards.specs.declared.places.Place.TheVariants.{Cell}
use Rattle.fc_position.specs.Board.{Board, cell}
use Rattle.fc_position.specs.Position.{IsPosition}
use Rattle.fc_position.proofs.BoardLemmas.{cell_there, playable_below}
use Rattle.fc_canonical.specs.Order.{IsCanonical, cell_byte}
use Rattle.fc_canonical.specs.Spelled.{board_of_bytes}
use Rattle.fc_moves.proofs.ClassLemmas.{class_positions}
use Rattle.fc_moves.proofs.Rearrange.{one_full, full_most}
use Rattle.fc_canonical.specs.Laws.{CanonicalBoardsFit, CanonicalBoardsFitByCount, KeysOfGamesByCells}

-- where the first n are full, at least n are
many_full : (n : ℕ) (xs : List (Option ℕ)) → ((i : ℕ) → i < n → one_full (get_or xs i None) ≡ 1) → n ≤ sum_by one_full xs
many_full zero xs full = omega arith
many_full (suc n) [] full = absurd (let one = full 0 (omega arith) in omega (arith, one))
many_full (suc n) (x ∷ xs) full =
    let one : one_full x ≡ 1 = full 0 (omega arith) in
    omega (arith, sum_by-cons one_full x xs, one, many_full n xs (λ i a. full (suc i) (omega arith)))

-- what is spelled by the byte of a card is full
byte_full : (x : Option ℕ) (u : ℕ) → cell_byte x ≤ u → u < 52 → one_full x ≡ 1
byte_full None u low below = absurd (omega (arith, low, below))
byte_full (Some c) u low below = refl

-- so a canonical position with at most n full cells has no card in the others
no_card : (n : ℕ) (b : Board) (i u : ℕ) → IsPosition b → IsCanonical b → sum_by one_full b.cells ≤ n → n ≤ i
    → cell b i ≡ Some u → ⊥
no_card n b i u p ordered most past there =
    let inside = cell_there b i u there in
    let below = playable_below b (Cell i) u p there in
    let first : (j : ℕ) → j < i + 1 → one_full (get_or b.cells j None) ≡ 1 = λ j lt.
    let order = ordered.cells j i None (omega arith) inside in
    let byte : cell_byte (cell b i) ≡ u = ap cell_byte there in
    byte_full (get_or b.cells j None) u (omega (arith, order, byte)) below in
    omega (arith, most, past, many_full (i + 1) b.cells first)

none_by : (x : Option ℕ) → ((u : ℕ) → x ≡ Some u → ⊥) → x ≡ None
none_by None no_full = refl
none_by (Some u) no_full = absurd (no_full u refl)

pub canonical_fits : CanonicalBoardsFit
canonical_fits g x c p s ordered =
    let position = class_positions x c p.position s in
    let few = full_most g.cells x.cells p.fits in
    let same = sum_by-IsPermutation one_full x.cells c.cells s.cells in
    record {
      position = position;
      fits = λ i past. none_by (cell c i)
          (λ u there. no_card g.cells c i u position ordered (omega (arith, few, same)) past there);
    }

-- the full cells counted by a test are those counted by their shape
counted : (xs : List (Option ℕ)) → count_by is_some xs ≡ sum_by one_full xs
counted [] = refl
counted (None ∷ xs) =
    omega (arith, sum_by-cons (λ x. cond (is_some x) 1 0) None xs, sum_by-cons one_full None xs, counted xs)
counted (Some u ∷ xs) =
    omega (arith, sum_by-cons (λ x. cond (is_some x) 1 0) (Some u) xs, sum_by-cons one_full (Some u) xs, counted xs)

pub fits_by_count : CanonicalBoardsFitByCount
fits_by_count n b p ordered = (
  λ fits. let few = full_most n b.cells fits in omega (arith, few, counted b.cells),
  λ few i past. none_by (cell b i)
      (λ u there. no_card n b i u p ordered (omega (arith, few, counted b.cells)) past there),
)

pub keys_by_cells : KeysOfGamesByCells
keys_by_cells g key = (
  λ k. record {
    position = k.position.position;
    few = (fits_by_count g.cells (board_of_bytes key) k.position.position k.ordered).0 k.position.fits;
    ordered = k.ordered;
    bytes = k.bytes;
  },
  λ k. record {
    position = record { position = k.position; fits = (fits_by_count g.cells (board_of_bytes key) k.position k.ordered).1 k.few };
    ordered = k.ordered;
    bytes = k.bytes;
  },
)
