-- A key's parts: counts, cells and columns that the bytes of a key are, and that make a key.
use Rattle.std.proofs.Common.{◌≡◌, ℕ, ◌+◌, ◌<◌, ◌≤◌, ◌↔◌, IsTrue, Option, Some, None, List, [], ◌∷◌, ◌++◌, length, map, take, drop, cond, eqb, Bool, true, false, not, eq-eqb, ne_eqb, refl, sym, ◌∙◌, ap, subst, ⊎_elim, arith}
use Rattle.std.specs.Prelude.{All, sum_by, count_by, is_some, ◌==◌}
use Rattle.std.specs.List.{flat_map}
use Rattle.std.specs.List.Sorted.{IsNonDecreasing, IsNonDecreasingBy}
use Rattle.std.proofs.lemmas.Bool.{cases_lt, cases_eq, cond-true, cond-false, false≢true}
use Rattle.std.proofs.lemmas.Bool.Decides.{nat_tests}
use Rattle.std.proofs.lemmas.List.{length-map, length-append, length-take-le, length-drop, take-append-drop, get_or-map}
use Rattle.std.proofs.lemmas.List.Sums.{sum_by-cons}
use Rattle.fc_position.specs.Board.{Board, places, count_in_column, count_in_cell, count_at_home}
use Rattle.fc_position.specs.Position.{IsPosition}
use Rattle.fc_canonical.specs.Key.{column_bytes, board_bytes}
use Rattle.fc_canonical.specs.Order.{IsCanonical, cell_byte, full_cells}
use Rattle.fc_canonical.specs.inner.Parts.{times_due, count_in_cells, AreCells, AreColumns}
use Rattle.fc_canonical.specs.Spelled.{board_of_bytes, spelled_cell, IsKeyFor}
use Rattle.fc_canonical.proofs.KeyLemmas.{same_fronts, key_front, small_cells}
use Rattle.fc_canonical.proofs.WrittenLemmas.{ordered_cells}
use Rattle.fc_canonical.proofs.ReadLemmas.{counts_most}
use Rattle.fc_canonical.proofs.SpelledLemmas.{spelled_back, cells_back}

-- a cell is spelled by the byte that it is read from
byte_back : (x : ℕ) → cell_byte (spelled_cell x) ≡ x
byte_back x =
    ⊎_elim (λ e. ap cell_byte (cond-true (eqb x 255) None (Some x) (eq-eqb x 255 e)) ∙ sym e)
    (λ ne. ap cell_byte (cond-false (eqb x 255) None (Some x) (ne_eqb x 255 ne))) (cases_eq x 255)

bytes_back : (xs : List ℕ) → map cell_byte (map spelled_cell xs) ≡ xs
bytes_back [] = refl
bytes_back (x ∷ xs) = ap (λ y. y ∷ map cell_byte (map spelled_cell xs)) (byte_back x) ∙ ap (λ ys. x ∷ ys) (bytes_back xs)

-- it holds a card where the byte isn't 255
full_by : (b : Bool) (x : ℕ) → ◌≡◌ {A = ℕ} (cond (is_some (cond b None (Some x))) 1 0) (cond (not b) 1 0)
full_by true x = refl
full_by false x = refl

full_bytes : (xs : List ℕ) → count_by is_some (map spelled_cell xs) ≡ count_by (λ byte. not (byte == 255)) xs
full_bytes [] = refl
full_bytes (x ∷ xs) =
    omega (
      arith,
      sum_by-cons (λ y. cond (is_some y) 1 0) (spelled_cell x) (map spelled_cell xs),
      sum_by-cons (λ y. cond (not (eqb y 255)) 1 0) x xs,
      full_by (eqb x 255) x,
      full_bytes xs,
    )

-- the cards in the cells are counted by their bytes
counted_bytes : (c : ℕ) (xs : List ℕ) → sum_by (count_in_cell c) (map spelled_cell xs) ≡ count_in_cells c xs
counted_bytes c [] = refl
counted_bytes c (x ∷ xs) =
    omega (
      arith,
      sum_by-cons (count_in_cell c) (spelled_cell x) (map spelled_cell xs),
      sum_by-cons (λ y. count_in_cell c (spelled_cell y)) x xs,
      counted_bytes c xs,
    )

-- the bytes are four counts, four cells and the rest
pub record AreSplit (bytes counts cells rest : List ℕ) : Type 0 where
  pub four : length counts ≡ 4
  pub also : length cells ≡ 4
  pub parts : bytes ≡ counts ++ cells ++ rest

pub are_split : (bytes front rest counts cells : List ℕ) → 8 ≤ length bytes → front ≡ take 8 bytes → rest ≡ drop 8 bytes
    → counts ≡ take 4 front → cells ≡ drop 4 front → AreSplit bytes counts cells rest
are_split bytes front rest counts cells long first last one two =
    let size : length front ≡ 8 = ap length first ∙ length-take-le 8 bytes long in
    record {
      four = ap length one ∙ length-take-le 4 front (omega (arith, size));
      also = omega (arith, ap length two, length-drop 4 front, size);
      parts = sym (take-append-drop 8 bytes)
          ∙ ap (λ l. l ++ drop 8 bytes) (sym first ∙ sym (take-append-drop 4 front) ∙ ap (λ l. l ++ drop 4 front) (sym one))
          ∙ ap (λ l. (counts ++ l) ++ drop 8 bytes) (sym two) ∙ ap (λ l. (counts ++ cells) ++ l) (sym last);
    }

-- what is told of the counts, the cells and the rest of a key
pub record AreParts (most : ℕ) (counts cells rest : List ℕ) : Type 0 where
  pub low : All (λ n. n ≤ 13) counts
  pub stand : AreCells most cells
  pub few : (c : ℕ) → count_at_home c counts + count_in_cells c cells ≤ times_due c
  pub columns : (read : ℕ → ℕ) → ((c : ℕ) → read c ≡ count_at_home c counts + count_in_cells c cells) → AreColumns read 0 8 rest

-- on a position each number has as many places as are due
due_card : (c : ℕ) → c < 52 → times_due c ≡ 1
unfolding times_due
due_card c below = grind (arith, nat_tests)

due_other : (c : ℕ) → 52 ≤ c → times_due c ≡ 0
unfolding times_due
due_other c above = grind (arith, nat_tests)

places_due : (b : Board) → IsPosition b → (c : ℕ) → places b c ≡ times_due c
places_due b p c =
    ⊎_elim (λ below. p.once c below ∙ sym (due_card c below)) (λ above. p.no_other c above ∙ sym (due_other c above)) (cases_lt c 52)

-- the parts make a key
key_of_parts : (most : ℕ) (bytes counts cells rest : List ℕ) (read : ℕ → ℕ) → AreSplit bytes counts cells rest
    → AreCells most cells → ((c : ℕ) → read c ≡ count_at_home c counts + count_in_cells c cells) → AreColumns read 0 8 rest
    → IsKeyFor most bytes
key_of_parts most bytes counts cells rest read split stand each a =
    let b : Board = record { columns = a.columns; cells = map spelled_cell cells; homes = counts } in
    let places : (c : ℕ) → places b c ≡ times_due c = λ c. omega (arith, each c, a.each c, counted_bytes c cells) in
    let p : IsPosition b = record {
      columns = a.many;
      cells = length-map cells spelled_cell ∙ split.also;
      homes = split.four;
      once = λ c below. places c ∙ due_card c below;
      no_other = λ c above. places c ∙ due_other c above;
    } in
    let written : bytes ≡ board_bytes b =
    split.parts ∙ ap (λ l. counts ++ cells ++ l) a.bytes
    ∙ ap (λ l. counts ++ l ++ flat_map column_bytes a.columns) (sym (bytes_back cells)) in
    let back : board_of_bytes bytes ≡ b = ap board_of_bytes written ∙ spelled_back b p in
    let ordered : IsCanonical b = record {
      columns = a.rising;
      cells = ordered_cells (map spelled_cell cells) (subst IsNonDecreasing (sym (bytes_back cells)) stand.rising);
    } in
    let few : full_cells b ≤ most = omega (arith, full_bytes cells, stand.few) in
    record {
      position = subst IsPosition (sym back) p;
      few = subst (λ x. full_cells x ≤ most) (sym back) few;
      ordered = subst IsCanonical (sym back) ordered;
      bytes = written ∙ ap board_bytes (sym back);
    }

-- the bytes of cells in order rise
cells_rise : (cells : List (Option ℕ)) → IsNonDecreasingBy cell_byte cells → IsNonDecreasing (map cell_byte cells)
cells_rise cells up i j d le inside =
    let long : length (map cell_byte cells) ≡ length cells = length-map cells cell_byte in
    let fact = up i j None le (omega (arith, long)) in
    let one = get_or-map cell_byte cells i None d (omega (arith, long)) in
    let two = get_or-map cell_byte cells j None d (omega (arith, long)) in
    omega (arith, fact, one, two)

-- and a key has them
pub parts_of_key : (most : ℕ) (bytes counts cells rest : List ℕ) → AreSplit bytes counts cells rest → IsKeyFor most bytes
    → AreParts most counts cells rest
parts_of_key most bytes counts cells rest split k =
    let b = board_of_bytes bytes in
    let p = k.position in
    let eight : length (counts ++ cells) ≡ 8 = omega (arith, length-append counts cells, split.four, split.also) in
    let head = same_fronts (counts ++ cells) (b.homes ++ map cell_byte b.cells) rest (flat_map column_bytes b.columns)
    (eight ∙ sym (key_front b p)) (sym split.parts ∙ k.bytes) in
    let front = same_fronts counts b.homes cells (map cell_byte b.cells) (split.four ∙ sym p.homes) head.0 in
    let back : map spelled_cell cells ≡ b.cells = ap (map spelled_cell) front.1 ∙ cells_back b.cells (small_cells b p) in
    let in_cells : (c : ℕ) → count_in_cells c cells ≡ sum_by (count_in_cell c) b.cells = λ c.
    sym (counted_bytes c cells) ∙ ap (sum_by (count_in_cell c)) back in
    let each : (c : ℕ) → sum_by (count_in_column c) b.columns + (count_at_home c counts + count_in_cells c cells) ≡ times_due c = λ c.
    omega (arith, places_due b p c, in_cells c, ap (count_at_home c) front.0) in
    record {
      low = subst (All (λ n. n ≤ 13)) (sym front.0) (counts_most b p);
      stand = record {
        rising = subst IsNonDecreasing (sym front.1) (cells_rise b.cells k.ordered.cells);
        few = omega (arith, full_bytes cells, ap (count_by is_some) back, k.few);
      };
      few = λ c. omega (arith, each c);
      columns = λ read same. record {
        columns = b.columns;
        many = p.columns;
        from = λ i d inside. omega arith;
        rising = k.ordered.columns;
        each = λ c. omega (arith, same c, each c);
        bytes = head.1;
      };
    }

-- what the last test tells of the rest is told of the key
pub key_told : (most : ℕ) (bytes counts cells rest : List ℕ) (home read : ℕ → ℕ) (told : Bool)
    → AreSplit bytes counts cells rest → AreCells most cells → ((c : ℕ) → home c ≡ count_at_home c counts)
    → ((c : ℕ) → read c ≡ home c + count_in_cells c cells) → IsTrue told ↔ AreColumns read 0 8 rest
    → IsTrue told ↔ IsKeyFor most bytes
key_told most bytes counts cells rest home read told split stand at_home added last =
    let each : (c : ℕ) → read c ≡ count_at_home c counts + count_in_cells c cells = λ c. omega (arith, at_home c, added c) in (
      λ t. key_of_parts most bytes counts cells rest read split stand each (last.0 t),
      λ k. last.1 ((parts_of_key most bytes counts cells rest split k).columns read each),
    )

-- where a card stands too often at home and in cells, no key is told
pub key_refused : (most : ℕ) (bytes counts cells rest : List ℕ) (home : ℕ → ℕ) (told : Bool) → AreSplit bytes counts cells rest
    → ((c : ℕ) → home c ≡ count_at_home c counts) → told ≡ false → ((c : ℕ) × (times_due c < home c + count_in_cells c cells))
    → IsTrue told ↔ IsKeyFor most bytes
key_refused most bytes counts cells rest home told split at_home none (c, over) = (
  λ t. absurd (false≢true (sym none ∙ t)),
  λ k. absurd (omega (arith, (parts_of_key most bytes counts cells rest split k).few c, at_home c, over)),
)
