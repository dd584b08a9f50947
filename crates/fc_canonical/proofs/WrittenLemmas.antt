-- Keys as they are written: the order of the columns, the room for them, and the bytes one after the other.
use Rattle.std.proofs.Common.{◌≡◌, ℕ, zero, suc, ◌+◌, ◌<◌, ◌≤◌, Option, None, List, [], ◌∷◌, ◌++◌, length, map, take, get_or, refl, sym, ◌∙◌, ap, subst, arith}
use Rattle.std.specs.Prelude.{All, swap, sum_by, slice_index}
use Rattle.std.specs.List.{flat_map}
use Rattle.std.specs.List.Sorted.{IsPermutation, IsNonDecreasing, IsNonDecreasingBy}
use Rattle.std.proofs.lemmas.List.{map-id, length-map, get_or-map}
use Rattle.std.proofs.lemmas.List.Concat.{length-flat_map}
use Rattle.std.proofs.lemmas.List.Elements.{All-cons, All-nil}
use Rattle.std.proofs.lemmas.List.FromFn.{get_or-range_with_len}
use Rattle.std.proofs.lemmas.List.Sorted.{All-permutation, IsPermutation-keeps, IsPermutation-refl, IsPermutation-trans, IsPermutation-swap, IsPermutation-map, sum_by-IsPermutation}
use Rattle.std.proofs.lemmas.List.Sums.{sum_by-cons, sum_by_more_le}
use Rattle.fc_position.specs.Board.{Board, column}
use Rattle.fc_position.specs.Position.{IsPosition}
use Rattle.fc_position.proofs.LayoutLemmas.{eight, map-swap}
use Rattle.fc_position.proofs.BoardLemmas.{cards_most}
use Rattle.fc_canonical.specs.Key.{column_bytes, IsKeyOf}
use Rattle.fc_canonical.specs.Order.{column_order, cell_byte}

-- the numbers of the columns
abbrev pub eight_numbers : List ℕ
eight_numbers = 0 ∷ 1 ∷ 2 ∷ 3 ∷ 4 ∷ 5 ∷ 6 ∷ 7 ∷ []

-- each is below eight, in whatever order they stand
pub numbers_below : (ns : List ℕ) → IsPermutation eight_numbers ns → All (λ i. i < 8) ns
numbers_below ns p =
    All-permutation (λ i. i < 8) eight_numbers ns p
    (All-cons (λ i. i < 8) 0 (1 ∷ 2 ∷ 3 ∷ 4 ∷ 5 ∷ 6 ∷ 7 ∷ []) (omega arith)
    (All-cons (λ i. i < 8) 1 (2 ∷ 3 ∷ 4 ∷ 5 ∷ 6 ∷ 7 ∷ []) (omega arith)
    (All-cons (λ i. i < 8) 2 (3 ∷ 4 ∷ 5 ∷ 6 ∷ 7 ∷ []) (omega arith)
    (All-cons (λ i. i < 8) 3 (4 ∷ 5 ∷ 6 ∷ 7 ∷ []) (omega arith)
    (All-cons (λ i. i < 8) 4 (5 ∷ 6 ∷ 7 ∷ []) (omega arith)
    (All-cons (λ i. i < 8) 5 (6 ∷ 7 ∷ []) (omega arith)
    (All-cons (λ i. i < 8) 6 (7 ∷ []) (omega arith)
    (All-cons (λ i. i < 8) 7 ([]) (omega arith)
    (All-nil (λ i. i < 8))))))))))

-- the columns in the order of these numbers are a rearrangement of the columns
pub numbered_columns : (b : Board) (ns : List ℕ) → length b.columns ≡ 8 → IsPermutation eight_numbers ns
    → IsPermutation b.columns (map (column b) ns)
numbered_columns b ns long p =
    let all : map (column b) eight_numbers ≡ b.columns =
    eight (λ x. x) b.columns [] [] [] [] [] [] [] [] long ∙ map-id b.columns in
    subst (λ l. IsPermutation l (map (column b) ns)) all (IsPermutation-map (column b) eight_numbers ns p)

-- numbers by which the columns' orders rise
pub orders_rise : (b : Board) (orders ns : List ℕ) → length b.columns ≡ 8 → orders ≡ map column_order b.columns
    → IsPermutation eight_numbers ns → IsNonDecreasingBy (slice_index orders) ns
    → IsNonDecreasingBy (λ i. column_order (column b i)) ns
orders_rise b orders ns long e p up i j d le inside =
    let below = numbers_below ns p in
    let at : (n : ℕ) → n < 8 → slice_index orders n ≡ column_order (column b n) = λ n l.
    ap (λ o. slice_index o n) e ∙ get_or-map column_order b.columns n [] 0 (omega (arith, long)) in
    omega (arith, up i j d le inside, at (get_or ns i d) (below i d (omega arith)), at (get_or ns j d) (below j d inside))

-- numbers that rise already
pub orders_stand : (orders : List ℕ) → length orders ≡ 8 → IsNonDecreasing orders
    → IsNonDecreasingBy (slice_index orders) eight_numbers
orders_stand orders long up i j d le inside =
    let at : (n : ℕ) → n < 8 → get_or eight_numbers n d ≡ n = λ n l. get_or-range_with_len 0 8 n d l ∙ omega arith in
    omega (
      arith,
      up i j 0 le (omega (arith, long)),
      ap (slice_index orders) (at i (omega arith)),
      ap (slice_index orders) (at j inside),
    )

pub length-bytes : (columns : List (List ℕ)) → sum_by (λ x. length (column_bytes x)) columns ≡ length columns + sum_by (λ x. length x) columns
length-bytes [] = refl
length-bytes (x ∷ xs) =
    omega (arith, sum_by-cons (λ y. length (column_bytes y)) x xs, sum_by-cons (λ (y : List ℕ). length y) x xs, length-bytes xs)

-- the columns have at most 52 cards, so that they are spelled by at most sixty bytes
pub bytes_most : (b : Board) → IsPosition b → sum_by (λ x. length (column_bytes x)) b.columns ≤ 60
bytes_most b p = omega (arith, length-bytes b.columns, cards_most b p, p.columns)

map-take : {X Y : Type 0} (f : X → Y) (n : ℕ) (xs : List X) → map f (take n xs) ≡ take n (map f xs)
map-take f zero xs = refl
map-take f (suc n) [] = refl
map-take f (suc n) (x ∷ xs) = ap (λ l. f x ∷ l) (map-take f n xs)

-- so there is room for the next column
pub room_for_column : (b : Board) (ns : List ℕ) (i : ℕ) → IsPosition b → IsPermutation eight_numbers ns → i < length ns
    → length (flat_map column_bytes (map (column b) (take i ns))) + length (column b (get_or ns i 0)) < 60
room_for_column b ns i p perm inside =
    let columns = map (column b) ns in
    let same = sum_by-IsPermutation (λ x. length (column_bytes x)) b.columns columns (numbered_columns b ns p.columns perm) in
    let within : i < length columns = rw length-map inside in
    let here : get_or columns i [] ≡ column b (get_or ns i 0) = get_or-map (column b) ns i 0 [] inside in
    let more = sum_by_more_le (λ x. length (column_bytes x)) columns i [] within in
    let front : map (column b) (take i ns) ≡ take i columns = map-take (column b) i ns in
    let size : length (flat_map column_bytes (map (column b) (take i ns))) ≡ sum_by (λ x. length (column_bytes x)) (take i columns) =
    length-flat_map column_bytes (map (column b) (take i ns)) ∙ ap (sum_by (λ x. length (column_bytes x))) front in
    omega (arith, bytes_most b p, same, more, size, ap length here)

-- a rearrangement of what a function gives is what it gives of a rearrangement
pub rearranged_map : {X Y : Type 0} (f : X → Y) (xs : List X) (d : X) (zs : List Y) → IsPermutation (map f xs) zs
    → (ys : List X) × IsPermutation xs ys × (zs ≡ map f ys)
rearranged_map {X} f xs d zs p =
    IsPermutation-keeps (map f xs) (λ l. (ys : List X) × IsPermutation xs ys × (l ≡ map f ys))
    (xs, IsPermutation-refl xs, refl)
    (λ l i j a b (ys, q, e). let long : length l ≡ length ys = ap length e ∙ length-map ys f in
    let one : i < length ys = omega (arith, long) in
    let two : j < length ys = omega (arith, long) in (
      swap ys i j,
      IsPermutation-trans xs ys (swap ys i j) q (IsPermutation-swap ys (swap ys i j) i j one two refl),
      ap (λ m. swap m i j) e ∙ sym (map-swap f ys i j d one two),
    )) zs p

-- cells whose bytes are in order are in order
pub ordered_cells : (cells : List (Option ℕ)) → IsNonDecreasing (map cell_byte cells) → IsNonDecreasingBy cell_byte cells
ordered_cells cells up i j d le inside =
    let long : length (map cell_byte cells) ≡ length cells = length-map cells cell_byte in
    let fact = up i j (cell_byte d) le (omega (arith, long)) in
    let one = get_or-map cell_byte cells i d (cell_byte d) (omega arith) in
    let two = get_or-map cell_byte cells j d (cell_byte d) inside in
    omega (arith, fact, one, two)

-- columns by ordered numbers are in order
ordered_columns : (b : Board) (ns : List ℕ) → IsNonDecreasingBy (λ i. column_order (column b i)) ns
    → IsNonDecreasingBy column_order (map (column b) ns)
ordered_columns b ns up i j d le inside =
    let long : length (map (column b) ns) ≡ length ns = length-map ns (column b) in
    let fact = up i j 0 le (omega (arith, long)) in
    let one = ap column_order (get_or-map (column b) ns i 0 d (omega (arith, long))) in
    let two = ap column_order (get_or-map (column b) ns j 0 d (omega (arith, long))) in
    omega (arith, fact, one, two)

-- the counts, the cells' bytes in order and the columns by ordered numbers are the key
pub key_spells : (b : Board) (ns bytes key : List ℕ) → length b.columns ≡ 8 → IsPermutation eight_numbers ns
    → IsNonDecreasingBy (λ i. column_order (column b i)) ns → IsPermutation (map cell_byte b.cells) bytes
    → IsNonDecreasing bytes → key ≡ b.homes ++ bytes ++ flat_map column_bytes (map (column b) ns) → IsKeyOf b key
key_spells b ns bytes key long perm up cells rising e =
    let f = rearranged_map cell_byte b.cells None bytes cells in
    record {
      canonical = record { columns = map (column b) ns; cells = f.0; homes = b.homes };
      class = record { columns = numbered_columns b ns long perm; cells = f.1; homes = refl };
      ordered = record { columns = ordered_columns b ns up; cells = ordered_cells f.0 (subst IsNonDecreasing f.2 rising) };
      bytes = e ∙ ap (λ x. b.homes ++ x ++ flat_map column_bytes (map (column b) ns)) f.2;
    }
