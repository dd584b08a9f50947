-- How long a key is, by the cards that are home and the cells that are full.
use Rattle.std.proofs.Common.{◌≡◌, ◌==◌, ℕ, zero, suc, ◌+◌, ◌*◌, ◌/◌, ◌%◌, ◌<◌, ◌≤◌, true, false, cond, nat_le, min, Option, Some, None, List, [], ◌∷◌, ◌++◌, length, refl, ◌∙◌, ap, ⊎_elim, arith}
use Rattle.std.specs.Prelude.{All, slice_index, sum_by, count_by, is_some, not, map, take, drop}
use Rattle.std.specs.List.{flat_map}
use Rattle.std.proofs.lemmas.Bool.{cases_lt}
use Rattle.std.proofs.lemmas.Bool.Decides.{nat_tests}
use Rattle.std.proofs.lemmas.List.{length-map, take_at}
use Rattle.std.proofs.lemmas.List.Concat.{length-flat_map}
use Rattle.std.proofs.lemmas.List.Elements.{All-head, All-tail}
use Rattle.std.proofs.lemmas.List.Sums.{sum_by-cons}
use Rattle.fc_position.specs.Board.{Board, count_at_home, count_in_cell, count_in_column, places}
use Rattle.fc_position.specs.Position.{IsPosition}
use Rattle.fc_position.specs.Tally.{AllCards}
use Rattle.fc_position.proofs.BoardLemmas.{home_most}
use Rattle.fc_canonical.specs.Key.{board_bytes, column_bytes, BeginsWithKey}
use Rattle.fc_canonical.specs.Order.{cell_byte, full_cells}
use Rattle.fc_canonical.specs.inner.Parts.{IsSmall}
use Rattle.fc_canonical.proofs.ReadLemmas.{board_cells, board_counts}
use Rattle.fc_canonical.proofs.KeyLemmas.{columns_hold, key_size, small_cells}
use Rattle.fc_canonical.proofs.WrittenLemmas.{length-bytes}

-- the sum of what a function gives of the numbers below n
abbrev total : (ℕ → ℕ) → ℕ → ℕ
total f zero = 0
total f (suc n) = total f n + f n

total_same : (f h : ℕ → ℕ) (n : ℕ) → ((c : ℕ) → c < n → f c ≡ h c) → total f n ≡ total h n
total_same f h zero same = refl
total_same f h (suc n) same =
    let before = total_same f h n (λ c lt. same c (omega (arith, lt))) in
    let last = same n (omega arith) in
    omega (arith, before, last)

total_add : (f h : ℕ → ℕ) (n : ℕ) → total (λ c. f c + h c) n ≡ total f n + total h n
total_add f h zero = refl
total_add f h (suc n) = let before = total_add f h n in omega (arith, before)

total_zero : (n : ℕ) → total (λ c. 0) n ≡ 0
total_zero zero = refl
total_zero (suc n) = let before = total_zero n in omega (arith, before)

total_ones : (n : ℕ) → total (λ c. 1) n ≡ n
total_ones zero = refl
total_ones (suc n) = let before = total_ones n in omega (arith, before)

-- a number is once among the numbers below n, where it is below it
total_none : (x n : ℕ) → n ≤ x → total (λ c. cond (x == c) 1 0) n ≡ 0
total_none x zero le = refl
total_none x (suc n) le =
    let before = total_none x n (omega (arith, le)) in
    let other : (x == n) ≡ false = grind (arith, nat_tests) in
    let last : ◌≡◌ {A = ℕ} (cond (x == n) 1 0) 0 = ap (λ t. cond t 1 0) other in
    omega (arith, before, last)

total_one : (x n : ℕ) → x < n → total (λ c. cond (x == c) 1 0) n ≡ 1
total_one x zero lt = absurd (omega (arith, lt))
total_one x (suc n) lt =
    ⊎_elim
    (λ below.
    let before = total_one x n below in
    let other : (x == n) ≡ false = grind (arith, nat_tests) in
    let last : ◌≡◌ {A = ℕ} (cond (x == n) 1 0) 0 = ap (λ t. cond t 1 0) other in
    omega (arith, before, last))
    (λ le.
    let before = total_none x n le in
    let same : (x == n) ≡ true = grind (arith, nat_tests) in
    let last : ◌≡◌ {A = ℕ} (cond (x == n) 1 0) 1 = ap (λ t. cond t 1 0) same in
    omega (arith, before, last))
    (cases_lt x n)

-- so the cards of a column are counted by their numbers, and those of all columns, and of the cells
total_column : (cards : List ℕ) → AllCards cards → total (λ c. count_in_column c cards) 52 ≡ length cards
total_column [] all = total_zero 52
total_column (x ∷ xs) all =
    let first = total_one x 52 (All-head (λ c. c < 52) x xs all) in
    let rest = total_column xs (All-tail (λ c. c < 52) x xs all) in
    let both = total_add (λ c. cond (x == c) 1 0) (λ c. count_in_column c xs) 52 in
    total_same (λ c. count_in_column c (x ∷ xs)) (λ c. cond (x == c) 1 0 + count_in_column c xs) 52
    (λ c lt. sum_by-cons (λ y. cond (y == c) 1 0) x xs)
    ∙ omega (arith, first, rest, both)

total_columns : (columns : List (List ℕ)) → All AllCards columns
    → total (λ c. sum_by (count_in_column c) columns) 52 ≡ sum_by (λ x. length x) columns
total_columns [] all = total_zero 52
total_columns (x ∷ xs) all =
    let first = total_column x (All-head AllCards x xs all) in
    let rest = total_columns xs (All-tail AllCards x xs all) in
    let both = total_add (λ c. count_in_column c x) (λ c. sum_by (count_in_column c) xs) 52 in
    let sum = sum_by-cons (λ (y : List ℕ). length y) x xs in
    total_same (λ c. sum_by (count_in_column c) (x ∷ xs)) (λ c. count_in_column c x + sum_by (count_in_column c) xs) 52
    (λ c lt. sum_by-cons (count_in_column c) x xs)
    ∙ omega (arith, first, rest, both, sum)

total_cell : (cell : Option ℕ) → IsSmall cell → total (λ c. count_in_cell c cell) 52 ≡ cond (is_some cell) 1 0
total_cell None small = total_zero 52
total_cell (Some x) small = total_one x 52 small

total_cells : (cells : List (Option ℕ)) → All IsSmall cells → total (λ c. sum_by (count_in_cell c) cells) 52 ≡ count_by is_some cells
total_cells [] all = total_zero 52
total_cells (x ∷ xs) all =
    let first = total_cell x (All-head IsSmall x xs all) in
    let rest = total_cells xs (All-tail IsSmall x xs all) in
    let both = total_add (λ c. count_in_cell c x) (λ c. sum_by (count_in_cell c) xs) 52 in
    let sum = sum_by-cons (λ (y : Option ℕ). cond (is_some y) 1 0) x xs in
    total_same (λ c. sum_by (count_in_cell c) (x ∷ xs)) (λ c. count_in_cell c x + sum_by (count_in_cell c) xs) 52
    (λ c lt. sum_by-cons (count_in_cell c) x xs)
    ∙ omega (arith, first, rest, both, sum)

-- four numbers at a time
total_fours : (f : ℕ → ℕ) (k : ℕ) → total f (4 * k) ≡ total (λ r. f (4 * r) + f (4 * r + 1) + f (4 * r + 2) + f (4 * r + 3)) k
total_fours f zero = refl
total_fours f (suc k) =
    let before = total_fours f k in
    let four : 4 * suc k ≡ suc (suc (suc (suc (4 * k)))) = omega arith in
    ap (total f) four
    ∙ omega (
      arith,
      before,
      ap f (let e : 4 * k + 1 ≡ suc (4 * k) = omega arith in e),
      ap f (let e : 4 * k + 2 ≡ suc (suc (4 * k)) = omega arith in e),
      ap f (let e : 4 * k + 3 ≡ suc (suc (suc (4 * k))) = omega arith in e),
    )

-- so many of thirteen ranks are home
total_rank : (h k : ℕ) → total (λ r. cond (nat_le (r + 1) h) 1 0) k ≡ min k h
total_rank h zero = omega arith
total_rank h (suc k) =
    ⊎_elim
    (λ below.
    let before = total_rank h k in
    let home : nat_le (k + 1) h ≡ true = grind (arith, nat_tests) in
    let last : ◌≡◌ {A = ℕ} (cond (nat_le (k + 1) h) 1 0) 1 = ap (λ t. cond t 1 0) home in
    omega (arith, before, last, below))
    (λ le.
    let before = total_rank h k in
    let away : nat_le (k + 1) h ≡ false = grind (arith, nat_tests) in
    let last : ◌≡◌ {A = ℕ} (cond (nat_le (k + 1) h) 1 0) 0 = ap (λ t. cond t 1 0) away in
    omega (arith, before, last, le))
    (cases_lt k h)

-- whether the card of this rank, from 0, and suit is home
home_at : (homes : List ℕ) (r s : ℕ) → s < 4 → count_at_home (4 * r + s) homes ≡ cond (nat_le (r + 1) (slice_index homes s)) 1 0
home_at homes r s lt =
    let a : (4 * r + s) / 4 ≡ r = omega (arith, lt) in
    let b : (4 * r + s) % 4 ≡ s = omega (arith, lt) in
    ap (λ k. cond (nat_le (k + 1) (slice_index homes ((4 * r + s) % 4))) 1 0) a
    ∙ ap (λ k. cond (nat_le (r + 1) (slice_index homes k)) 1 0) b

total_homes : (b : Board) → IsPosition b → total (λ c. count_at_home c b.homes) 52
    ≡ slice_index b.homes 0 + slice_index b.homes 1 + slice_index b.homes 2 + slice_index b.homes 3
total_homes b p =
    let homes = b.homes in
    let of : ℕ → ℕ → ℕ = λ s r. cond (nat_le (r + 1) (slice_index homes s)) 1 0 in
    total_fours (λ c. count_at_home c homes) 13
    ∙ total_same (λ r. count_at_home (4 * r) homes + count_at_home (4 * r + 1) homes + count_at_home (4 * r + 2) homes
    + count_at_home (4 * r + 3) homes) (λ r. of 0 r + of 1 r + of 2 r + of 3 r) 13
    (λ r lt. omega (
      arith,
      ap (λ c. count_at_home c homes) (let e : 4 * r ≡ 4 * r + 0 = omega arith in e) ∙ home_at homes r 0 (omega arith),
      home_at homes r 1 (omega arith),
      home_at homes r 2 (omega arith),
      home_at homes r 3 (omega arith),
    ))
    ∙ total_add (λ r. of 0 r + of 1 r + of 2 r) (of 3) 13
    ∙ omega (
      arith,
      total_add (λ r. of 0 r + of 1 r) (of 2) 13,
      total_add (of 0) (of 1) 13,
      total_rank (slice_index homes 0) 13,
      total_rank (slice_index homes 1) 13,
      total_rank (slice_index homes 2) 13,
      total_rank (slice_index homes 3) 13,
      home_most b p 0,
      home_most b p 1,
      home_most b p 2,
      home_most b p 3,
    )

-- the cards in columns, in cells and at home are all the cards
cards_all : (b : Board) → IsPosition b → sum_by (λ x. length x) b.columns + full_cells b
    + (slice_index b.homes 0 + slice_index b.homes 1 + slice_index b.homes 2 + slice_index b.homes 3) ≡ 52
cards_all b p =
    let columns = total_columns b.columns (λ i d lt. (columns_hold b p i d lt).all) in
    let cells = total_cells b.cells (small_cells b p) in
    let homes = total_homes b p in
    let each = total_same (places b) (λ c. 1) 52 p.once in
    let both = total_add (λ c. sum_by (count_in_column c) b.columns + sum_by (count_in_cell c) b.cells) (λ c. count_at_home c b.homes) 52 in
    let lying = total_add (λ c. sum_by (count_in_column c) b.columns) (λ c. sum_by (count_in_cell c) b.cells) 52 in
    omega (arith, columns, cells, homes, each, both, lying, total_ones 52)

-- so a key's length is told by its counts and its cells
pub key_long : (b : Board) → IsPosition b → length (board_bytes b) + full_cells b
    + (slice_index b.homes 0 + slice_index b.homes 1 + slice_index b.homes 2 + slice_index b.homes 3) ≡ 68
key_long b p =
    omega (arith, cards_all b p, key_size b p, length-flat_map column_bytes b.columns, length-bytes b.columns, p.columns)

-- the cells that are full, by their bytes
full_told : (cells : List (Option ℕ)) → All IsSmall cells → count_by (λ byte. not (byte == 255)) (map cell_byte cells) ≡ count_by is_some cells
full_told [] all = refl
full_told (None ∷ cells) all =
    let rest = full_told cells (All-tail IsSmall None cells all) in
    let one = sum_by-cons (λ (byte : ℕ). cond (not (byte == 255)) 1 0) 255 (map cell_byte cells) in
    let two = sum_by-cons (λ (x : Option ℕ). cond (is_some x) 1 0) None cells in
    omega (arith, rest, one, two)
full_told (Some c ∷ cells) all =
    let rest = full_told cells (All-tail IsSmall (Some c) cells all) in
    let small = All-head IsSmall (Some c) cells all in
    let other : (c == 255) ≡ false = grind (arith, nat_tests) in
    let here : ◌≡◌ {A = ℕ} (cond (not (c == 255)) 1 0) 1 = ap (λ t. cond (not t) 1 0) other in
    let one = sum_by-cons (λ (byte : ℕ). cond (not (byte == 255)) 1 0) c (map cell_byte cells) in
    let two = sum_by-cons (λ (x : Option ℕ). cond (is_some x) 1 0) (Some c) cells in
    omega (arith, rest, here, one, two)

-- a key's length by its first eight bytes
pub size_told : (bytes counts cells : List ℕ) (b : Board) (n : ℕ) → BeginsWithKey bytes b n → counts ≡ take 4 bytes
    → cells ≡ take 4 (drop 4 bytes)
    → n + (slice_index counts 0 + slice_index counts 1 + slice_index counts 2 + slice_index counts 3
    + count_by (λ byte. not (byte == 255)) cells) ≡ 68
size_told bytes counts cells b n key front next =
    let p = key.position in
    let homes : counts ≡ b.homes = front ∙ ap (take 4) (board_counts bytes b key.rest key.parts)
    ∙ take_at b.homes (map cell_byte b.cells ++ (flat_map column_bytes b.columns ++ key.rest)) 4 p.homes in
    let four : length (map cell_byte b.cells) ≡ 4 = length-map b.cells cell_byte ∙ p.cells in
    let held : cells ≡ map cell_byte b.cells = next ∙ ap (take 4) (board_cells bytes b key.rest p.homes key.parts)
    ∙ take_at (map cell_byte b.cells) (flat_map column_bytes b.columns ++ key.rest) 4 four in
    let full : count_by (λ byte. not (byte == 255)) cells ≡ full_cells b =
    ap (count_by (λ byte. not (byte == 255))) held ∙ full_told b.cells (small_cells b p) in
    omega (
      arith,
      key_long b p,
      key.size,
      full,
      ap (λ l. slice_index l 0) homes,
      ap (λ l. slice_index l 1) homes,
      ap (λ l. slice_index l 2) homes,
      ap (λ l. slice_index l 3) homes,
    )
