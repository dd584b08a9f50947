-- Keys read back.
use Rattle.std.proofs.Common.{◌≡◌, ℕ, ◌+◌, ◌-◌, ◌≤◌, Option, Some, None, List, [], ◌∷◌, ◌++◌, length, map, take, drop, refl, sym, ◌∙◌, ap, subst, append_assoc, arith}
use Rattle.std.specs.Prelude.{All}
use Rattle.std.specs.List.{flat_map}
use Rattle.std.proofs.lemmas.List.{take_at, drop_at, length-append, length-map, length-take, append-nil, take-append-drop}
use Rattle.std.proofs.Math.Seq.{take-append-add}
use Rattle.std.proofs.lemmas.List.Elements.{All-head, All-tail}
use Rattle.std.proofs.lemmas.Bool.Decides.{nat_tests}
use Rattle.fc_position.specs.Board.{Board}
use Rattle.fc_position.specs.Position.{IsPosition}
use Rattle.fc_moves.specs.GameRules.{IsPositionOf}
use Rattle.fc_moves.specs.Class.{SameClass}
use Rattle.fc_moves.proofs.BackLemmas.{same_board}
use Rattle.fc_canonical.specs.Key.{column_bytes, board_bytes, HasExtent}
use Rattle.fc_canonical.specs.Order.{IsCanonical, cell_byte}
use Rattle.fc_canonical.specs.inner.Parts.{IsSmall}
use Rattle.fc_canonical.proofs.KeyLemmas.{small_cells, key_front, same_fronts, columns_once}
use Rattle.fc_canonical.proofs.FitLemmas.{canonical_fits}
use Rattle.fc_canonical.specs.Spelled.{board_of_bytes, spelled_cell, spelled_columns}
use Rattle.fc_canonical.specs.Laws.{KeysSpellPositions, KeysBeginThemselves, FrontKeysSpellTheirBoard, ExtentsAreOne, FrontsHaveTheirExtent}

-- each part is read back
cell_back : (x : Option ℕ) → IsSmall x → spelled_cell (cell_byte x) ≡ x
cell_back None small = refl
cell_back (Some c) small = grind (arith, nat_tests)

pub cells_back : (xs : List (Option ℕ)) → All IsSmall xs → map spelled_cell (map cell_byte xs) ≡ xs
cells_back [] all = refl
cells_back (x ∷ xs) all =
    ap (λ y. y ∷ map spelled_cell (map cell_byte xs)) (cell_back x (All-head IsSmall x xs all))
    ∙ ap (λ ys. x ∷ ys) (cells_back xs (All-tail IsSmall x xs all))

columns_back : (xs : List (List ℕ)) (after : List ℕ) → spelled_columns (length xs) (flat_map column_bytes xs ++ after) ≡ xs
columns_back [] after = refl
columns_back (x ∷ xs) after =
    let rest = flat_map column_bytes xs ++ after in
    let split : (x ++ flat_map column_bytes xs) ++ after ≡ x ++ rest = append_assoc x (flat_map column_bytes xs) after in
    ap (λ l. take (length x) l ∷ spelled_columns (length xs) (drop (length x) l)) split
    ∙ ap (λ l. l ∷ spelled_columns (length xs) (drop (length x) (x ++ rest))) (take_at x rest (length x) refl)
    ∙ ap (λ l. x ∷ spelled_columns (length xs) l) (drop_at x rest (length x) refl)
    ∙ ap (λ l. x ∷ l) (columns_back xs after)

-- the bytes of a position spell it, whatever follows
pub spelled_front : (b : Board) (after : List ℕ) → IsPosition b → board_of_bytes (board_bytes b ++ after) ≡ b
unfolding board_of_bytes
spelled_front b after p =
    let cells : length (map cell_byte b.cells) ≡ 4 = length-map b.cells cell_byte ∙ p.cells in
    let columns = flat_map column_bytes b.columns ++ after in
    let eight : board_bytes b ++ after ≡ (b.homes ++ map cell_byte b.cells) ++ columns =
    append_assoc (b.homes ++ map cell_byte b.cells) (flat_map column_bytes b.columns) after in
    let split : board_bytes b ++ after ≡ b.homes ++ (map cell_byte b.cells ++ columns) =
    eight ∙ append_assoc b.homes (map cell_byte b.cells) columns in
    let homes : take 4 (board_bytes b ++ after) ≡ b.homes =
    ap (take 4) split ∙ take_at b.homes (map cell_byte b.cells ++ columns) 4 p.homes in
    let behind : drop 4 (board_bytes b ++ after) ≡ map cell_byte b.cells ++ columns =
    ap (drop 4) split ∙ drop_at b.homes (map cell_byte b.cells ++ columns) 4 p.homes in
    let middle : take 4 (drop 4 (board_bytes b ++ after)) ≡ map cell_byte b.cells =
    ap (take 4) behind ∙ take_at (map cell_byte b.cells) columns 4 cells in
    let last : drop 8 (board_bytes b ++ after) ≡ columns =
    ap (drop 8) eight ∙ drop_at (b.homes ++ map cell_byte b.cells) columns 8 (key_front b p) in
    same_board (board_of_bytes (board_bytes b ++ after)) b
    (ap (spelled_columns 8) last ∙ ap (λ n. spelled_columns n columns) (sym p.columns) ∙ columns_back b.columns after)
    (ap (map spelled_cell) middle ∙ cells_back b.cells (small_cells b p)) homes

-- the bytes of a position spell it
pub spelled_back : (b : Board) → IsPosition b → board_of_bytes (board_bytes b) ≡ b
spelled_back b p = ap board_of_bytes (sym (append-nil (board_bytes b))) ∙ spelled_front b [] p

-- the key of a position of the game spells a canonical position of the game, of the same class
pub key_spells : KeysSpellPositions
key_spells g b key p k =
    let c = k.canonical in
    let pc = canonical_fits g b c p k.class k.ordered in
    let back : board_of_bytes key ≡ c = ap board_of_bytes k.bytes ∙ spelled_back c pc.position in (
      record {
        position = subst (IsPositionOf g) (sym back) pc;
        ordered = subst IsCanonical (sym back) k.ordered;
        bytes = k.bytes ∙ ap board_bytes (sym back);
      },
      subst (SameClass b) (sym back) k.class,
    )

-- a key of the game is the key at its own front
pub key_begins : KeysBeginThemselves
key_begins g key k = record {
  position = k.position.position;
  ordered = k.ordered;
  rest = [];
  parts = k.bytes ∙ sym (append-nil (board_bytes (board_of_bytes key)));
  size = ap length k.bytes;
}

-- bytes that begin with a key spell its board
pub front_spells : FrontKeysSpellTheirBoard
front_spells bytes b n x = ap board_of_bytes x.parts ∙ spelled_front b x.rest x.position

-- the extent by the length bytes is one
pub extent_once : ExtentsAreOne
extent_once bytes m n x y =
    let head = same_fronts x.front y.front (flat_map column_bytes x.columns ++ x.rest) (flat_map column_bytes y.columns ++ y.rest)
    (x.eight ∙ sym y.eight) (sym x.parts ∙ y.parts) in
    let tail = columns_once x.columns y.columns x.rest y.rest head.1 (x.count ∙ sym y.count) in
    x.size ∙ ap (λ l. 8 + length (flat_map column_bytes l)) tail.0 ∙ sym y.size

-- an extent lies within the bytes, and stays where more bytes follow
extent_inside : (bytes : List ℕ) (n : ℕ) → HasExtent bytes n → n ≤ length bytes
extent_inside bytes n x = omega (
  arith,
  x.size,
  x.eight,
  ap length x.parts,
  length-append x.front (flat_map column_bytes x.columns ++ x.rest),
  length-append (flat_map column_bytes x.columns) x.rest,
)

extent_stays : (bytes : List ℕ) (k m : ℕ) → HasExtent (take k bytes) m → HasExtent bytes m
extent_stays bytes k m x = record {
  front = x.front;
  columns = x.columns;
  rest = x.rest ++ drop k bytes;
  eight = x.eight;
  count = x.count;
  parts = sym (take-append-drop k bytes) ∙ ap (λ l. l ++ drop k bytes) x.parts
      ∙ append_assoc x.front (flat_map column_bytes x.columns ++ x.rest) (drop k bytes)
      ∙ ap (λ l. x.front ++ l) (append_assoc (flat_map column_bytes x.columns) x.rest (drop k bytes));
  size = x.size;
}

-- and where fewer do, if they are enough
extent_held : (bytes : List ℕ) (k m n : ℕ) → HasExtent bytes n → m ≡ n → n ≤ k → HasExtent (take k bytes) m
extent_held bytes k m n x same long =
    let columns = flat_map column_bytes x.columns in
    let size : k ≡ length (x.front ++ columns) + (k - n) =
    omega (arith, x.size, x.eight, length-append x.front columns, long) in
    record {
      front = x.front;
      columns = x.columns;
      rest = take (k - n) x.rest;
      eight = x.eight;
      count = x.count;
      parts = ap (take k) (x.parts ∙ sym (append_assoc x.front columns x.rest))
          ∙ ap (λ j. take j ((x.front ++ columns) ++ x.rest)) size ∙ take-append-add (x.front ++ columns) x.rest (k - n)
          ∙ append_assoc x.front columns (take (k - n) x.rest);
      size = same ∙ x.size;
    }

pub front_extent : FrontsHaveTheirExtent
front_extent bytes k m n x = (
  λ y.
      let same = extent_once bytes m n (extent_stays bytes k m y) x in
      (same, omega (arith, same, extent_inside (take k bytes) m y, length-take k bytes)),
  λ (same, long). extent_held bytes k m n x same long,
)
