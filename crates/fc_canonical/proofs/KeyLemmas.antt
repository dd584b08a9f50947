-- Keys: how long they are, what they spell, and that they tell classes apart.
use Rattle.std.proofs.Common.{◌≡◌, ◌≢◌, ℕ, ◌+◌, ◌<◌, ◌≤◌, Option, Some, None, List, [], ◌∷◌, ◌++◌, length, map, take, drop, get_or, cond, eqb, refl, sym, ◌∙◌, ap, subst, ⊎_elim, append_assoc, arith}
use Rattle.std.specs.Prelude.{All}
use Rattle.std.specs.List.{flat_map}
use Rattle.std.proofs.lemmas.List.{append-nil, take_at, drop_at, length-map, length-append, get_or_default}
use Rattle.std.proofs.lemmas.List.Concat.{length-flat_map}
use Rattle.std.proofs.lemmas.List.Elements.{All-head, All-tail}
use Rattle.std.proofs.lemmas.List.Sums.{sum_by-cons, get_or-le-sum_by}
use Rattle.std.proofs.lemmas.Bool.{cases_lt, cases_eq}
use Rattle.std.proofs.lemmas.Bool.Decides.{nat_tests}
use Rattle.fc_position.specs.Board.{Board, count_in_column, count_in_cell}
use Rattle.fc_position.specs.Position.{IsPosition}
use Rattle.fc_position.proofs.BoardLemmas.{places_most, column_most}
use Rattle.fc_position.proofs.PlaceLemmas.{two_of_sum}
use Rattle.fc_moves.specs.Class.{SameClass}
use Rattle.fc_canonical.specs.Key.{column_bytes, board_bytes, IsKeyOf}
use Rattle.fc_canonical.specs.Laws.{ClassesHaveOneCanonicalBoard, KeysTellClasses, BytesBeginWithOneKey, KeysHaveExtents}
use Rattle.fc_canonical.specs.Order.{column_order, cell_byte, IsCanonical}
use Rattle.fc_canonical.specs.inner.Parts.{IsSmall, IsHolding}
use Rattle.fc_moves.proofs.ClassLemmas.{class-sym, class-trans, class_positions}
use Rattle.fc_moves.proofs.BackLemmas.{same_board}
use Rattle.fc_canonical.proofs.OrderLemmas.{ordered_once}
use Rattle.fc_canonical.proofs.WrittenLemmas.{bytes_most}

-- a cell of a position is empty or holds a card
small_cell : (b : Board) (x : Option ℕ) (k : ℕ) (d : Option ℕ) → IsPosition b → k < length b.cells → get_or b.cells k d ≡ x → IsSmall x
small_cell b None k d p inside e = tt
small_cell b (Some c) k d p inside e =
    ⊎_elim (λ lt. lt)
    (λ le. let here : ◌≡◌ {A = ℕ} (count_in_cell c (Some c)) 1 = grind (arith, nat_tests) in
    let held = ap (count_in_cell c) e in
    absurd (omega (arith, here, held, get_or-le-sum_by (count_in_cell c) b.cells k d inside, p.no_other c le)))
    (cases_lt c 52)

pub small_cells : (b : Board) → IsPosition b → All IsSmall b.cells
small_cells b p k d inside = small_cell b (get_or b.cells k d) k d p inside refl

-- no byte is of two cells
pub cell_byte_once : (x y : Option ℕ) → IsSmall x → IsSmall y → cell_byte x ≡ cell_byte y → x ≡ y
cell_byte_once None None a b e = refl
cell_byte_once None (Some d) a b e = absurd (omega (arith, b, e))
cell_byte_once (Some c) None a b e = absurd (omega (arith, a, e))
cell_byte_once (Some c) (Some d) a b e = ap Some e

cells_once : (xs ys : List (Option ℕ)) → All IsSmall xs → All IsSmall ys → map cell_byte xs ≡ map cell_byte ys → xs ≡ ys
cells_once [] [] a b e = refl
cells_once [] (y ∷ ys) a b e = absurd (cc e)
cells_once (x ∷ xs) [] a b e = absurd (cc e)
cells_once (x ∷ xs) (y ∷ ys) a b e =
    let first : cell_byte x ≡ cell_byte y = cc in
    let rest : map cell_byte xs ≡ map cell_byte ys = cc in
    let one = cell_byte_once x y (All-head IsSmall x xs a) (All-head IsSmall y ys b) first in
    let more = cells_once xs ys (All-tail IsSmall x xs a) (All-tail IsSmall y ys b) rest in
    ap (λ z. z ∷ xs) one ∙ ap (λ zs. y ∷ zs) more

-- two fronts of one length are the same, and so are the rests
pub same_fronts : {X : Type 0} (a b r s : List X) → length a ≡ length b → a ++ r ≡ b ++ s → (a ≡ b) × (r ≡ s)
same_fronts a b r s long e = (
  sym (take_at a r (length a) refl) ∙ ap (take (length a)) e ∙ take_at b s (length a) (sym long),
  sym (drop_at a r (length a) refl) ∙ ap (drop (length a)) e ∙ drop_at b s (length a) (sym long),
)

-- no bytes begin with two columns
pub column_once : (x y r s : List ℕ) → column_bytes x ++ r ≡ column_bytes y ++ s → (x ≡ y) × (r ≡ s)
column_once x y r s e =
    let long : length x ≡ length y = cc in
    let rest : x ++ r ≡ y ++ s = cc in
    same_fronts x y r s long rest

-- of two lists of columns that bytes begin with, the shorter is the front of the longer
pub columns_align : (xs ys : List (List ℕ)) (r s : List ℕ) → flat_map column_bytes xs ++ r ≡ flat_map column_bytes ys ++ s
    → length xs ≤ length ys → (zs : List (List ℕ)) × (ys ≡ xs ++ zs) × (r ≡ flat_map column_bytes zs ++ s)
columns_align [] ys r s e le = (ys, refl, e)
columns_align (x ∷ xs) [] r s e le = absurd (omega arith)
columns_align (x ∷ xs) (y ∷ ys) r s e le =
    let one = column_once x y (flat_map column_bytes xs ++ r) (flat_map column_bytes ys ++ s)
    (sym (append_assoc (column_bytes x) (flat_map column_bytes xs) r) ∙ e
    ∙ append_assoc (column_bytes y) (flat_map column_bytes ys) s) in
    let more = columns_align xs ys r s one.1 (omega arith) in
    (more.0, ap (λ z. z ∷ ys) (sym one.0) ∙ ap (λ l. x ∷ l) more.1, more.2)

pub no_more : {X : Type 0} (xs : List X) → length xs ≡ 0 → xs ≡ []
no_more [] e = refl
no_more (x ∷ xs) e = absurd (omega arith)

-- so as many columns are the same
pub columns_once : (xs ys : List (List ℕ)) (r s : List ℕ) → flat_map column_bytes xs ++ r ≡ flat_map column_bytes ys ++ s
    → length xs ≡ length ys → (xs ≡ ys) × (r ≡ s)
columns_once xs ys r s e long =
    let a = columns_align xs ys r s e (omega arith) in
    let none : a.0 ≡ [] = no_more a.0 (omega (arith, ap length a.1, length-append xs a.0, long)) in
    (sym (a.1 ∙ ap (λ z. xs ++ z) none ∙ append-nil xs), a.2 ∙ ap (λ z. flat_map column_bytes z ++ s) none)

-- eight columns, four cells that are empty or hold cards, and four counts
pub record IsSpelled (b : Board) : Type 0 where
  pub columns : length b.columns ≡ 8
  pub cells : length b.cells ≡ 4
  pub homes : length b.homes ≡ 4
  pub small : All IsSmall b.cells

pub position_spelled : (b : Board) → IsPosition b → IsSpelled b
position_spelled b p = record { columns = p.columns; cells = p.cells; homes = p.homes; small = small_cells b p }

-- no bytes begin with two such boards, whatever follows
pub spelled_once : (b c : Board) (r s : List ℕ) → IsSpelled b → IsSpelled c → board_bytes b ++ r ≡ board_bytes c ++ s
    → (b ≡ c) × (r ≡ s)
spelled_once b c r s p q e =
    let lb : length (map cell_byte b.cells) ≡ length b.cells = length-map b.cells cell_byte in
    let lc : length (map cell_byte c.cells) ≡ length c.cells = length-map c.cells cell_byte in
    let head = same_fronts (b.homes ++ map cell_byte b.cells) (c.homes ++ map cell_byte c.cells)
    (flat_map column_bytes b.columns ++ r) (flat_map column_bytes c.columns ++ s)
    (omega (arith, length-append b.homes (map cell_byte b.cells), length-append c.homes (map cell_byte c.cells), lb, lc, p.homes, q.homes, p.cells, q.cells))
    (sym (append_assoc (b.homes ++ map cell_byte b.cells) (flat_map column_bytes b.columns) r) ∙ e
    ∙ append_assoc (c.homes ++ map cell_byte c.cells) (flat_map column_bytes c.columns) s) in
    let tail = columns_once b.columns c.columns r s head.1 (omega (arith, p.columns, q.columns)) in
    let front = same_fronts b.homes c.homes (map cell_byte b.cells) (map cell_byte c.cells) (omega (arith, p.homes, q.homes)) head.0 in
    let cells = cells_once b.cells c.cells p.small q.small front.1 in
    (same_board b c tail.0 cells front.0, tail.1)

-- no bytes begin with two positions, whatever follows
pub board_once : (b c : Board) (r s : List ℕ) → IsPosition b → IsPosition c → board_bytes b ++ r ≡ board_bytes c ++ s
    → (b ≡ c) × (r ≡ s)
board_once b c r s p q e = spelled_once b c r s (position_spelled b p) (position_spelled c q) e

-- a card that stands deepest in a column is a card
no_such_card : (b : Board) → IsPosition b → (i c : ℕ) (rest : List ℕ) → i < length b.columns
    → get_or b.columns i [] ≡ c ∷ rest → 52 ≤ c → ⊥
no_such_card b p i c rest inside e above =
    let here : ◌≡◌ {A = ℕ} (cond (eqb c c) 1 0) 1 = grind (arith, nat_tests) in
    let held = ap (count_in_column c) e in
    omega (
      arith,
      here,
      held,
      sum_by-cons (λ y. cond (eqb y c) 1 0) c rest,
      get_or-le-sum_by (count_in_column c) b.columns i [] inside,
      p.no_other c above,
    )

-- no card stands deepest in two columns
twice : (b : Board) → IsPosition b → (i j c : ℕ) (rest others : List ℕ) → i ≢ j → i < length b.columns → j < length b.columns
    → get_or b.columns i [] ≡ c ∷ rest → get_or b.columns j [] ≡ c ∷ others → ⊥
twice b p i j c rest others other one two ei ej =
    let here : ◌≡◌ {A = ℕ} (cond (eqb c c) 1 0) 1 = grind (arith, nat_tests) in
    let both = two_of_sum (count_in_column c) b.columns i j [] refl other one two in
    omega (
      arith,
      here,
      both,
      ap (count_in_column c) ei,
      ap (count_in_column c) ej,
      sum_by-cons (λ y. cond (eqb y c) 1 0) c rest,
      sum_by-cons (λ y. cond (eqb y c) 1 0) c others,
      places_most b c p,
    )

-- no two columns of a position have one card, so the deepest card tells a column that holds cards
column_order_once : (b : Board) → IsPosition b → (i j : ℕ) (x y : List ℕ) → i < length b.columns → j < length b.columns
    → get_or b.columns i [] ≡ x → get_or b.columns j [] ≡ y → column_order x ≡ column_order y → x ≡ y
column_order_once b p i j [] [] one two ei ej e = refl
column_order_once b p i j [] (d ∷ rest) one two ei ej e =
    absurd (no_such_card b p j d rest two ej (omega (arith, e)))
column_order_once b p i j (c ∷ rest) [] one two ei ej e =
    absurd (no_such_card b p i c rest one ei (omega (arith, e)))
column_order_once b p i j (c ∷ rest) (d ∷ others) one two ei ej e =
    ⊎_elim (λ same. sym ei ∙ ap (λ n. get_or b.columns n []) same ∙ ej)
    (λ other. absurd (twice b p i j c rest others other one two ei (ej ∙ ap (λ n. n ∷ others) (sym e))))
    (cases_eq i j)

-- a class has one canonical board
pub canonical_once : ClassesHaveOneCanonicalBoard
canonical_once b c p s o q =
    same_board b c
    (ordered_once column_order b.columns c.columns s.columns o.columns q.columns
    (λ i j d one two e. let x = get_or_default b.columns i d [] one in
    let y = get_or_default b.columns j d [] two in
    x ∙ column_order_once b p i j (get_or b.columns i []) (get_or b.columns j []) one two refl refl
    (sym (ap column_order x) ∙ e ∙ ap column_order y) ∙ sym y))
    (ordered_once cell_byte b.cells c.cells s.cells o.cells q.cells
    (λ i j d one two e. cell_byte_once (get_or b.cells i d) (get_or b.cells j d) (small_cells b p i d one) (small_cells b p j d two) e))
    s.homes

-- keys are the same exactly for positions of one class
pub keys_tell : KeysTellClasses
keys_tell b c k l p q x y =
    let px = class_positions b x.canonical p x.class in
    let py = class_positions c y.canonical q y.class in (
      λ e. let same = (board_once x.canonical y.canonical [] [] px py
          (ap (λ m. m ++ []) (sym x.bytes ∙ e ∙ y.bytes))).0 in
          class-trans b y.canonical c (subst (SameClass b) same x.class) (class-sym c y.canonical y.class),
      λ s. x.bytes
          ∙ ap board_bytes (canonical_once x.canonical y.canonical px
          (class-trans x.canonical b y.canonical (class-sym b x.canonical x.class) (class-trans b c y.canonical s y.class))
          x.ordered y.ordered)
          ∙ sym y.bytes,
    )

-- no bytes begin with two keys
pub key_begins_once : BytesBeginWithOneKey
key_begins_once bytes b c m n x y =
    let same = (board_once b c x.rest y.rest x.position y.position (sym x.parts ∙ y.parts)).0 in
    (same, x.size ∙ ap (λ z. length (board_bytes z)) same ∙ sym y.size)

-- a key's front is eight bytes
pub key_front : (b : Board) → IsPosition b → length (b.homes ++ map cell_byte b.cells) ≡ 8
key_front b p =
    omega (arith, length-append b.homes (map cell_byte b.cells), length-map b.cells cell_byte, p.homes, p.cells)

-- a key is its front and its columns, and so long
pub key_size : (b : Board) → IsPosition b → length (board_bytes b) ≡ 8 + length (flat_map column_bytes b.columns)
key_size b p =
    omega (arith, key_front b p, length-append (b.homes ++ map cell_byte b.cells) (flat_map column_bytes b.columns))

-- bytes that begin with a position's bytes begin with its front and its columns
pub key_parts : (bytes : List ℕ) (b : Board) (rest : List ℕ) → bytes ≡ board_bytes b ++ rest
    → bytes ≡ (b.homes ++ map cell_byte b.cells) ++ (flat_map column_bytes b.columns ++ rest)
key_parts bytes b rest e = e ∙ append_assoc (b.homes ++ map cell_byte b.cells) (flat_map column_bytes b.columns) rest

-- bytes that begin with a key have its extent alone
pub key_extents : KeysHaveExtents
key_extents bytes b m n key = (
  λ x. let parts = key_parts bytes b key.rest key.parts in
      let head = same_fronts (b.homes ++ map cell_byte b.cells) x.front (flat_map column_bytes b.columns ++ key.rest)
      (flat_map column_bytes x.columns ++ x.rest) (omega (arith, key_front b key.position, x.eight)) (sym parts ∙ x.parts) in
      let tail = columns_once b.columns x.columns key.rest x.rest head.1 (omega (arith, key.position.columns, x.count)) in
      key.size ∙ key_size b key.position ∙ ap (λ l. 8 + length (flat_map column_bytes l)) tail.0 ∙ sym x.size,
  λ e. record {
    front = b.homes ++ map cell_byte b.cells;
    columns = b.columns;
    rest = key.rest;
    eight = key_front b key.position;
    count = key.position.columns;
    parts = key_parts bytes b key.rest key.parts;
    size = sym e ∙ key.size ∙ key_size b key.position;
  },
)

-- a position that its own key spells is canonical
pub own_key : (b : Board) (k : List ℕ) → IsPosition b → IsKeyOf b k → k ≡ board_bytes b → IsCanonical b
own_key b k p x e =
    let same = (board_once b x.canonical [] [] p (class_positions b x.canonical p x.class)
    (ap (λ m. m ++ []) (sym e ∙ x.bytes))).0 in
    subst IsCanonical (sym same) x.ordered

-- a canonical position's key spells it
pub canonical_key : (b : Board) (k : List ℕ) → IsPosition b → IsCanonical b → IsKeyOf b k → k ≡ board_bytes b
canonical_key b k p o x =
    x.bytes ∙ ap board_bytes (sym (canonical_once b x.canonical p x.class o x.ordered))

-- what stands in a list is counted
member_count : (xs : List ℕ) (k e : ℕ) → k < length xs → 1 ≤ count_in_column (get_or xs k e) xs
member_count xs k e inside =
    let x = get_or xs k e in
    let here : ◌≡◌ {A = ℕ} (cond (eqb x x) 1 0) 1 = grind (arith, nat_tests) in
    omega (arith, here, get_or-le-sum_by (λ y. cond (eqb y x) 1 0) xs k e inside)

-- a column of a position holds cards, at most 52
pub columns_hold : (b : Board) → IsPosition b → All IsHolding b.columns
columns_hold b p i d inside = record {
  all = λ k e there. ⊎_elim (λ lt. lt)
      (λ le. let x = get_or (get_or b.columns i d) k e in
      let one = member_count (get_or b.columns i d) k e there in
      absurd (omega (arith, one, get_or-le-sum_by (count_in_column x) b.columns i d inside, p.no_other x le)))
      (cases_lt (get_or (get_or b.columns i d) k e) 52);
  few = column_most b i d p inside;
}

-- a key has at most 68 bytes
pub key_most : (b : Board) (key : List ℕ) → IsPosition b → IsKeyOf b key → length key ≤ 68
key_most b key p k =
    let whole = class_positions b k.canonical p k.class in
    omega (
      arith,
      ap length k.bytes,
      key_size k.canonical whole,
      length-flat_map column_bytes k.canonical.columns,
      bytes_most k.canonical whole,
    )
