-- Two boards of which the one has more cards in columns and cells: cards that are home on the other.
use Rattle.std.proofs.Common.{◌≡◌, ℕ, ◌<◌, ◌⊎◌, Option, Some, None, List, [], ◌∷◌, ◌++◌, length, set, get_or, refl, sym, ◌∙◌, ap, subst, inl, inr, ⊎_elim, arith}
use Rattle.std.specs.Prelude.{Contains}
use Rattle.std.proofs.lemmas.List.{get_or-set_same, get_or-set_other, append-nil, append_assoc, same_from_push}
use Rattle.std.proofs.lemmas.List.Elements.{Contains-push, Contains-push_cases, Contains-append_left}
use Rattle.std.proofs.lemmas.Bool.{cases_eq}
use Rattle.fc_cards.specs.declared.places.Place.{Place}
use Rattle.fc_cards.specs.declared.places.Place.TheVariants.{Column, Cell, Home}
use Rattle.fc_moves.specs.inner.GameLaws.{Contains-cases}
use Rattle.fc_position.specs.Board.{Board, IsHome, column, cell, playable, board_without, board_with, front_of, last_of}
use Rattle.fc_position.proofs.BoardLemmas.{front_last, column_there, cell_there}

-- the cards are all home
abbrev AllHome : List ℕ → List ℕ → Type 0
AllHome homes cards = (x : ℕ) → Contains cards x → IsHome homes x

-- a column is another followed by cards that are home; a cell is another, or holds a card that is home where that is empty
abbrev pub ColumnCovers : List ℕ → List ℕ → List ℕ → Type 0
ColumnCovers homes left right = (extra : List ℕ) × (left ≡ right ++ extra) × AllHome homes extra

abbrev pub CellCovers : List ℕ → Option ℕ → Option ℕ → Type 0
CellCovers homes left right = (left ≡ right) ⊎ ((x : ℕ) × (left ≡ Some x) × (right ≡ None) × IsHome homes x)

-- so it is at each column and each cell
pub record Covers (homes : List ℕ) (left right : Board) : Type 0 where
  pub columns : (i : ℕ) → ColumnCovers homes (column left i) (column right i)
  pub cells : (i : ℕ) → CellCovers homes (cell left i) (cell right i)

-- a list is empty or has a last element
pub snoc : (xs : List ℕ) → (xs ≡ []) ⊎ ((front : List ℕ) × (x : ℕ) × (xs ≡ front ++ x ∷ []))
snoc [] = inl refl
snoc (x ∷ xs) =
    ⊎_elim (λ e. inr ([], x, ap (λ l. x ∷ l) e)) (λ (front, y, e). inr (x ∷ front, y, ap (λ l. x ∷ l) e)) (snoc xs)

pub no_front : (xs ys : List ℕ) → [] ≡ xs ++ ys → xs ≡ []
no_front [] ys e = refl
no_front (x ∷ xs) ys e = absurd (omega (arith, ap length e))

-- a relation of two lists at each place, kept by a change of both at one place, or of one alone
both_set : {X : Type 0} (R : X → X → Type 0) (d : X) (xs ys : List X) (i : ℕ) (v w : X) → i < length xs → i < length ys → R v w
    → ((j : ℕ) → R (get_or xs j d) (get_or ys j d)) → (j : ℕ) → R (get_or (set xs i v) j d) (get_or (set ys i w) j d)
both_set R d xs ys i v w one two here each j =
    ⊎_elim
    (λ e. let left : get_or (set xs i v) j d ≡ v = ap (λ k. get_or (set xs i v) k d) e ∙ get_or-set_same xs i v d one in
    let right : get_or (set ys i w) j d ≡ w = ap (λ k. get_or (set ys i w) k d) e ∙ get_or-set_same ys i w d two in
    subst (λ l. R l (get_or (set ys i w) j d)) (sym left) (subst (R v) (sym right) here))
    (λ ne. subst (λ l. R l (get_or (set ys i w) j d)) (sym (get_or-set_other xs i j v d ne))
    (subst (R (get_or xs j d)) (sym (get_or-set_other ys i j w d ne)) (each j)))
    (cases_eq j i)

left_set : {X : Type 0} (R : X → X → Type 0) (d : X) (xs ys : List X) (i : ℕ) (v : X) → i < length xs → R v (get_or ys i d)
    → ((j : ℕ) → R (get_or xs j d) (get_or ys j d)) → (j : ℕ) → R (get_or (set xs i v) j d) (get_or ys j d)
left_set R d xs ys i v one here each j =
    ⊎_elim
    (λ e. let left : get_or (set xs i v) j d ≡ v = ap (λ k. get_or (set xs i v) k d) e ∙ get_or-set_same xs i v d one in
    subst (λ l. R l (get_or ys j d)) (sym left) (subst (λ k. R v (get_or ys k d)) (sym e) here))
    (λ ne. subst (λ l. R l (get_or ys j d)) (sym (get_or-set_other xs i j v d ne)) (each j))
    (cases_eq j i)

right_set : {X : Type 0} (R : X → X → Type 0) (d : X) (xs ys : List X) (i : ℕ) (w : X) → i < length ys → R (get_or xs i d) w
    → ((j : ℕ) → R (get_or xs j d) (get_or ys j d)) → (j : ℕ) → R (get_or xs j d) (get_or (set ys i w) j d)
right_set R d xs ys i w one here each j =
    ⊎_elim
    (λ e. let right : get_or (set ys i w) j d ≡ w = ap (λ k. get_or (set ys i w) k d) e ∙ get_or-set_same ys i w d one in
    subst (R (get_or xs j d)) (sym right) (subst (λ k. R (get_or xs k d) w) (sym e) here))
    (λ ne. subst (R (get_or xs j d)) (sym (get_or-set_other ys i j w d ne)) (each j))
    (cases_eq j i)

-- equal columns cover each other
same_column : (homes xs ys : List ℕ) → xs ≡ ys → ColumnCovers homes xs ys
same_column homes xs ys e = ([], e ∙ sym (append-nil ys), λ x found. absurd (omega (arith, found.1)))

-- a card that is home at the end of the left column
longer_column : (homes xs ys : List ℕ) (u : ℕ) → IsHome homes u → ColumnCovers homes xs ys → ColumnCovers homes (xs ++ u ∷ []) ys
longer_column homes xs ys u home (extra, e, all) = (
  extra ++ u ∷ [],
  ap (λ l. l ++ u ∷ []) e ∙ append_assoc ys extra (u ∷ []),
  λ x found. ⊎_elim (λ old. all x old) (λ same. subst (IsHome homes) same home) (Contains-push_cases extra u x found),
)

-- a column whose last card is taken: the right one is the same, or the card is home and the right one stays
column_cases : (homes xs ys : List ℕ) (u : ℕ) → ColumnCovers homes xs ys → last_of xs ≡ Some u
    → (xs ≡ ys) ⊎ (IsHome homes u × ColumnCovers homes (front_of xs) ys)
column_cases homes xs ys u (extra, e, all) last =
    ⊎_elim (λ none. inl (e ∙ ap (λ l. ys ++ l) none ∙ append-nil ys))
    (λ (front, x, whole).
    let ends : front_of xs ++ u ∷ [] ≡ (ys ++ front) ++ x ∷ [] =
    sym (front_last xs u last) ∙ e ∙ ap (λ l. ys ++ l) whole ∙ sym (append_assoc ys front (x ∷ [])) in
    let parts = same_from_push (front_of xs) (ys ++ front) u x ends in
    inr (
      subst (IsHome homes) (sym parts.1) (all x (subst (λ l. Contains l x) (sym whole) (Contains-push front x))),
      (front, parts.0, λ y found. all y (subst (λ l. Contains l y) (sym whole) (Contains-append_left front (x ∷ []) y found))),
    ))
    (snoc extra)

-- taking a card on the left: it is playable on the right too, and is taken there, or it is home and the right board stays
pub cover_cases : (homes : List ℕ) (left right : Board) (from : Place) (u : ℕ) → Covers homes left right → playable left from ≡ Some u
    → ((playable right from ≡ Some u) × Covers homes (board_without left from) (board_without right from))
    ⊎ (IsHome homes u × Covers homes (board_without left from) right)
cover_cases homes left right (Column i) u covers there =
    let inside = column_there left i u there in
    ⊎_elim
    (λ same. let also : last_of (column right i) ≡ Some u = ap last_of (sym same) ∙ there in
    let cut : front_of (column left i) ≡ front_of (column right i) = ap front_of same in
    inl (
      also,
      record {
        columns =
            both_set (ColumnCovers homes) [] left.columns right.columns i (front_of (column left i)) (front_of (column right i)) inside
            (column_there right i u also) (same_column homes (front_of (column left i)) (front_of (column right i)) cut) covers.columns;
        cells = covers.cells;
      },
    ))
    (λ (home, rest). inr (
      home,
      record {
        columns = left_set (ColumnCovers homes) [] left.columns right.columns i (front_of (column left i)) inside rest covers.columns;
        cells = covers.cells;
      },
    ))
    (column_cases homes (column left i) (column right i) u (covers.columns i) there)
cover_cases homes left right (Cell i) u covers there =
    let inside = cell_there left i u there in
    ⊎_elim
    (λ same. let also : cell right i ≡ Some u = sym same ∙ there in
    inl (
      also,
      record {
        columns = covers.columns;
        cells = both_set (CellCovers homes) None left.cells right.cells i None None inside (cell_there right i u also) (inl refl) covers.cells;
      },
    ))
    (λ (x, full, empty, home). let card : x ≡ u = cc in
    inr (
      subst (IsHome homes) card home,
      record {
        columns = covers.columns;
        cells = left_set (CellCovers homes) None left.cells right.cells i None inside (inl (sym empty)) covers.cells;
      },
    ))
    (covers.cells i)
cover_cases homes left right Home u covers there = absurd (cc there)

-- putting a card on both sides, or on the left alone where it is home
pub cover_column : (homes : List ℕ) (left right : Board) (u j : ℕ) → Covers homes left right → j < length left.columns
    → j < length right.columns → column left j ≡ column right j → Covers homes (board_with left u (Column j)) (board_with right u (Column j))
cover_column homes left right u j covers one two same = record {
  columns =
      both_set (ColumnCovers homes) [] left.columns right.columns j (column left j ++ u ∷ []) (column right j ++ u ∷ []) one two
      (same_column homes (column left j ++ u ∷ []) (column right j ++ u ∷ []) (ap (λ l. l ++ u ∷ []) same)) covers.columns;
  cells = covers.cells;
}

pub cover_cell : (homes : List ℕ) (left right : Board) (u j : ℕ) → Covers homes left right → j < length left.cells
    → j < length right.cells → Covers homes (board_with left u (Cell j)) (board_with right u (Cell j))
cover_cell homes left right u j covers one two = record {
  columns = covers.columns;
  cells = both_set (CellCovers homes) None left.cells right.cells j (Some u) (Some u) one two (inl refl) covers.cells;
}

pub cover_left_column : (homes : List ℕ) (left right : Board) (u j : ℕ) → Covers homes left right → j < length left.columns
    → IsHome homes u → Covers homes (board_with left u (Column j)) right
cover_left_column homes left right u j covers one home = record {
  columns =
      left_set (ColumnCovers homes) [] left.columns right.columns j (column left j ++ u ∷ []) one
      (longer_column homes (column left j) (column right j) u home (covers.columns j)) covers.columns;
  cells = covers.cells;
}

pub cover_left_cell : (homes : List ℕ) (left right : Board) (u j : ℕ) → Covers homes left right → j < length left.cells
    → cell right j ≡ None → IsHome homes u → Covers homes (board_with left u (Cell j)) right
cover_left_cell homes left right u j covers one empty home = record {
  columns = covers.columns;
  cells = left_set (CellCovers homes) None left.cells right.cells j (Some u) one (inr (u, refl, empty, home)) covers.cells;
}

-- only the columns and cells count, and more cards may be home
pub cover_more : (homes more : List ℕ) (left right : Board) → Covers homes left right → ((x : ℕ) → IsHome homes x → IsHome more x)
    → Covers more left right
cover_more homes more left right covers grows = record {
  columns = λ i. let c = covers.columns i in (c.0, c.1, λ x found. grows x (c.2 x found));
  cells = λ i. ⊎_elim (λ same. inl same) (λ (x, full, empty, home). inr (x, full, empty, grows x home)) (covers.cells i);
}

pub cover_home : (homes : List ℕ) (left right : Board) (u : ℕ) → Covers homes left right → Covers homes (board_with left u Home) right
cover_home homes left right u covers = record { columns = covers.columns; cells = covers.cells }

pub cover_right_home : (homes : List ℕ) (left right : Board) (u : ℕ) → Covers homes left right → Covers homes left (board_with right u Home)
cover_right_home homes left right u covers = record { columns = covers.columns; cells = covers.cells }

pub cover_itself : (homes : List ℕ) (b : Board) → Covers homes b b
cover_itself homes b = record { columns = λ i. same_column homes (column b i) (column b i) refl; cells = λ i. inl refl }

-- a board without a card that is home is covered by the board with it
pub cover_lifted : (homes : List ℕ) (b : Board) (from : Place) (u : ℕ) → playable b from ≡ Some u → IsHome homes u
    → Covers homes b (board_without b from)
cover_lifted homes b (Column i) u there home =
    let inside = column_there b i u there in
    let front : ColumnCovers homes (column b i) (front_of (column b i)) = (
      u ∷ [],
      front_last (column b i) u there,
      λ x found. ⊎_elim (λ e. subst (IsHome homes) e home) (λ none. absurd (omega (arith, none.1))) (Contains-cases u [] x found),
    ) in
    record {
      columns = right_set (ColumnCovers homes) [] b.columns b.columns i (front_of (column b i)) inside front (cover_itself homes b).columns;
      cells = (cover_itself homes b).cells;
    }
cover_lifted homes b (Cell i) u there home = record {
  columns = (cover_itself homes b).columns;
  cells = right_set (CellCovers homes) None b.cells b.cells i None (cell_there b i u there) (inr (u, there, refl, home)) (cover_itself homes b).cells;
}
cover_lifted homes b Home u there home = absurd (cc there)

-- an empty cell on the left is empty on the right, and so is an empty column
pub empty_cell : (homes : List ℕ) (left right : Board) (j : ℕ) → Covers homes left right → cell left j ≡ None → cell right j ≡ None
empty_cell homes left right j covers none =
    ⊎_elim (λ same. sym same ∙ none) (λ (x, full, empty, home). empty) (covers.cells j)

pub empty_column : (homes : List ℕ) (left right : Board) (j : ℕ) → Covers homes left right → column left j ≡ [] → column right j ≡ []
empty_column homes left right j covers none =
    let c = covers.columns j in no_front (column right j) c.0 (sym none ∙ c.1)

-- a last card on the left is the last one on the right of the same column, or home
pub last_card : (homes : List ℕ) (left right : Board) (j l : ℕ) → Covers homes left right → last_of (column left j) ≡ Some l
    → (column left j ≡ column right j) ⊎ IsHome homes l
last_card homes left right j l covers last =
    ⊎_elim (λ same. inl same) (λ e. inr e.0) (column_cases homes (column left j) (column right j) l (covers.columns j) last)
