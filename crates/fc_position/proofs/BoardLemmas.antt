-- The places of cards on a board: what lifting and placing a card changes, and how many cards a position's columns have.
use Rattle.std.proofs.Common.{◌≡◌, ◌≢◌, ℕ, ◌+◌, ◌-◌, ◌≤◌, ◌<◌, Option, Some, None, List, [], ◌∷◌, ◌++◌, length, take, set, get_or, cond, eqb, refl, sym, ◌∙◌, ap, subst, ⊎_elim, arith}
use Rattle.std.specs.Prelude.{slice_index, sum_by}
use Rattle.std.specs.List.{flat_map}
use Rattle.std.proofs.lemmas.List.{take_more, take_all, get_or_past, get_or-set_same, get_or-set_other, length-set}
use Rattle.std.proofs.lemmas.List.Concat.{length-flat_map}
use Rattle.std.proofs.lemmas.List.Sums.{sum_by-set, sum_by_push, sum_by-cons, sum_by-append, get_or-le-sum_by}
use Rattle.std.specs.List.Sorted.{IsPermutation}
use Rattle.std.proofs.lemmas.List.Sorted.{sum_by-IsPermutation, length_permutation}
use Rattle.std.proofs.lemmas.Option.{slice_get_within, get_or_from_slice_get}
use Rattle.std.proofs.lemmas.Bool.{cases_lt, cases_eq}
use Rattle.std.proofs.lemmas.Bool.Decides.{nat_tests}
use Rattle.fc_cards.specs.Card.{rank, suit}
use Rattle.fc_cards.specs.declared.places.Place.{Place}
use Rattle.fc_cards.specs.declared.places.Place.TheVariants.{Column, Cell, Home}
use Rattle.fc_position.specs.Board.{Board, column, cell, playable, board_without, board_with, places, Receives, IsNext, last_of, front_of, count_in_column, count_in_cell, count_at_home}
use Rattle.fc_position.specs.inner.Board.{HasRoom}
use Rattle.fc_position.specs.Position.{IsPosition}
use Rattle.fc_position.proofs.Pigeonhole.{room_for_one}

-- a list with a last card is the cards before it and that card
pub front_last : (cards : List ℕ) (u : ℕ) → last_of cards ≡ Some u → cards ≡ front_of cards ++ u ∷ []
front_last cards u last =
    let within = slice_get_within cards (length cards - 1) u last in
    let whole : take (length cards - 1 + 1) cards ≡ cards = take_all (length cards - 1 + 1) cards (omega arith) in
    let cut = take_more cards (length cards - 1) u within in
    let card = get_or_from_slice_get cards (length cards - 1) u u last in
    sym whole ∙ cut ∙ ap (λ x. front_of cards ++ x ∷ []) card

-- the front of a column has its last card once less
count-front : (cards : List ℕ) (u c : ℕ) → last_of cards ≡ Some u
    → count_in_column c (front_of cards) + count_in_cell c (Some u) ≡ count_in_column c cards
count-front cards u c last =
    sym (sum_by_push (λ x. cond (eqb x c) 1 0) (front_of cards) u) ∙ ap (count_in_column c) (sym (front_last cards u last))

-- the last card of a column stands in it
pub last_counted : (cards : List ℕ) (u : ℕ) → last_of cards ≡ Some u → 1 ≤ count_in_column u cards
last_counted cards u last =
    let itself : ◌≡◌ {A = ℕ} (count_in_cell u (Some u)) 1 = grind (arith, nat_tests) in
    omega (arith, count-front cards u u last, itself)

-- no card has two places
pub places_most : (b : Board) (c : ℕ) → IsPosition b → places b c ≤ 1
places_most b c p = ⊎_elim (λ lt. omega (arith, p.once c lt)) (λ le. omega (arith, p.no_other c le)) (cases_lt c 52)

-- a column with a playable card is there
pub column_there : (b : Board) (i u : ℕ) → last_of (column b i) ≡ Some u → i < length b.columns
column_there b i u last =
    ⊎_elim (λ lt. lt)
    (λ le. let none : last_of (column b i) ≡ None = rw (get_or_past b.columns i [] le) refl in absurd (cc (last, none)))
    (cases_lt i (length b.columns))

pub cell_there : (b : Board) (i u : ℕ) → cell b i ≡ Some u → i < length b.cells
cell_there b i u full =
    ⊎_elim (λ lt. lt)
    (λ le. let none : cell b i ≡ None = get_or_past b.cells i None le in absurd (cc (full, none)))
    (cases_lt i (length b.cells))

-- lifting a card takes one place from it and none from the others
pub places-lifted : (b : Board) (from : Place) (u c : ℕ) → playable b from ≡ Some u
    → places (board_without b from) c + count_in_cell c (Some u) ≡ places b c
places-lifted b (Column i) u c last =
    let there = column_there b i u last in
    let changed = sum_by-set (count_in_column c) b.columns i (front_of (column b i)) [] there in
    let one = count-front (column b i) u c last in
    omega arith
places-lifted b (Cell i) u c full =
    let there = cell_there b i u full in
    let changed = sum_by-set (count_in_cell c) b.cells i None None there in
    let held = ap (count_in_cell c) full in
    omega arith
places-lifted b Home u c none = absurd (cc none)

-- a card that is next and goes home is home afterwards, and no other card's place changes
count-next : (homes : List ℕ) (u c : ℕ) → length homes ≡ 4 → IsNext homes u
    → count_at_home c (set homes (suit u) (rank u)) ≡ count_at_home c homes + count_in_cell c (Some u)
count-next homes u c four next =
    ⊎_elim
    (λ same. let here : slice_index (set homes (suit u) (rank u)) (suit c) ≡ rank u =
    rw same (get_or-set_same homes (suit u) (rank u) 0 (omega arith)) in
    let before : slice_index homes (suit c) ≡ slice_index homes (suit u) = ap (slice_index homes) same in
    ⊎_elim (λ e. rw (here, before) (grind (arith, nat_tests)))
    (λ ne. let ranks : rank c ≢ rank u = λ q. ne (omega (arith, q, same)) in
    rw (here, before) (grind (arith, nat_tests)))
    (cases_eq u c))
    (λ other. let there : slice_index (set homes (suit u) (rank u)) (suit c) ≡ slice_index homes (suit c) =
    get_or-set_other homes (suit u) (suit c) (rank u) 0 other in
    let apart : u ≢ c = λ q. other (ap suit (sym q)) in
    rw there (grind (arith, nat_tests)))
    (cases_eq (suit c) (suit u))

-- placing a card gives one place to it and none to the others
pub places-placed : (b : Board) (u : ℕ) (to : Place) (c : ℕ) → length b.homes ≡ 4 → Receives b u to
    → places (board_with b u to) c ≡ places b c + count_in_cell c (Some u)
places-placed b u (Column i) c four there =
    let changed = sum_by-set (count_in_column c) b.columns i (column b i ++ u ∷ []) [] there in
    let one = sum_by_push (λ x. cond (eqb x c) 1 0) (column b i) u in
    omega arith
places-placed b u (Cell i) c four (there, empty) =
    let changed = sum_by-set (count_in_cell c) b.cells i (Some u) None there in
    let held = ap (count_in_cell c) empty in
    omega arith
places-placed b u Home c four next = let one = count-next b.homes u c four next in omega arith

-- a place that can take a card can take it when another card is lifted
receives-lifted : (b : Board) (from : Place) (u : ℕ) (to : Place) → Receives b u to → Receives (board_without b from) u to
receives-lifted b (Column i) u (Column j) there = rw length-set there
receives-lifted b (Column i) u (Cell j) r = r
receives-lifted b (Column i) u Home r = r
receives-lifted b (Cell i) u (Column j) r = r
receives-lifted b (Cell i) u (Cell j) (there, empty) = (
  rw length-set there,
  ⊎_elim (λ e. rw e (get_or-set_same b.cells i None None (rw (sym e) there)))
      (λ ne. get_or-set_other b.cells i j None None ne ∙ empty) (cases_eq j i),
)
receives-lifted b (Cell i) u Home r = r
receives-lifted b Home u to r = r

-- lifting and placing keep how many columns, cells and counts there are
pub columns-lifted : (b : Board) (from : Place) → length (board_without b from).columns ≡ length b.columns
columns-lifted b (Column i) = length-set b.columns i (front_of (column b i))
columns-lifted b (Cell i) = refl
columns-lifted b Home = refl

pub cells-lifted : (b : Board) (from : Place) → length (board_without b from).cells ≡ length b.cells
cells-lifted b (Column i) = refl
cells-lifted b (Cell i) = length-set b.cells i None
cells-lifted b Home = refl

pub homes-lifted : (b : Board) (from : Place) → (board_without b from).homes ≡ b.homes
homes-lifted b (Column i) = refl
homes-lifted b (Cell i) = refl
homes-lifted b Home = refl

pub columns-placed : (b : Board) (u : ℕ) (to : Place) → length (board_with b u to).columns ≡ length b.columns
columns-placed b u (Column i) = length-set b.columns i (column b i ++ u ∷ [])
columns-placed b u (Cell i) = refl
columns-placed b u Home = refl

pub cells-placed : (b : Board) (u : ℕ) (to : Place) → length (board_with b u to).cells ≡ length b.cells
cells-placed b u (Column i) = refl
cells-placed b u (Cell i) = length-set b.cells i (Some u)
cells-placed b u Home = refl

pub homes-placed : (b : Board) (u : ℕ) (to : Place) → length (board_with b u to).homes ≡ length b.homes
homes-placed b u (Column i) = refl
homes-placed b u (Cell i) = refl
homes-placed b u Home = length-set b.homes (suit u) (rank u)

-- a card that is lifted and placed elsewhere keeps its places, and so does every other card
pub places-moved : (b : Board) (from : Place) (u : ℕ) (to : Place) (c : ℕ) → length b.homes ≡ 4 → playable b from ≡ Some u
    → Receives b u to → places (board_with (board_without b from) u to) c ≡ places b c
places-moved b from u to c four there takes =
    places-placed (board_without b from) u to c (ap length (homes-lifted b from) ∙ four) (receives-lifted b from u to takes)
    ∙ places-lifted b from u c there

-- moving a card to a place that can take it leads from a position to a position
pub position-moved : (b : Board) (from : Place) (u : ℕ) (to : Place) → IsPosition b → playable b from ≡ Some u
    → Receives b u to → IsPosition (board_with (board_without b from) u to)
position-moved b from u to p there takes = record {
  columns = columns-placed (board_without b from) u to ∙ columns-lifted b from ∙ p.columns;
  cells = cells-placed (board_without b from) u to ∙ cells-lifted b from ∙ p.cells;
  homes = homes-placed (board_without b from) u to ∙ ap length (homes-lifted b from) ∙ p.homes;
  once = λ c below. places-moved b from u to c p.homes there takes ∙ p.once c below;
  no_other = λ c above. places-moved b from u to c p.homes there takes ∙ p.no_other c above;
}

-- a playable card is a card
pub playable_below : (b : Board) (from : Place) (u : ℕ) → IsPosition b → playable b from ≡ Some u → u < 52
playable_below b from u p there =
    let here : ◌≡◌ {A = ℕ} (count_in_cell u (Some u)) 1 = grind (arith, nat_tests) in
    let one = places-lifted b from u u there in
    ⊎_elim (λ lt. lt) (λ le. absurd (omega (arith, one, here, p.no_other u le))) (cases_lt u 52)

-- a column has no card more often than the board has
count-le-places : (b : Board) (j c : ℕ) → j < length b.columns → count_in_column c (column b j) ≤ places b c
count-le-places b j c there = omega (arith, get_or-le-sum_by (count_in_column c) b.columns j [] there)

-- once a card is lifted, every column has room for it
pub room-lifted : (b : Board) (from : Place) (u : ℕ) (to : Place) → IsPosition b → playable b from ≡ Some u
    → Receives b u to → HasRoom (board_without b from) to
room-lifted b from u (Column j) p there takes =
    let x = board_without b from in
    let inside : j < length x.columns = receives-lifted b from u (Column j) takes in
    let lower : (c : ℕ) → places x c + count_in_cell c (Some u) ≡ places b c = λ c. places-lifted b from u c there in
    let below = playable_below b from u p there in
    let here : ◌≡◌ {A = ℕ} (count_in_cell u (Some u)) 1 = grind (arith, nat_tests) in (
      inside,
      room_for_one 52 (column x j)
          (λ c. omega (arith, count-le-places x j c inside, lower c, places_most b c p))
          (λ c above. omega (arith, count-le-places x j c inside, lower c, p.no_other c above)) u below
          (omega (arith, count-le-places x j u inside, lower u, p.once u below, here)),
    )
room-lifted b from u (Cell j) p there takes = (receives-lifted b from u (Cell j) takes).0
room-lifted b from u Home p there takes = tt

-- cards that stand no more often than the board has places for them are at most 52
cards_within : (b : Board) (cards : List ℕ) → IsPosition b → ((c : ℕ) → count_in_column c cards ≤ places b c) → length cards ≤ 52
cards_within b cards p less =
    let fewer = room_for_one 53 cards (λ c. omega (arith, less c, places_most b c p))
    (λ c above. omega (arith, less c, p.no_other c (omega arith))) 52 (omega arith) (omega (arith, less 52, p.no_other 52 (omega arith))) in
    omega arith

-- a column of a position has at most 52 cards
pub column_most : (b : Board) (i : ℕ) (d : List ℕ) → IsPosition b → i < length b.columns → length (get_or b.columns i d) ≤ 52
column_most b i d p inside =
    cards_within b (get_or b.columns i d) p (λ c. omega (arith, get_or-le-sum_by (count_in_column c) b.columns i d inside))

-- the cards of all columns in a row
abbrev in_columns : List (List ℕ) → List ℕ
in_columns columns = flat_map (λ v. v) columns

count-in_columns : (c : ℕ) (columns : List (List ℕ)) → count_in_column c (in_columns columns) ≡ sum_by (count_in_column c) columns
count-in_columns c [] = refl
count-in_columns c (x ∷ xs) =
    let rest = count-in_columns c xs in
    let all = sum_by-cons (count_in_column c) x xs in
    let both = sum_by-append (λ y. cond (eqb y c) 1 0) x (in_columns xs) in
    omega arith

-- and all columns have at most 52
pub cards_most : (b : Board) → IsPosition b → sum_by (λ v. length v) b.columns ≤ 52
cards_most b p =
    let few = cards_within b (in_columns b.columns) p (λ c. omega (arith, count-in_columns c b.columns)) in
    omega (arith, length-flat_map (λ (v : List ℕ). v) b.columns)

-- what can take a place's playable card can take the card that was found there
pub receives_found : (b : Board) (from to : Place) (card : ℕ) → playable b from ≡ Some card
    → ((u : ℕ) × (playable b from ≡ Some u) × Receives b u to) → Receives b card to
receives_found b from to card found moves =
    let same : moves.0 ≡ card = cc in subst (λ u. Receives b u to) same moves.2

-- no more than thirteen cards of a suit are home
pub home_most : (b : Board) → IsPosition b → (s : ℕ) → slice_index b.homes s ≤ 13
home_most b p s =
    ⊎_elim
    (λ lt. let suits : suit (52 + s) ≡ s = omega arith in
    let ranks : rank (52 + s) ≡ 14 = omega arith in
    let same : slice_index b.homes (suit (52 + s)) ≡ slice_index b.homes s = ap (slice_index b.homes) suits in
    let none : count_at_home (52 + s) b.homes ≡ 0 = omega (arith, p.no_other (52 + s) (omega arith)) in
    let most : rank (52 + s) ≤ slice_index b.homes (suit (52 + s)) → ⊥ = λ le. grind (arith, nat_tests) in
    ⊎_elim (λ l. absurd (most (omega arith))) (λ l. omega arith) (cases_lt 13 (slice_index b.homes s)))
    (λ le. rw (get_or_past b.homes s 0 (omega (arith, p.homes))) (omega arith))
    (cases_lt s 4)

-- columns and cells in another order are a position too
pub position-rearranged : (b : Board) (columns : List (List ℕ)) (cells : List (Option ℕ)) → IsPosition b
    → IsPermutation b.columns columns → IsPermutation b.cells cells
    → IsPosition (record { columns = columns; cells = cells; homes = b.homes })
position-rearranged b columns cells p one two =
    let same : (c : ℕ) → places (record { columns = columns; cells = cells; homes = b.homes }) c ≡ places b c = λ c.
    omega (
      arith,
      sum_by-IsPermutation (count_in_column c) b.columns columns one,
      sum_by-IsPermutation (count_in_cell c) b.cells cells two,
    ) in
    record {
      columns = length_permutation b.columns columns one ∙ p.columns;
      cells = length_permutation b.cells cells two ∙ p.cells;
      homes = p.homes;
      once = λ c below. same c ∙ p.once c below;
      no_other = λ c above. same c ∙ p.no_other c above;
    }
