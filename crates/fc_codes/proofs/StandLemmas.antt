-- Where a card of a position stands: in one column, on the same cards however that is said, in one cell, or at home.
use Rattle.std.proofs.Common.{◌≡◌, ℕ, suc, ◌+◌, ◌<◌, ◌≤◌, ◌⊎◌, Option, Some, None, List, [], ◌∷◌, ◌++◌, length, get_or, cond, eqb, refl, sym, ◌∙◌, ap, inl, inr, ⊎_elim, arith}
use Rattle.std.specs.Prelude.{sum_by, slice_index}
use Rattle.std.proofs.lemmas.List.{get_or_past, length-append}
use Rattle.std.proofs.lemmas.List.Sums.{sum_by-cons, sum_by-append, get_or-le-sum_by}
use Rattle.std.proofs.lemmas.Bool.{cases_lt, cases_eq}
use Rattle.std.proofs.lemmas.Bool.Decides.{nat_tests}
use Rattle.fc_cards.specs.Card.{rank, suit}
use Rattle.fc_cards.specs.declared.places.Place.TheVariants.{Cell}
use Rattle.fc_position.specs.Board.{Board, column, cell, IsHome, count_in_column, count_in_cell, count_at_home}
use Rattle.fc_position.specs.Position.{IsPosition}
use Rattle.fc_position.proofs.BoardLemmas.{places_most, cell_there}
use Rattle.fc_position.proofs.PlaceLemmas.{one_itself, one_column, source_once}
use Rattle.fc_codes.specs.State.{StandsOn, IsInCell}

-- how often a card stands in a list
pub count-split : (c x : ℕ) (xs ys : List ℕ)
    → count_in_column c (xs ++ x ∷ ys) ≡ count_in_column c xs + count_in_cell c (Some x) + count_in_column c ys
count-split c x xs ys =
    let all = sum_by-append (λ y. cond (eqb y c) 1 0) xs (x ∷ ys) in
    let rest = sum_by-cons (λ y. cond (eqb y c) 1 0) x ys in
    omega (arith, all, rest)

pub count-here : (c : ℕ) (xs ys : List ℕ) → count_in_column c (xs ++ c ∷ ys) ≡ count_in_column c xs + 1 + count_in_column c ys
count-here c xs ys = let all = count-split c c xs ys in let one = one_itself c in omega (arith, all, one)

-- a card that stands once stands between the same cards
pub same_split : (c : ℕ) (xs ys us vs : List ℕ) → xs ++ c ∷ ys ≡ us ++ c ∷ vs → count_in_column c (xs ++ c ∷ ys) ≤ 1
    → (xs ≡ us) × (ys ≡ vs)
same_split c [] ys [] vs e once = (refl, cc)
same_split c [] ys (u ∷ us) vs e once =
    let rest : ys ≡ us ++ c ∷ vs = cc in
    let more = count-here c [] ys in
    let there = count-here c us vs in
    let same = ap (count_in_column c) rest in
    absurd (omega (arith, once, more, there, same))
same_split c (x ∷ xs) ys [] vs e once =
    let first : x ≡ c = cc in
    let all = count-here c (x ∷ xs) ys in
    let one = sum_by-cons (λ y. cond (eqb y c) 1 0) x xs in
    let itself : ◌≡◌ {A = ℕ} (cond (eqb x c) 1 0) 1 = grind (arith, nat_tests) in
    absurd (omega (arith, once, all, one, itself))
same_split c (x ∷ xs) ys (u ∷ us) vs e once =
    let first : x ≡ u = cc in
    let rest : xs ++ c ∷ ys ≡ us ++ c ∷ vs = cc in
    let more = sum_by-cons (λ y. cond (eqb y c) 1 0) x (xs ++ c ∷ ys) in
    let both = same_split c xs ys us vs rest (omega (arith, once, more)) in
    (ap (λ y. y ∷ xs) first ∙ ap (λ l. u ∷ l) both.0, both.1)

-- a column in which a card stands is there, and counts it
pub column_inside : (b : Board) (w : List ℕ) (c : ℕ) (p : StandsOn b w c) → p.number < length b.columns
column_inside b w c p =
    ⊎_elim (λ lt. lt)
    (λ le. let cards = p.cards in
    let none : column b p.number ≡ [] = get_or_past b.columns p.number [] le in
    let long = ap length (sym none ∙ cards) in
    absurd (omega (arith, long, length-append w (c ∷ p.above))))
    (cases_lt p.number (length b.columns))

pub column_counts : (b : Board) (w : List ℕ) (c : ℕ) (p : StandsOn b w c) → 1 ≤ count_in_column c (column b p.number)
column_counts b w c p =
    let cards = ap (count_in_column c) p.cards in
    let here = count-here c w p.above in
    omega (arith, cards, here)

-- a card stands on the same cards, however that is said
pub stands_once : (b : Board) (c : ℕ) (w v : List ℕ) → IsPosition b → (p : StandsOn b w c) → (q : StandsOn b v c)
    → (p.number ≡ q.number) × (w ≡ v) × (p.above ≡ q.above)
stands_once b c w v whole p q =
    let there = column_inside b w c p in
    let same = one_column b c p.number q.number whole there (column_inside b v c q) (column_counts b w c p) (column_counts b v c q) in
    let most : count_in_column c (column b p.number) ≤ 1 =
    omega (arith, get_or-le-sum_by (count_in_column c) b.columns p.number [] there, places_most b c whole) in
    let cards = ap (count_in_column c) p.cards in
    let both = same_split c w p.above v q.above (sym p.cards ∙ ap (column b) same ∙ q.cards) (omega (arith, most, cards)) in
    (same, both.0, both.1)

-- a card is in one place alone
held_counts : (b : Board) (c : ℕ) → IsInCell b c → 1 ≤ sum_by (count_in_cell c) b.cells
held_counts b c q =
    let held : count_in_cell c (cell b q.number) ≡ 1 = ap (count_in_cell c) q.held ∙ one_itself c in
    omega (arith, held, get_or-le-sum_by (count_in_cell c) b.cells q.number None (cell_there b q.number c q.held))

stand_counts : (b : Board) (w : List ℕ) (c : ℕ) → StandsOn b w c → 1 ≤ sum_by (count_in_column c) b.columns
stand_counts b w c p =
    omega (
      arith,
      column_counts b w c p,
      get_or-le-sum_by (count_in_column c) b.columns p.number [] (column_inside b w c p),
    )

home_counts : (b : Board) (c : ℕ) → IsHome b.homes c → count_at_home c b.homes ≡ 1
home_counts b c h = grind (arith, nat_tests)

pub not_in_cell : (b : Board) (w : List ℕ) (c : ℕ) → IsPosition b → StandsOn b w c → IsInCell b c → ⊥
not_in_cell b w c whole p q = omega (arith, stand_counts b w c p, held_counts b c q, places_most b c whole)

pub not_home : (b : Board) (w : List ℕ) (c : ℕ) → IsPosition b → StandsOn b w c → IsHome b.homes c → ⊥
not_home b w c whole p h = omega (arith, stand_counts b w c p, home_counts b c h, places_most b c whole)

pub not_both : (b : Board) (c : ℕ) → IsPosition b → IsInCell b c → IsHome b.homes c → ⊥
not_both b c whole q h = omega (arith, held_counts b c q, home_counts b c h, places_most b c whole)

-- what counts in a sum is there
some_of_sum : {X : Type 0} (f : X → ℕ) (xs : List X) (d : X) → 1 ≤ sum_by f xs
    → (i : ℕ) × (i < length xs) × (1 ≤ f (get_or xs i d))
some_of_sum f [] d some = absurd (omega (arith, some))
some_of_sum f (x ∷ xs) d some =
    let all = sum_by-cons f x xs in
    ⊎_elim
    (λ none. let rest = some_of_sum f xs d (omega (arith, some, all, none)) in (suc rest.0, omega (arith, rest.1), rest.2))
    (λ here. (0, omega arith, omega (arith, here)))
    (cases_lt (f x) 1)

found_in : (c : ℕ) (cards : List ℕ) → 1 ≤ count_in_column c cards
    → (w : List ℕ) × (above : List ℕ) × (cards ≡ w ++ c ∷ above)
found_in c [] some = absurd (omega (arith, some))
found_in c (x ∷ xs) some =
    let all = sum_by-cons (λ y. cond (eqb y c) 1 0) x xs in
    ⊎_elim
    (λ same. ([], xs, ap (λ y. y ∷ xs) same))
    (λ other. let none : ◌≡◌ {A = ℕ} (cond (eqb x c) 1 0) 0 = grind (arith, nat_tests) in
    let rest = found_in c xs (omega (arith, some, all, none)) in
    (x ∷ rest.0, rest.1, ap (λ l. x ∷ l) rest.2))
    (cases_eq x c)

held_is : (c : ℕ) (x : Option ℕ) → 1 ≤ count_in_cell c x → x ≡ Some c
held_is c None some = absurd (omega (arith, some))
held_is c (Some x) some =
    ⊎_elim (λ same. ap (λ y. Some y) same)
    (λ other. let none : ◌≡◌ {A = ℕ} (cond (eqb x c) 1 0) 0 = grind (arith, nat_tests) in absurd (omega (arith, some, none)))
    (cases_eq x c)

home_is : (b : Board) (c : ℕ) → 1 ≤ count_at_home c b.homes → IsHome b.homes c
home_is b c some =
    ⊎_elim (λ lt. let none : count_at_home c b.homes ≡ 0 = grind (arith, nat_tests) in absurd (omega (arith, some, none)))
    (λ le. le) (cases_lt (slice_index b.homes (suit c)) (rank c))

-- each card of a position stands in a column, or is in a cell, or is home
pub where_is : (b : Board) (c : ℕ) → IsPosition b → c < 52
    → ((w : List ℕ) × StandsOn b w c) ⊎ (IsInCell b c ⊎ IsHome b.homes c)
where_is b c whole below =
    let once = whole.once c below in
    ⊎_elim
    (λ none. ⊎_elim
    (λ no_cell. inr (inr (home_is b c (omega (arith, once, none, no_cell)))))
    (λ some. let at = some_of_sum (count_in_cell c) b.cells None some in
    inr (inl (record { number = at.0; held = held_is c (cell b at.0) at.2 })))
    (cases_lt (sum_by (count_in_cell c) b.cells) 1))
    (λ some. let at = some_of_sum (count_in_column c) b.columns [] some in
    let found = found_in c (column b at.0) at.2 in
    inl (found.0, record { number = at.0; above = found.1; cards = found.2 }))
    (cases_lt (sum_by (count_in_column c) b.columns) 1)

-- what stands in a column is a card
pub card_below : (b : Board) (c : ℕ) → IsPosition b → 1 ≤ sum_by (count_in_column c) b.columns → c < 52
card_below b c whole some =
    ⊎_elim (λ lt. lt) (λ le. absurd (omega (arith, some, whole.no_other c le))) (cases_lt c 52)

pub standing_below : (b : Board) (w : List ℕ) (c : ℕ) → IsPosition b → StandsOn b w c → c < 52
standing_below b w c whole p = card_below b c whole (stand_counts b w c p)

-- a card is in one cell
pub in_cell_below : (b : Board) (c : ℕ) → IsPosition b → IsInCell b c → c < 52
in_cell_below b c whole q =
    ⊎_elim (λ lt. lt) (λ le. absurd (omega (arith, held_counts b c q, whole.no_other c le))) (cases_lt c 52)

pub in_cell_once : (b : Board) (c i j : ℕ) → IsPosition b → cell b i ≡ Some c → cell b j ≡ Some c → i ≡ j
in_cell_once b c i j whole x y =
    let same = source_once b (Cell i) (Cell j) c whole x y in cc

-- a card in a cell or at home is in no column
pub nowhere : (b : Board) (c : ℕ) → IsPosition b → IsInCell b c ⊎ IsHome b.homes c → sum_by (count_in_column c) b.columns ≡ 0
nowhere b c whole other =
    ⊎_elim (λ q. omega (arith, held_counts b c q, places_most b c whole))
    (λ h. omega (arith, home_counts b c h, places_most b c whole)) other
