-- What a step changes in the bound of a position, and that a class has one bound.
use Rattle.std.proofs.Common.{◌≡◌, ◌≢◌, ℕ, ◌+◌, ◌<◌, ◌≤◌, zero, suc, Bool, true, false, cond, List, [], ◌∷◌, ◌++◌, Some, length, get_or, set, take, refl, sym, ◌∙◌, ap, subst, ⊎_elim, arith}
use Rattle.std.specs.Prelude.{◌==◌, ◌&&◌, ◌||◌, nat_lt, nat_le, count_by, slice_index}
use Rattle.std.specs.List.{list_any}
use Rattle.std.proofs.lemmas.Bool.{cases_lt, cases_eq}
use Rattle.std.proofs.lemmas.Bool.Decides.{nat_tests}
use Rattle.std.proofs.lemmas.List.{get_or-set_same, get_or-set_other, get_or_past, get_or-replicate, take_all}
use Rattle.std.proofs.lemmas.List.Folds.{list_any_more}
use Rattle.std.proofs.lemmas.List.Sums.{sum_by_more, sum_by-take-le, get_or-le-sum_by}
use Rattle.std.proofs.lemmas.List.Sorted.{list_any-IsPermutation}
use Rattle.fc_cards.specs.Card.{rank, suit, all_cards}
use Rattle.fc_cards.specs.declared.places.Place.{Place}
use Rattle.fc_cards.specs.declared.places.Place.TheVariants.{Column, Cell, Home}
use Rattle.fc_position.specs.Board.{Board, column, home, playable, board_without, board_with, front_of, count_in_column, count_at_home, IsNext}
use Rattle.fc_position.specs.Position.{IsPosition, IsWon}
use Rattle.fc_position.proofs.BoardLemmas.{front_last, playable_below, places_most, position-moved, homes-lifted}
use Rattle.fc_moves.specs.declared.steps.Move.{Move}
use Rattle.fc_moves.specs.GameRules.{GameRules}
use Rattle.fc_moves.specs.Step.{Step, Takes}
use Rattle.fc_moves.proofs.StepLemmas.{receives-takes}
use Rattle.fc_bound.specs.Bound.{bound, is_away, is_held_back, is_above_lower, is_lower, stands_in}
use Rattle.fc_bound.specs.Laws.{StepsLowerTheBoundByOne, StepsMoveTheBoundByTheirCard, WinsNeedTheBound, ClassMatesHaveOneBound, BoundsAreSmall}
use Rattle.fc_bound.proofs.AboveLemmas.{above-one, above-other, not_true, stands-counted}
use Rattle.fc_bound.proofs.CountLemmas.{count-most, count-same, count-but_one, count-of_two, count-none}

-- what passes somewhere in a list
pub record Found (test : List ℕ → Bool) (columns : List (List ℕ)) : Type 0 where
  pub place : ℕ
  pub inside : place < length columns
  pub passes : test (get_or columns place []) ≡ true

pub found : (test : List ℕ → Bool) (columns : List (List ℕ)) → list_any test columns ≡ true → Found test columns
found test [] any = absurd (cc)
found test (x ∷ xs) any =
    elim (test x) as (λ t. test x ≡ t → (t || list_any test xs) ≡ true → Found test (x ∷ xs)) [
      | true ↦ λ e _. record { place = 0; inside = omega arith; passes = e }
      | false ↦ λ _ later.
          let f = found test xs later in
          record { place = suc f.place; inside = omega (arith, f.inside); passes = f.passes }
    ] refl any

-- a list that passes as the one that it replaces did changes nothing
pub any-set : (test : List ℕ → Bool) (columns : List (List ℕ)) (i : ℕ) (new : List ℕ) → test new ≡ test (get_or columns i [])
    → list_any test (set columns i new) ≡ list_any test columns
any-set test [] i new same = refl
any-set test (x ∷ xs) zero new same = ap (λ t. t || list_any test xs) same
any-set test (x ∷ xs) (suc i) new same = ap (λ t. test x || t) (any-set test xs i new same)

-- a card that is lifted or placed changes for no other card whether it is held back
pub held-lifted : (b : Board) (from : Place) (u c : ℕ) → playable b from ≡ Some u → u ≢ c
    → is_held_back (board_without b from) c ≡ is_held_back b c
held-lifted b (Column i) u c last other =
    any-set (is_above_lower c) b.columns i (front_of (column b i))
    (sym (above-other c u (front_of (column b i)) other) ∙ ap (is_above_lower c) (sym (front_last (column b i) u last)))
held-lifted b (Cell i) u c full other = refl
held-lifted b Home u c none other = refl

held-placed : (b : Board) (u : ℕ) (to : Place) (c : ℕ) → u ≢ c → is_held_back (board_with b u to) c ≡ is_held_back b c
held-placed b u (Column j) c other = any-set (is_above_lower c) b.columns j (column b j ++ u ∷ []) (above-other c u (column b j) other)
held-placed b u (Cell j) c other = refl
held-placed b u Home c other = refl

held-moved : (b : Board) (from : Place) (u : ℕ) (to : Place) (c : ℕ) → playable b from ≡ Some u → u ≢ c
    → is_held_back b c ≡ is_held_back (board_with (board_without b from) u to) c
held-moved b from u to c there other = sym (held-placed (board_without b from) u to c other ∙ held-lifted b from u c there other)

-- a card in a column is not home
pub column_away : (b : Board) (i c : ℕ) → IsPosition b → i < length b.columns → stands_in (column b i) c ≡ true
    → is_away b c ≡ true
column_away b i c p inside stands =
    let counted = stands-counted (column b i) c stands in
    let all = get_or-le-sum_by (count_in_column c) b.columns i [] inside in
    let most = places_most b c p in
    let none : count_at_home c b.homes ≡ 0 = omega arith in
    go (home b (suit c)) (rank c) none
  where
    go : (h r : ℕ) → ◌≡◌ {A = ℕ} (cond (nat_le r h) 1 0) 0 → nat_lt h r ≡ true
    go h r none = grind (arith, nat_tests)

-- a card that is held back is not home, and neither is some lower card of its suit
pub held_away : (b : Board) (c : ℕ) → IsPosition b → is_held_back b c ≡ true → is_away b c ≡ true
held_away b c p held =
    let f = found (is_above_lower c) b.columns held in
    column_away b f.place c p f.inside (above-one c (column b f.place) f.passes).stands

-- no lower card of the suit of a card that is next is away
pub next_least : (b : Board) (u lower : ℕ) → IsNext b.homes u → is_lower u lower ≡ true → is_away b lower ≡ true → ⊥
next_least b u lower next low away =
    go (suit lower) (suit u) (rank lower) (rank u) (slice_index b.homes (suit lower)) (slice_index b.homes (suit u))
    (ap (slice_index b.homes)) low away next
  where
    go : (sl su rl ru hl hu : ℕ) → (sl ≡ su → hl ≡ hu) → ((sl == su) && nat_lt rl ru) ≡ true → nat_lt hl rl ≡ true → hu + 1 ≡ ru → ⊥
    go sl su rl ru hl hu same lower away next =
        ⊎_elim (λ e. let h = same e in grind (arith, nat_tests)) (λ ne. grind (arith, nat_tests)) (cases_eq sl su)

-- a card that is next is not held back: every lower card of its suit is home
pub next_free : (b : Board) (u : ℕ) → IsPosition b → IsNext b.homes u → is_held_back b u ≡ false
next_free b u p next = not_true (is_held_back b u) (λ held.
    let f = found (is_above_lower u) b.columns held in
    let one = above-one u (column b f.place) f.passes in
    next_least b u one.lower next one.is_lower (column_away b f.place one.lower p f.inside one.lower_stands))

-- a card that goes home changes for no other card whether it is home
pub away-home : (homes : List ℕ) (u c : ℕ) → length homes ≡ 4 → IsNext homes u → c ≢ u
    → nat_lt (slice_index homes (suit c)) (rank c) ≡ nat_lt (slice_index (set homes (suit u) (rank u)) (suit c)) (rank c)
away-home homes u c four next other =
    go (suit u) (suit c) (rank u) (rank c) (slice_index homes (suit u)) (slice_index homes (suit c))
    (slice_index (set homes (suit u) (rank u)) (suit c)) next (λ e r. other (omega (arith, e, r)))
    (λ e. ap (slice_index homes) (sym e))
    (λ e. ap (slice_index (set homes (suit u) (rank u))) (sym e) ∙ get_or-set_same homes (suit u) (rank u) 0 (omega arith))
    (λ ne. get_or-set_other homes (suit u) (suit c) (rank u) 0 (λ e. ne (sym e)))
  where
    go : (su sc ru rc hu hc now : ℕ) → hu + 1 ≡ ru → (su ≡ sc → ru ≢ rc) → (su ≡ sc → hc ≡ hu) → (su ≡ sc → now ≡ ru) → (su ≢ sc → now ≡ hc)
        → nat_lt hc rc ≡ nat_lt now rc
    go su sc ru rc hu hc now next apart same here there =
        ⊎_elim (λ e. let a = apart e in let s = same e in let h = here e in grind (arith, nat_tests))
        (λ ne. let t = there ne in grind (arith, nat_tests)) (cases_eq su sc)

-- a test counts one at most
pub bit_most : (p : Bool) → cond p 1 0 ≤ 1
bit_most p = elim p as (λ t. cond t 1 0 ≤ 1) [ true ↦ omega arith | false ↦ omega arith ]

-- how many cards are held back differs by what the card that moves adds before and after
held-change : (b : Board) (from : Place) (u : ℕ) (to : Place) → u < 52 → playable b from ≡ Some u
    → count_by (is_held_back b) all_cards + cond (is_held_back (board_with (board_without b from) u to) u) 1 0
    ≡ count_by (is_held_back (board_with (board_without b from) u to)) all_cards + cond (is_held_back b u) 1 0
held-change b from u to below there =
    count-but_one u (is_held_back b) (is_held_back (board_with (board_without b from) u to)) below
    (λ c other. held-moved b from u to c there (λ e. other (sym e)))

-- where the counts stay, as many cards are not home, and the card that moves alone may be held back more or less
pub bound-moved : (b : Board) (from : Place) (u : ℕ) (to : Place) → u < 52 → playable b from ≡ Some u
    → (board_with (board_without b from) u to).homes ≡ b.homes
    → bound b + cond (is_held_back (board_with (board_without b from) u to) u) 1 0 ≡ bound (board_with (board_without b from) u to) + cond (is_held_back b u) 1 0
unfolding bound
bound-moved b from u to below there homes =
    let away : count_by (is_away b) all_cards ≡ count_by (is_away (board_with (board_without b from) u to)) all_cards =
    count-same (is_away b) (is_away (board_with (board_without b from) u to))
    (λ c _. ap (λ h. nat_lt (slice_index h (suit c)) (rank c)) (sym homes)) in
    let held = held-change b from u to below there in
    omega arith

stays : (b : Board) (from : Place) (u : ℕ) (to : Place) → u < 52 → playable b from ≡ Some u
    → (board_with (board_without b from) u to).homes ≡ b.homes → bound b ≤ bound (board_with (board_without b from) u to) + 1
stays b from u to below there homes =
    let same = bound-moved b from u to below there homes in
    let most = bit_most (is_held_back b u) in
    omega arith

-- a card that goes home is not held back, and is home afterwards
goes_home : (b : Board) (from : Place) (u : ℕ) → IsPosition b → u < 52 → playable b from ≡ Some u → IsNext b.homes u
    → bound b ≤ bound (board_with (board_without b from) u Home) + 1
unfolding bound
goes_home b from u p below there next =
    let homes = homes-lifted b from in
    let away = count-but_one u (is_away b) (is_away (board_with (board_without b from) u Home)) below
    (λ c other. away-home b.homes u c p.homes next other
    ∙ ap (λ h. nat_lt (slice_index (set h (suit u) (rank u)) (suit c)) (rank c)) (sym homes)) in
    let held = held-change b from u Home below there in
    let free : ◌≡◌ {A = ℕ} (cond (is_held_back b u) 1 0) 0 = ap (λ t. cond t 1 0) (next_free b u p next) in
    let most = bit_most (is_away b u) in
    omega arith

-- a step lowers the bound by one at most
moved : (g : GameRules) (b : Board) (from : Place) (u : ℕ) (to : Place) → IsPosition b → playable b from ≡ Some u
    → Takes g b u to → bound b ≤ bound (board_with (board_without b from) u to) + 1
moved g b from u (Column j) p there takes =
    stays b from u (Column j) (playable_below b from u p there) there (homes-lifted b from)
moved g b from u (Cell j) p there takes =
    stays b from u (Cell j) (playable_below b from u p there) there (homes-lifted b from)
moved g b from u Home p there takes = goes_home b from u p (playable_below b from u p there) there takes

pub step_lowers : StepsLowerTheBoundByOne
step_lowers g b c m p step =
    subst (λ x. bound b ≤ bound x + 1) (sym step.after) (moved g b m.from step.card m.to p step.playable step.takes)

-- a step that takes no card home changes the bound by its card alone
pub step_moves : StepsMoveTheBoundByTheirCard
step_moves g b c m u p step other there =
    let same : step.card ≡ u = let e = step.playable in cc in
    let after : c ≡ board_with (board_without b m.from) u m.to = step.after ∙ ap (λ v. board_with (board_without b m.from) v m.to) same in
    rw after (bound-moved b m.from u m.to (playable_below b m.from u p there) there (kept m.to other))
  where
    kept : (to : Place) → to ≢ Home → (board_with (board_without b m.from) u to).homes ≡ b.homes
    kept (Column j) ne = homes-lifted b m.from
    kept (Cell j) ne = homes-lifted b m.from
    kept Home ne = absurd (ne refl)

pub step_position : (g : GameRules) (b c : Board) (m : Move) → IsPosition b → Step g b m c → IsPosition c
step_position g b c m p step =
    subst IsPosition (sym step.after) (position-moved b m.from step.card m.to p step.playable (receives-takes g b step.card m.to step.takes))

-- on a won board no card is away
pub won_home : (b : Board) (c : ℕ) → IsWon b → c < 52 → is_away b c ≡ false
won_home b c won below =
    let full : home b (suit c) ≡ 13 = ap (λ h. slice_index h (suit c)) won ∙ get_or-replicate 4 (suit c) 13 0 (omega arith) in
    let test : nat_lt 13 (rank c) ≡ false = grind (arith, nat_tests) in
    ap (λ h. nat_lt h (rank c)) full ∙ test

-- the bound of a position with every card home is 0
pub won_none : (b : Board) → IsPosition b → IsWon b → bound b ≡ 0
unfolding bound
won_none b p won =
    let away = count-none (is_away b) (λ c below. won_home b c won below) in
    let held = count-none (is_held_back b) (λ c below. not_true (is_held_back b c) (λ h.
    let e : ◌≡◌ {A = Bool} true false = sym (held_away b c p h) ∙ won_home b c won below in absurd (cc))) in
    omega arith

-- every list that wins has at least so many moves
pub wins_need : WinsNeedTheBound
wins_need g b [] p (c, run, won) =
    let none = won_none b p (subst IsWon run won) in omega arith
wins_need g b (m ∷ ms) p (c, (mid, step, rest), won) =
    let one = step_lowers g b mid m p step in
    let later = wins_need g mid ms (step_position g b mid m p step) (c, rest, won) in
    omega arith

-- no card is counted more than twice
pub bound_small : BoundsAreSmall
unfolding bound
bound_small b = omega (arith, count-most (is_away b), count-most (is_held_back b))

-- boards of one class have one bound
pub class_bound : ClassMatesHaveOneBound
unfolding bound
class_bound b c s =
    let away : count_by (is_away b) all_cards ≡ count_by (is_away c) all_cards =
    ap (λ h. count_by (λ x. nat_lt (slice_index h (suit x)) (rank x)) all_cards) s.homes in
    let held : count_by (is_held_back b) all_cards ≡ count_by (is_held_back c) all_cards =
    count-same (is_held_back b) (is_held_back c) (λ x _. list_any-IsPermutation (is_above_lower x) b.columns c.columns s.columns) in
    omega arith

-- no column has a card twice
pub column_once : (b : Board) (i c : ℕ) → IsPosition b → count_in_column c (column b i) ≤ 1
column_once b i c p =
    ⊎_elim
    (λ inside. omega (arith, get_or-le-sum_by (count_in_column c) b.columns i [] inside, places_most b c p))
    (λ past. subst (λ cards. count_in_column c cards ≤ 1) (sym (get_or_past b.columns i [] past)) (omega arith))
    (cases_lt i (length b.columns))

-- how many cards are held back in the first columns
abbrev pub held_in : List (List ℕ) → ℕ
held_in columns = count_by (λ c. list_any (is_above_lower c) columns) all_cards

pub held-none : held_in [] ≡ 0
held-none = count-none (λ c. list_any (is_above_lower c) []) (λ c below. refl)

-- a card is held back in one column at most
apart : (b : Board) (i c : ℕ) → IsPosition b → i < length b.columns → list_any (is_above_lower c) (take i b.columns) ≡ true
    → is_above_lower c (column b i) ≡ true → ⊥
apart b i c p inside before here =
    let f = found (is_above_lower c) (take i b.columns) before in
    let one = stands-counted (get_or (take i b.columns) f.place []) c (above-one c (get_or (take i b.columns) f.place []) f.passes).stands in
    let two = stands-counted (column b i) c (above-one c (column b i) here).stands in
    omega (
      arith,
      get_or-le-sum_by (count_in_column c) (take i b.columns) f.place [] f.inside,
      sum_by_more (count_in_column c) b.columns i [] inside,
      sum_by-take-le (count_in_column c) b.columns (i + 1),
      places_most b c p,
    )

-- two tests that aren't both passed count as one
pub either : (p q r : Bool) → p ≡ (q || r) → (q ≡ true → r ≡ true → ⊥) → cond p 1 0 ≡ cond q 1 0 + cond r 1 0
either p q r is apart = rw is (elim q as (λ q. (q ≡ true → r ≡ true → ⊥) → cond (q || r) 1 0 ≡ cond q 1 0 + cond r 1 0) [
  | true ↦ λ apart. rw (not_true r (apart refl)) refl
  | false ↦ λ apart. elim r as (λ r. cond (false || r) 1 0 ≡ cond false 1 0 + cond r 1 0) [ true ↦ refl | false ↦ refl ]
] apart)

-- one column more
pub held-more : (b : Board) (i : ℕ) → IsPosition b → i < length b.columns
    → held_in (take (i + 1) b.columns) ≡ held_in (take i b.columns) + count_by (λ c. is_above_lower c (column b i)) all_cards
held-more b i p inside =
    count-of_two (λ c. list_any (is_above_lower c) (take (i + 1) b.columns)) (λ c. list_any (is_above_lower c) (take i b.columns))
    (λ c. is_above_lower c (column b i))
    (λ c below. either (list_any (is_above_lower c) (take (i + 1) b.columns)) (list_any (is_above_lower c) (take i b.columns))
    (is_above_lower c (column b i)) (list_any_more (is_above_lower c) b.columns i [] inside) (apart b i c p inside))

-- all columns
pub held-all : (b : Board) (i : ℕ) → length b.columns ≤ i
    → count_by (is_away b) all_cards + held_in (take i b.columns) ≡ bound b
unfolding bound
held-all b i past = ap (λ columns. count_by (is_away b) all_cards + held_in columns) (take_all i b.columns past)
