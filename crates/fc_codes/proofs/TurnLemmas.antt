-- What the cards lie on where those before a card have moved: what the next one that moves changes, and what it is in the end.
use Rattle.std.proofs.Common.{◌≡◌, ◌≢◌, ℕ, ◌+◌, ◌*◌, ◌/◌, ◌<◌, ◌≤◌, ◌⊎◌, true, false, Option, Some, None, List, [], ◌∷◌, ◌++◌, length, map, set, get_or, cond, eqb, ltb, inl, inr, replicate, sym, ◌∙◌, ap, subst, ⊎_elim, arith}
use Rattle.std.specs.Prelude.{filter, ◌&&◌, slice_index}
use Rattle.std.specs.List.{range_with_len}
use Rattle.std.specs.Int.{bit_at}
use Rattle.std.proofs.lemmas.List.{append-nil, get_or-replicate, get_or-set_same, get_or-set_other, length-map, length-set, length_push, map-append}
use Rattle.std.proofs.lemmas.List.Elements.{filter-append}
use Rattle.std.proofs.lemmas.Bool.{cases_eq, cases_lt}
use Rattle.std.proofs.lemmas.Bool.Decides.{nat_tests}
use Rattle.std.proofs.lemmas.Nat.Bits.{bit_at-zero}
use Rattle.fc_cards.specs.Card.{suit}
use Rattle.fc_position.specs.Board.{Board}
use Rattle.fc_position.specs.Position.{IsPosition}
use Rattle.fc_codes.specs.State.{IsStateOf, IsCodeOf}
use Rattle.fc_codes.specs.Spelled.{beneath, with_padding, seat_of, seat}
use Rattle.fc_codes.specs.declared.seats.Seats.{Seats}
use Rattle.fc_codes.specs.inner.Seats.{seat_until, home_among, AreMovedUntil, AreSeatsUntil}
use Rattle.fc_codes.proofs.GatherLemmas.{range-more, homes_more}
use Rattle.fc_codes.proofs.BitLemmas.{here, elsewhere}
use Rattle.fc_codes.proofs.FilledLemmas.{filled_push}
use Rattle.fc_codes.proofs.ApartLemmas.{seats_apart, Moved, LiesOnCard, moved_lies}

-- whether a number is before the next one
until_other : (y k a b : ℕ) → y ≢ k → ◌≡◌ {A = ℕ} (cond (ltb y (k + 1)) a b) (cond (ltb y k) a b)
until_other y k a b other =
    ⊎_elim (λ lt. grind (arith, nat_tests)) (λ le. let past : k < y = omega (arith, le, other) in grind (arith, nat_tests)) (cases_lt y k)

until_here : (k a b : ℕ) → ◌≡◌ {A = ℕ} (cond (ltb k (k + 1)) a b) a
until_here k a b = grind (arith, nat_tests)

until_start : (c a b : ℕ) → ◌≡◌ {A = ℕ} (cond (ltb c 0) a b) b
until_start c a b = grind (arith, nat_tests)

pub until_end : (c k a b : ℕ) → c < k → ◌≡◌ {A = ℕ} (cond (ltb c k) a b) a
until_end c k a b below = grind (arith, nat_tests)

pub seat_unmoved : (start c n : ℕ) → n ≡ 0 → seat_of start c n ≡ start
seat_unmoved start c n none = grind (arith, nat_tests)

no_card_yet : (x n m : ℕ) → 52 ≤ m → get_or (replicate n m) x 0 < 52 → x < n → ⊥
no_card_yet x n m none below small = omega (arith, none, below, get_or-replicate n x m 0 small)

unmarked : (c n : ℕ) → ◌≡◌ {A = ℕ} (cond ((ltb c 0) && (ltb 0 n)) 1 0) 0
unmarked c n = grind (arith, nat_tests)

mark_inside : (a c m : ℕ) → c < a → 0 < m → ◌≡◌ {A = ℕ} (cond ((ltb c a) && (ltb 0 m)) 1 0) 1
mark_inside a c m one two = grind (arith, nat_tests)

mark_before : (a b c m : ℕ) → c < a → c < b → ◌≡◌ {A = ℕ} (cond ((ltb c a) && (ltb 0 m)) 1 0) (cond ((ltb c b) && (ltb 0 m)) 1 0)
mark_before a b c m one two = grind (arith, nat_tests)

mark_past : (a b c m : ℕ) → a ≤ c → b ≤ c → ◌≡◌ {A = ℕ} (cond ((ltb c a) && (ltb 0 m)) 1 0) (cond ((ltb c b) && (ltb 0 m)) 1 0)
mark_past a b c m one two = grind (arith, nat_tests)

mark_here : (k c m : ℕ) → c ≡ k → 0 < m → ◌≡◌ {A = ℕ} (cond ((ltb c (k + 1)) && (ltb 0 m)) 1 0) 1
mark_here k c m same some = mark_inside (k + 1) c m (omega (arith, same)) some

mark_other : (k c m : ℕ) → c ≢ k → ◌≡◌ {A = ℕ} (cond ((ltb c (k + 1)) && (ltb 0 m)) 1 0) (cond ((ltb c k) && (ltb 0 m)) 1 0)
mark_other k c m other =
    ⊎_elim (λ lt. mark_before (k + 1) k c m (omega (arith, lt)) lt) (λ le. mark_past (k + 1) k c m (omega (arith, le, other)) le) (cases_lt c k)

-- the cards in cells with the next card, whose state is told
abbrev cells_until : List ℕ → ℕ → List ℕ
cells_until code k = filter (λ c. eqb (slice_index code c) 2) (range_with_len 0 k)

until_more : (code : List ℕ) (k : ℕ) → cells_until code (k + 1) ≡ cells_until code k ++ cond (eqb (slice_index code k) 2) (k ∷ []) []
until_more code k =
    ap (filter (λ c. eqb (slice_index code c) 2)) (range-more k)
    ∙ filter-append (λ c. eqb (slice_index code c) 2) (range_with_len 0 k) (k ∷ [])

in_cell_now : {X : Type 0} (n : ℕ) (x y : X) → n ≡ 2 → cond (eqb n 2) x y ≡ x
in_cell_now n x y e = let yes_ : eqb n 2 ≡ true = grind (arith, nat_tests) in ap (λ t. cond t x y) yes_

not_in_cell_now : {X : Type 0} (n : ℕ) (x y : X) → n ≢ 2 → cond (eqb n 2) x y ≡ y
not_in_cell_now n x y e = let no_ : eqb n 2 ≡ false = grind (arith, nat_tests) in ap (λ t. cond t x y) no_

cells_next : (code : List ℕ) (k n : ℕ) (old new : List (Option ℕ)) (held more : ℕ) → n ≡ slice_index code k
    → old ≡ with_padding 4 None (map (λ (c : ℕ). Some c) (cells_until code k)) → held ≡ length (cells_until code k) → (n ≡ 2 → held < 4)
    → new ≡ cond (eqb n 2) (set old held (Some k)) old → more ≡ cond (eqb n 2) (held + 1) held
    → (new ≡ with_padding 4 None (map (λ (c : ℕ). Some c) (cells_until code (k + 1)))) × (more ≡ length (cells_until code (k + 1)))
cells_next code k n old new held more state before count room cells next =
    let front = cells_until code k in
    let after = until_more code k ∙ ap (λ m. front ++ cond (eqb m 2) (k ∷ []) []) (sym state) in
    ⊎_elim
    (λ e. let added : cells_until code (k + 1) ≡ front ++ k ∷ [] = after ∙ ap (λ l. front ++ l) (in_cell_now n (k ∷ []) [] e) in
    let long : length (map (λ (c : ℕ). Some c) front) ≡ held = length-map front (λ (c : ℕ). Some c) ∙ sym count in (
      cells ∙ in_cell_now n (set old held (Some k)) old e ∙ ap (λ l. set l held (Some k)) before
          ∙ filled_push 4 None (map (λ (c : ℕ). Some c) front) (Some k) held long (room e)
          ∙ ap (with_padding 4 None) (sym (map-append (λ (c : ℕ). Some c) front (k ∷ [])) ∙ ap (map (λ (c : ℕ). Some c)) (sym added)),
      next ∙ in_cell_now n (held + 1) held e ∙ ap (λ m. m + 1) count ∙ sym (length_push front k) ∙ ap length (sym added),
    ))
    (λ ne. let same : cells_until code (k + 1) ≡ front =
    after ∙ ap (λ l. front ++ l) (not_in_cell_now n (k ∷ []) [] ne) ∙ append-nil front in (
      cells ∙ not_in_cell_now n (set old held (Some k)) old ne ∙ before
          ∙ ap (λ l. with_padding 4 None (map (λ (c : ℕ). Some c) l)) (sym same),
      next ∙ not_in_cell_now n (held + 1) held ne ∙ count ∙ ap length (sym same),
    ))
    (cases_eq n 2)

four_next : (n k held : ℕ) (old new : List (Option ℕ)) → new ≡ cond (eqb n 2) (set old held (Some k)) old → length old ≡ 4 → length new ≡ 4
four_next n k held old new cells four =
    ⊎_elim
    (λ e. ap length (cells ∙ in_cell_now n (set old held (Some k)) old e) ∙ length-set old held (Some k) ∙ four)
    (λ ne. ap length (cells ∙ not_in_cell_now n (set old held (Some k)) old ne) ∙ four)
    (cases_eq n 2)

-- at first none has moved
pub none_moved : (s : Board) (code : List ℕ) (seats : Seats) → seats.above ≡ replicate 52 53
    → ((c : ℕ) → c < 52 → bit_at seats.deepest c ≡ cond (eqb (beneath s c) 52) 1 0) → seats.moved ≡ 0
    → seats.cells ≡ replicate 4 None → seats.held ≡ 0 → seats.homes ≡ 0 ∷ 0 ∷ 0 ∷ 0 ∷ [] → AreSeatsUntil s code 0 seats
none_moved s code seats above deepest moved cells held homes = record {
  count = ap length above;
  there = λ x small below. absurd (no_card_yet x 52 53 (omega arith) (subst (λ l. get_or l x 0 < 52) above below) small);
  lies = λ c small before. absurd (omega (arith, before));
  deepest = λ c small. deepest c small ∙ ap (λ x. cond (eqb x 52) 1 0) (sym (until_start c (seat s code c) (beneath s c)));
  moved = λ c small. ap (λ n. bit_at n c) moved ∙ bit_at-zero c ∙ sym (unmarked c (slice_index code c));
  cells = cells;
  four = ap length cells;
  held = held;
  homes = homes;
}

passed : (n c k x y : ℕ) → c ≢ k → ◌≡◌ {A = ℕ} (cond ((eqb n 3) && (eqb c k)) x y) y
passed n c k x y ne = grind (arith, nat_tests)

both : (n c k x : ℕ) → c ≡ k → n ≡ 3 → x ≡ 52 → ◌≡◌ {A = ℕ} (cond ((eqb n 3) && (eqb c k)) 1 0) (cond (eqb x 52) 1 0)
both n c k x e f g = grind (arith, nat_tests)

neither : (n c k x : ℕ) → n ≢ 3 → x ≢ 52 → ◌≡◌ {A = ℕ} (cond ((eqb n 3) && (eqb c k)) 1 0) (cond (eqb x 52) 1 0)
neither n c k x f g = grind (arith, nat_tests)

module _ (s b : Board) (code : List ℕ) (ps : IsPosition s) (pb : IsPosition b) (coded : IsCodeOf s b code) where
  -- the card k moves: it leaves what it lay on, and then is put
  module _ (k n : ℕ) (old left new : Seats) (so_far : AreSeatsUntil s code k old) (card : k < 52)
      (state : n ≡ slice_index code k) (moved : 0 < n) (kept : left.above ≡ old.above)
      (above : new.above ≡ cond (ltb 3 n) (set left.above (k / 4 * 4 + n) k) left.above) where
    lies_now : Moved (beneath s k) k n
    lies_now = moved_lies s b k n pb (subst (λ m. IsStateOf s b k m) (sym state) (coded.states k card)) moved

    seat_now : seat s code k ≡ seat_of (beneath s k) k n
    seat_now = ap (seat_of (beneath s k) k) (sym state)

    no_card : n ≤ 3 → new.above ≡ old.above
    no_card few = above ∙ not_on n few ∙ kept
      where
        not_on : (m : ℕ) → m ≤ 3 → cond (ltb 3 m) (set left.above (k / 4 * 4 + n) k) left.above ≡ left.above
        not_on m few = grind (arith, nat_tests)

    on_card : 3 < n → new.above ≡ set old.above (k / 4 * 4 + n) k
    on_card many = above ∙ on n many ∙ ap (λ l. set l (k / 4 * 4 + n) k) kept
      where
        on : (m : ℕ) → 3 < m → cond (ltb 3 m) (set left.above (k / 4 * 4 + n) k) left.above ≡ set left.above (k / 4 * 4 + n) k
        on m many = grind (arith, nat_tests)

    there : (x : ℕ) → x < 52 → get_or new.above x 0 < 52 → seat s code (get_or new.above x 0) ≡ x
    there x small below =
        let stays : get_or new.above x 0 ≡ get_or old.above x 0 → seat s code (get_or new.above x 0) ≡ x = λ at.
        ap (seat s code) at ∙ so_far.there x small (omega (arith, at, below)) in
        ⊎_elim (λ m. stays (ap (λ l. get_or l x 0) (no_card (omega (arith, m.0)))))
        (λ more. ⊎_elim (λ m. stays (ap (λ l. get_or l x 0) (no_card (omega (arith, m.0)))))
        (λ (m : LiesOnCard (beneath s k) k n). let e = on_card m.state in
        ⊎_elim
        (λ here. let at : get_or new.above x 0 ≡ k =
        ap (λ l. get_or l x 0) e ∙ ap (λ z. get_or (set old.above (k / 4 * 4 + n) k) z 0) here
        ∙ get_or-set_same old.above (k / 4 * 4 + n) k 0 (omega (arith, so_far.count, m.below)) in
        ap (seat s code) at ∙ seat_now ∙ m.at ∙ sym here)
        (λ other. stays (ap (λ l. get_or l x 0) e ∙ get_or-set_other old.above (k / 4 * 4 + n) x k 0 other))
        (cases_eq x (k / 4 * 4 + n)))
        more)
        lies_now

    -- the card lies on what it was put on
    put_there : seat s code k < 52 → get_or new.above (seat s code k) 0 ≡ k
    put_there below =
        ⊎_elim (λ m. absurd (omega (arith, below, seat_now, m.1)))
        (λ more. ⊎_elim (λ m. absurd (omega (arith, below, seat_now, m.1)))
        (λ (m : LiesOnCard (beneath s k) k n). ap (λ l. get_or l (seat s code k) 0) (on_card m.state)
        ∙ ap (λ z. get_or (set old.above (k / 4 * 4 + n) k) z 0) (seat_now ∙ m.at)
        ∙ get_or-set_same old.above (k / 4 * 4 + n) k 0 (omega (arith, so_far.count, m.below)))
        more)
        lies_now

    -- and another that has moved where it did
    others_there : (c : ℕ) → c < 52 → c ≢ k → c < k → 0 < slice_index code c → seat s code c < 52
        → get_or new.above (seat s code c) 0 ≡ c
    others_there c small other before some below =
        let x = seat s code c in
        let was : get_or old.above x 0 ≡ c = so_far.lies c small before some below in
        ⊎_elim (λ m. ap (λ l. get_or l x 0) (no_card (omega (arith, m.0))) ∙ was)
        (λ more. ⊎_elim (λ m. ap (λ l. get_or l x 0) (no_card (omega (arith, m.0))) ∙ was)
        (λ (m : LiesOnCard (beneath s k) k n). let apart : x ≢ k / 4 * 4 + n = λ e.
        other (seats_apart s b code c k ps pb coded small card below (e ∙ sym m.at ∙ sym seat_now)) in
        ap (λ l. get_or l x 0) (on_card m.state) ∙ get_or-set_other old.above (k / 4 * 4 + n) x k 0 apart ∙ was)
        more)
        lies_now

    lies : (c : ℕ) → c < 52 → c < k + 1 → 0 < slice_index code c → seat s code c < 52 → get_or new.above (seat s code c) 0 ≡ c
    lies c small before some below =
        ⊎_elim
        (λ same. ap (λ d. get_or new.above (seat s code d) 0) same
        ∙ put_there (subst (λ d. seat s code d < 52) same below) ∙ sym same)
        (λ other. others_there c small other (omega (arith, before, other)) some below)
        (cases_eq c k)

    count_new : length new.above ≡ 52
    count_new =
        ⊎_elim (λ few. ap length (no_card few) ∙ so_far.count)
        (λ many. ap length (on_card many) ∙ length-set old.above (k / 4 * 4 + n) k ∙ so_far.count)
        (few_or_many n)
      where
        few_or_many : (m : ℕ) → (m ≤ 3) ⊎ (3 < m)
        few_or_many m = ⊎_elim (λ lt. inr lt) (λ le. inl le) (cases_lt 3 m)

    moved_new : ((c : ℕ) → bit_at left.moved c ≡ cond (eqb c k) 1 (bit_at old.moved c)) → new.moved ≡ left.moved
        → AreMovedUntil code (k + 1) new.moved
    moved_new marks stays c small =
        ap (λ m. bit_at m c) stays ∙ marks c
        ∙ ⊎_elim
        (λ same. here c k 1 (bit_at old.moved c) same ∙ sym (mark_here k c (slice_index code c) same (omega (arith, moved, state, ap (slice_index code) same))))
        (λ other. elsewhere c k 1 (bit_at old.moved c) other ∙ so_far.moved c small ∙ sym (mark_other k c (slice_index code c) other))
        (cases_eq c k)

    deepest_new : ((c : ℕ) → bit_at left.deepest c ≡ cond (eqb c k) 0 (bit_at old.deepest c))
        → ((c : ℕ) → bit_at new.deepest c ≡ cond ((eqb n 3) && (eqb c k)) 1 (bit_at left.deepest c))
        → (c : ℕ) → c < 52 → bit_at new.deepest c ≡ cond (eqb (seat_until s code (k + 1) c) 52) 1 0
    deepest_new leaves puts c small =
        ⊎_elim
        (λ same. let until : seat_until s code (k + 1) c ≡ seat s code k =
        ap (seat_until s code (k + 1)) same ∙ until_here k (seat s code k) (beneath s k) in
        let left_none : bit_at left.deepest c ≡ 0 = leaves c ∙ here c k 0 (bit_at old.deepest c) same in
        let bit = puts c ∙ ap (λ m. cond ((eqb n 3) && (eqb c k)) 1 m) left_none in
        bit ∙ table_bit c same ∙ ap (λ x. cond (eqb x 52) 1 0) (sym until))
        (λ other. puts c ∙ passed n c k 1 (bit_at left.deepest c) other ∙ leaves c ∙ elsewhere c k 0 (bit_at old.deepest c) other
        ∙ so_far.deepest c small
        ∙ ap (λ x. cond (eqb x 52) 1 0) (sym (until_other c k (seat s code c) (beneath s c) other)))
        (cases_eq c k)
      where
        table_bit : (c : ℕ) → c ≡ k → ◌≡◌ {A = ℕ} (cond ((eqb n 3) && (eqb c k)) 1 0) (cond (eqb (seat s code k) 52) 1 0)
        table_bit c same =
            ⊎_elim (λ m. neither n c k (seat s code k) (omega (arith, m.0)) (omega (arith, seat_now, m.1)))
            (λ more. ⊎_elim (λ m. both n c k (seat s code k) same m.0 (seat_now ∙ m.1))
            (λ (m : LiesOnCard (beneath s k) k n). neither n c k (seat s code k) (let p = m.state in omega (arith, p))
            (omega (arith, seat_now, m.at, m.below)))
            more)
            lies_now

    pub one_moved : ((c : ℕ) → bit_at left.deepest c ≡ cond (eqb c k) 0 (bit_at old.deepest c))
        → ((c : ℕ) → bit_at new.deepest c ≡ cond ((eqb n 3) && (eqb c k)) 1 (bit_at left.deepest c))
        → ((c : ℕ) → bit_at left.moved c ≡ cond (eqb c k) 1 (bit_at old.moved c)) → new.moved ≡ left.moved
        → (n ≡ 2 → old.held < 4) → new.cells ≡ cond (eqb n 2) (set old.cells old.held (Some k)) old.cells
        → new.held ≡ cond (eqb n 2) (old.held + 1) old.held
        → new.homes ≡ cond (eqb n 1) (set old.homes (suit k) (get_or old.homes (suit k) 0 + 1)) old.homes
        → AreSeatsUntil s code (k + 1) new
    one_moved leaves puts marks stays room cells held homes = record {
      count = count_new;
      there = there;
      lies = lies;
      deepest = deepest_new leaves puts;
      moved = moved_new marks stays;
      cells = (cells_next code k n old.cells new.cells old.held new.held state so_far.cells so_far.held room cells held).0;
      four = four_next n k old.held old.cells new.cells cells so_far.four;
      held = (cells_next code k n old.cells new.cells old.held new.held state so_far.cells so_far.held room cells held).1;
      homes = homes_more code (range_with_len 0 k) old.homes new.homes k so_far.homes
          (homes ∙ ap (λ m. cond (eqb m 1) (set old.homes (suit k) (get_or old.homes (suit k) 0 + 1)) old.homes) state)
          ∙ ap (λ l. map (home_among code l) (0 ∷ 1 ∷ 2 ∷ 3 ∷ [])) (sym (range-more k));
    }
