-- Cards that have not moved are passed, and in the end the seats are those of the code.
use Rattle.std.proofs.Common.{◌≡◌, ℕ, zero, suc, ◌+◌, ◌-◌, ◌<◌, ◌≤◌, Bool, true, false, Some, None, List, [], ◌∷◌, ◌++◌, length, map, get_or, cond, eqb, ltb, refl, sym, ◌∙◌, ap, ⊎_elim, arith}
use Rattle.std.specs.Prelude.{filter, ◌&&◌, slice_index}
use Rattle.std.specs.Int.{bit_at}
use Rattle.std.specs.List.{range_with_len}
use Rattle.std.proofs.lemmas.List.{append-nil, get_or_past}
use Rattle.std.proofs.lemmas.List.Elements.{filter-append}
use Rattle.std.proofs.lemmas.Bool.{cases_eq, cases_lt}
use Rattle.std.proofs.lemmas.Bool.Decides.{nat_tests}
use Rattle.fc_cards.specs.Card.{suit, all_cards}
use Rattle.fc_position.specs.Board.{Board}
use Rattle.fc_position.specs.Position.{IsPosition}
use Rattle.fc_codes.specs.State.{IsCodeOf}
use Rattle.fc_codes.specs.Spelled.{beneath, with_padding, seat, lying_on}
use Rattle.fc_codes.specs.declared.seats.Seats.{Seats}
use Rattle.fc_codes.specs.inner.Beneath.{card_at}
use Rattle.fc_codes.specs.inner.Seats.{seat_until, home_among, IsBare, AreSeatsUntil, AreSeatsOf}
use Rattle.fc_codes.proofs.GatherLemmas.{range-more, home_more}
use Rattle.fc_codes.proofs.GrownLemmas.{lying_none, lying_one}
use Rattle.fc_codes.proofs.ApartLemmas.{seats_apart}
use Rattle.fc_codes.proofs.BitLemmas.{cards_tested}
use Rattle.fc_codes.proofs.TurnLemmas.{seat_unmoved, until_end}

-- cards with the state 0 are in no cell and not home
cells_passed : (code : List ℕ) (k d : ℕ) → ((i : ℕ) → i < d → slice_index code (k + i) ≡ 0)
    → filter (λ c. eqb (slice_index code c) 2) (range_with_len 0 (k + d)) ≡ filter (λ c. eqb (slice_index code c) 2) (range_with_len 0 k)
cells_passed code k zero still = let e : k + zero ≡ k = omega arith in ap (λ n. filter (λ c. eqb (slice_index code c) 2) (range_with_len 0 n)) e
cells_passed code k (suc d) still =
    let p = λ (c : ℕ). eqb (slice_index code c) 2 in
    let e : k + suc d ≡ (k + d) + 1 = omega arith in
    let none : p (k + d) ≡ false = no_cell (slice_index code (k + d)) (still d (omega arith)) in
    ap (λ n. filter p (range_with_len 0 n)) e ∙ ap (filter p) (range-more (k + d))
    ∙ filter-append p (range_with_len 0 (k + d)) ((k + d) ∷ [])
    ∙ ap (λ t. filter p (range_with_len 0 (k + d)) ++ cond t ((k + d) ∷ []) []) none ∙ append-nil (filter p (range_with_len 0 (k + d)))
    ∙ cells_passed code k d (λ i below. still i (omega (arith, below)))
  where
    no_cell : (n : ℕ) → n ≡ 0 → eqb n 2 ≡ false
    no_cell n e = grind (arith, nat_tests)

homes_passed : (code : List ℕ) (k d u : ℕ) → ((i : ℕ) → i < d → slice_index code (k + i) ≡ 0)
    → home_among code (range_with_len 0 (k + d)) u ≡ home_among code (range_with_len 0 k) u
homes_passed code k zero u still = let e : k + zero ≡ k = omega arith in ap (λ n. home_among code (range_with_len 0 n) u) e
homes_passed code k (suc d) u still =
    let e : k + suc d ≡ (k + d) + 1 = omega arith in
    let none = no_home (suit (k + d)) u (slice_index code (k + d)) (still d (omega arith)) in
    let rest = homes_passed code k d u (λ i below. still i (omega (arith, below))) in
    ap (λ n. home_among code (range_with_len 0 n) u) e ∙ ap (λ l. home_among code l u) (range-more (k + d))
    ∙ omega (arith, home_more code (range_with_len 0 (k + d)) (k + d) u, none, rest)
  where
    no_home : (s u n : ℕ) → n ≡ 0 → ◌≡◌ {A = ℕ} (cond ((eqb s u) && (eqb n 1)) 1 0) 0
    no_home s u n e = grind (arith, nat_tests)

four_same : (f g : ℕ → ℕ) → ((u : ℕ) → f u ≡ g u) → map f (0 ∷ 1 ∷ 2 ∷ 3 ∷ []) ≡ map g (0 ∷ 1 ∷ 2 ∷ 3 ∷ [])
four_same f g same =
    let zeroth = same 0 in
    let first = same 1 in
    let second = same 2 in
    let third = same 3 in cc

until_passed : (s : Board) (code : List ℕ) (k d c : ℕ) → ((i : ℕ) → i < d → slice_index code (k + i) ≡ 0)
    → seat_until s code (k + d) c ≡ seat_until s code k c
until_passed s code k d c still =
    ⊎_elim
    (λ before. both_before c k d (seat s code c) (beneath s c) before)
    (λ from. ⊎_elim
    (λ inside. let e : k + (c - k) ≡ c = omega (arith, from) in
    let none : slice_index code c ≡ 0 = ap (λ n. slice_index code n) (sym e) ∙ still (c - k) (omega (arith, from, inside)) in
    either c (k + d) k (seat s code c) (beneath s c) (seat_unmoved (beneath s c) c (slice_index code c) none))
    (λ past. both_past c k d (seat s code c) (beneath s c) past)
    (cases_lt c (k + d)))
    (cases_lt c k)
  where
    both_before : (c k d a b : ℕ) → c < k → ◌≡◌ {A = ℕ} (cond (ltb c (k + d)) a b) (cond (ltb c k) a b)
    both_before c k d a b lt = grind (arith, nat_tests)

    both_past : (c k d a b : ℕ) → k + d ≤ c → ◌≡◌ {A = ℕ} (cond (ltb c (k + d)) a b) (cond (ltb c k) a b)
    both_past c k d a b le = grind (arith, nat_tests)

    same_either : (t : Bool) (a b : ℕ) → a ≡ b → ◌≡◌ {A = ℕ} (cond t a b) b
    same_either true a b e = e
    same_either false a b e = refl

    either : (c m k a b : ℕ) → a ≡ b → ◌≡◌ {A = ℕ} (cond (ltb c m) a b) (cond (ltb c k) a b)
    either c m k a b e = same_either (ltb c m) a b e ∙ sym (same_either (ltb c k) a b e)

pub all_passed : (s : Board) (code : List ℕ) (k d : ℕ) (seats : Seats) → ((i : ℕ) → i < d → slice_index code (k + i) ≡ 0)
    → AreSeatsUntil s code k seats → AreSeatsUntil s code (k + d) seats
all_passed s code k d seats still so_far = record {
  count = so_far.count;
  there = so_far.there;
  lies = λ c small before some below. so_far.lies c small (earlier c before some) some below;
  deepest = λ c small. so_far.deepest c small ∙ ap (λ x. cond (eqb x 52) 1 0) (sym (until_passed s code k d c still));
  moved = λ c small. so_far.moved c small ∙ marks c;
  cells = so_far.cells ∙ ap (λ l. with_padding 4 None (map (λ (c : ℕ). Some c) l)) (sym (cells_passed code k d still));
  four = so_far.four;
  held = so_far.held ∙ ap length (sym (cells_passed code k d still));
  homes = so_far.homes
      ∙ sym (four_same (home_among code (range_with_len 0 (k + d))) (home_among code (range_with_len 0 k))
      (λ u. homes_passed code k d u still));
}
  where
    none : (c : ℕ) → k ≤ c → c < k + d → slice_index code c ≡ 0
    none c from below = let e : k + (c - k) ≡ c = omega (arith, from) in ap (λ n. slice_index code n) (sym e) ∙ still (c - k) (omega (arith, from, below))

    earlier : (c : ℕ) → c < k + d → 0 < slice_index code c → c < k
    earlier c below some = ⊎_elim (λ lt. lt) (λ from. absurd (omega (arith, some, none c from below))) (cases_lt c k)

    both : (c m : ℕ) → (c < k) → ◌≡◌ {A = ℕ} (cond ((ltb c k) && (ltb 0 m)) 1 0) (cond ((ltb c (k + d)) && (ltb 0 m)) 1 0)
    both c m lt = grind (arith, nat_tests)

    neither : (c m : ℕ) → k ≤ c → m ≡ 0 → ◌≡◌ {A = ℕ} (cond ((ltb c k) && (ltb 0 m)) 1 0) (cond ((ltb c (k + d)) && (ltb 0 m)) 1 0)
    neither c m le e = grind (arith, nat_tests)

    past_both : (c m : ℕ) → k + d ≤ c → ◌≡◌ {A = ℕ} (cond ((ltb c k) && (ltb 0 m)) 1 0) (cond ((ltb c (k + d)) && (ltb 0 m)) 1 0)
    past_both c m le = grind (arith, nat_tests)

    marks : (c : ℕ) → ◌≡◌ {A = ℕ} (cond ((ltb c k) && (ltb 0 (slice_index code c))) 1 0) (cond ((ltb c (k + d)) && (ltb 0 (slice_index code c))) 1 0)
    marks c =
        ⊎_elim (λ lt. both c (slice_index code c) lt)
        (λ from. ⊎_elim (λ inside. neither c (slice_index code c) from (none c from inside))
        (λ past. past_both c (slice_index code c) past) (cases_lt c (k + d)))
        (cases_lt c k)

module _ (s b : Board) (code : List ℕ) (ps : IsPosition s) (pb : IsPosition b) (coded : IsCodeOf s b code) where
  above_all : (k : ℕ) (seats : Seats) → 52 ≤ k → AreSeatsUntil s code k seats → (x : ℕ) → x < 52 → IsBare s code x
      → card_at seats.above x ≡ lying_on s code x
  above_all k seats all so_far x small bare =
      let y = get_or seats.above x 0 in
      ⊎_elim
      (λ below. let at : seat s code y ≡ x = so_far.there x small below in
      let some : card_at seats.above x ≡ Some y = some_card y below in
      some ∙ sym (lying_one s code x 52 y refl below at
      (λ z inside lies. seats_apart s b code z y ps pb coded inside below (omega (arith, lies, small)) (lies ∙ sym at))))
      (λ past. let none : card_at seats.above x ≡ None = no_card y past in
      none ∙ sym (lying_none s code x 52 refl
      (λ z inside lies. ⊎_elim
      (λ moved. let found : get_or seats.above (seat s code z) 0 ≡ z =
      so_far.lies z inside (omega (arith, all, inside)) moved (omega (arith, lies, small)) in
      let same : z ≡ y = sym found ∙ ap (λ w. get_or seats.above w 0) lies in
      omega (arith, same, past, inside))
      (λ le. let still : slice_index code z ≡ 0 = omega (arith, le) in
      bare z inside still (sym (seat_unmoved (beneath s z) z (slice_index code z) still) ∙ lies))
      (cases_lt 0 (slice_index code z)))))
      (cases_lt y 52)
    where
      some_card : (y : ℕ) → y < 52 → cond (ltb y 52) (Some y) None ≡ Some y
      some_card y below = grind (arith, nat_tests)

      no_card : (y : ℕ) → 52 ≤ y → cond (ltb y 52) (Some y) None ≡ None
      no_card y past = grind (arith, nat_tests)

  pub seats_told : (k : ℕ) (seats : Seats) → 52 ≤ k → AreSeatsUntil s code k seats → AreSeatsOf s code seats
  unfolding all_cards
  seats_told k seats all so_far =
      let e : 52 + (k - 52) ≡ k = omega (arith, all) in
      let still : (i : ℕ) → i < k - 52 → slice_index code (52 + i) ≡ 0 = λ i below.
      get_or_past code (52 + i) 0 (omega (arith, coded.count)) in
      let bits : (c : ℕ) → c < 52 → bit_at seats.deepest c ≡ cond (eqb (seat s code c) 52) 1 0 = λ c small.
      so_far.deepest c small ∙ ap (λ x. cond (eqb x 52) 1 0) (until_end c k (seat s code c) (beneath s c) (omega (arith, all, small))) in
      record {
        stacks = record {
          over = record { count = so_far.count; above = above_all k seats all so_far; there = so_far.there };
          deepest = cards_tested seats.deepest (λ c. eqb (seat s code c) 52) bits;
          on_table = λ c small set_. on_table (seat s code c) (sym (bits c small) ∙ set_);
          moved = λ c small. so_far.moved c small ∙ marked c (slice_index code c) (omega (arith, all, small));
        };
        cells = so_far.cells
            ∙ ap (λ l. with_padding 4 None (map (λ (c : ℕ). Some c) l))
            (ap (λ n. filter (λ c. eqb (slice_index code c) 2) (range_with_len 0 n)) (sym e) ∙ cells_passed code 52 (k - 52) still);
        homes = so_far.homes ∙ ap (λ n. map (home_among code (range_with_len 0 n)) (0 ∷ 1 ∷ 2 ∷ 3 ∷ [])) (sym e)
            ∙ four_same (home_among code (range_with_len 0 (52 + (k - 52)))) (home_among code (range_with_len 0 52))
            (λ u. homes_passed code 52 (k - 52) u still);
      }
    where
      on_table : (x : ℕ) → ◌≡◌ {A = ℕ} (cond (eqb x 52) 1 0) 1 → x ≡ 52
      on_table x e = ⊎_elim (λ same. same) (λ other. let none : ◌≡◌ {A = ℕ} (cond (eqb x 52) 1 0) 0 = grind (arith, nat_tests) in absurd (omega (arith, e, none))) (cases_eq x 52)

      marked : (c m : ℕ) → c < k → ◌≡◌ {A = ℕ} (cond ((ltb c k) && (ltb 0 m)) 1 0) (cond (ltb 0 m) 1 0)
      marked c m lt = grind (arith, nat_tests)
