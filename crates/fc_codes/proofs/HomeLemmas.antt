-- How many cards are home by a code.
use Rattle.std.proofs.Common.{◌≡◌, ℕ, zero, suc, ◌+◌, ◌<◌, ◌≤◌, Bool, true, List, [], ◌∷◌, map, get_or, cond, eqb, leb, refl, sym, ◌∙◌, ap, ⊎_elim, arith}
use Rattle.std.specs.Prelude.{count_by, ◌&&◌, slice_index}
use Rattle.std.specs.List.{range_with_len}
use Rattle.std.proofs.lemmas.List.Sums.{sum_by-cons}
use Rattle.std.proofs.lemmas.Bool.{agree_below, agree_below_at, cases_eq, cases_lt}
use Rattle.std.proofs.lemmas.Bool.Decides.{nat_tests}
use Rattle.fc_cards.specs.Card.{rank, suit, all_cards}
use Rattle.fc_position.specs.Board.{Board, IsHome}
use Rattle.fc_position.specs.Position.{IsPosition}
use Rattle.fc_position.proofs.BoardLemmas.{home_most}
use Rattle.fc_canonical.proofs.OrderLemmas.{four_of}
use Rattle.fc_codes.specs.State.{IsCodeOf}
use Rattle.fc_codes.specs.Spelled.{home_cards}
use Rattle.fc_codes.proofs.StateLemmas.{home_state, state_home}

-- tests that agree count the same
count_same : (p q : ℕ → Bool) (n a : ℕ) → ((x : ℕ) → a ≤ x → x < a + n → p x ≡ q x)
    → count_by p (range_with_len a n) ≡ count_by q (range_with_len a n)
count_same p q zero a same = refl
count_same p q (suc n) a same =
    let here = ap {B = ℕ} (λ t. cond t 1 0) (same a (omega arith) (omega arith)) in
    let rest = count_same p q n (a + 1) (λ x low high. same x (omega arith) (omega arith)) in
    omega (
      arith,
      sum_by-cons (λ x. cond (p x) 1 0) a (range_with_len (a + 1) n),
      sum_by-cons (λ x. cond (q x) 1 0) a (range_with_len (a + 1) n),
      here,
      rest,
    )

-- of each suit there are as many cards up to a rank as the rank says
abbrev low_cards : ℕ → ℕ → ℕ
low_cards u h = count_by (λ x. (eqb (suit x) u) && (leb (rank x) h)) (range_with_len 0 52)

low_in_suit : (u : ℕ) → agree_below (λ h. eqb (low_cards u h) h) (λ h. true) 14 ≡ true → (h : ℕ) → h < 14 → low_cards u h ≡ h
low_in_suit u all h below =
    let same = agree_below_at (λ k. eqb (low_cards u k) k) (λ k. true) 14 h all below in grind (arith, nat_tests)

low_is : (u h : ℕ) → u < 4 → h < 14 → low_cards u h ≡ h
low_is zero h suit_ below = low_in_suit 0 refl h below
low_is (suc zero) h suit_ below = low_in_suit 1 refl h below
low_is (suc (suc zero)) h suit_ below = low_in_suit 2 refl h below
low_is (suc (suc (suc zero))) h suit_ below = low_in_suit 3 refl h below
low_is (suc (suc (suc (suc u)))) h suit_ below = absurd (omega arith)

-- a position's code counts its cards that are home
home_counted : (s b : Board) (code : List ℕ) (u : ℕ) → IsPosition b → IsCodeOf s b code → u < 4
    → home_cards code u ≡ slice_index b.homes u
unfolding home_cards all_cards
home_counted s b code u p k below =
    let most = home_most b p u in
    count_same (λ x. (eqb (suit x) u) && (eqb (slice_index code x) 1)) (λ x. (eqb (suit x) u) && (leb (rank x) (slice_index b.homes u)))
    52 0
    (λ x low high. ⊎_elim
    (λ same. let at : slice_index b.homes (suit x) ≡ slice_index b.homes u = ap (slice_index b.homes) same in
    ⊎_elim
    (λ home. let h : IsHome b.homes x = state_home s b x (slice_index code x) (k.states x high) home in
    let le : rank x ≤ slice_index b.homes u = omega (arith, h, at) in grind (arith, nat_tests))
    (λ other. let gt : slice_index b.homes u < rank x =
    ⊎_elim (λ lt. lt)
    (λ le. absurd (other (home_state s b x (slice_index code x) p (omega (arith, le, at)) (k.states x high))))
    (cases_lt (slice_index b.homes u) (rank x)) in
    grind (arith, nat_tests))
    (cases_eq (slice_index code x) 1))
    (λ other. grind (arith, nat_tests))
    (cases_eq (suit x) u))
    ∙ low_is u (slice_index b.homes u) below (omega (arith, most))

pub homes_counted : (s b : Board) (code : List ℕ) → IsPosition b → IsCodeOf s b code
    → b.homes ≡ map (home_cards code) (0 ∷ 1 ∷ 2 ∷ 3 ∷ [])
homes_counted s b code p k =
    let at = λ (u : ℕ) (below : u < 4). sym (home_counted s b code u p k below) in
    let one = at 0 (omega arith) in
    let two = at 1 (omega arith) in
    let three = at 2 (omega arith) in
    let four = at 3 (omega arith) in
    sym (four_of b.homes p.homes)
    ∙ ap (λ x. x ∷ get_or b.homes 1 0 ∷ get_or b.homes 2 0 ∷ get_or b.homes 3 0 ∷ []) one
    ∙ ap (λ x. home_cards code 0 ∷ x ∷ get_or b.homes 2 0 ∷ get_or b.homes 3 0 ∷ []) two
    ∙ ap (λ x. home_cards code 0 ∷ home_cards code 1 ∷ x ∷ get_or b.homes 3 0 ∷ []) three
    ∙ ap (λ x. home_cards code 0 ∷ home_cards code 1 ∷ home_cards code 2 ∷ x ∷ []) four
