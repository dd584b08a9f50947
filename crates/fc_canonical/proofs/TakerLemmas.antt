-- Columns as bits: those whose last card has a rank, and those that may take a card.
use Rattle.std.proofs.Common.{◌≡◌, ℕ, ◌+◌, ◌-◌, ◌*◌, ◌/◌, ◌%◌, ◌^◌, ◌<◌, ◌≤◌, max, bit_and, bit_or, Option, Some, None, IfSome, IfNone, List, length, get_or, set, sym, ◌∙◌, ap, subst, ⊎_elim, w8, arith}
use Rattle.std.specs.Int.{bit_at, trailing_zeros}
use Rattle.std.proofs.lemmas.Bool.{cases_eq, cases_lt}
use Rattle.std.proofs.lemmas.List.{get_or-set_same, get_or-set_other}
use Rattle.std.proofs.lemmas.Nat.Bits.{bit_at_or, bit_at-lt, bit_at_above, bit_at_ones, bit_at_set_same, bit_at-trailing_zeros, shr_and_one}
use Rattle.std.proofs.lemmas.Nat.{shr-shr, shr_le}
use Rattle.fc_cards.specs.declared.places.Place.{Place}
use Rattle.fc_position.specs.Board.{Board, playable}
use Rattle.fc_moves.specs.GameRules.{GameRules, IsGame, IsPair, Stands}
use Rattle.fc_canonical.specs.inner.Distinct.{HaveHosts, HaveTakers, IsOpening}

-- a bit that is set stays so where others are set
pub bit_kept : (n m i : ℕ) → bit_at n i ≡ 1 → bit_at (bit_or n m) i ≡ 1
bit_kept n m i is =
    let both : bit_at (bit_or n m) i ≡ max (bit_at n i) (bit_at m i) = bit_at_or n m i in
    let other : bit_at m i < 2 = bit_at-lt m i in
    let most : max (bit_at n i) (bit_at m i) ≡ 1 = rw is (omega (arith, other)) in
    both ∙ most

-- a column is noted at a rank, and those that were noted stay so
pub noted : (lasts : List ℕ) (r j : ℕ) → r < length lasts → j < 8
    → bit_at (get_or (set lasts r (bit_or (get_or lasts r 0) (1 * 2 ^ j % 2 ^ 8))) r 0) j ≡ 1
noted lasts r j there below =
    ap (λ n. bit_at n j) (get_or-set_same lasts r (bit_or (get_or lasts r 0) (1 * 2 ^ j % 2 ^ 8)) 0 there)
    ∙ bit_at_set_same w8 (get_or lasts r 0) j below

pub noted_kept : (lasts : List ℕ) (r m : ℕ) → r < length lasts → (q i : ℕ) → bit_at (get_or lasts q 0) i ≡ 1
    → bit_at (get_or (set lasts r (bit_or (get_or lasts r 0) m)) q 0) i ≡ 1
noted_kept lasts r m there q i is =
    let new = bit_or (get_or lasts r 0) m in
    ⊎_elim
    (λ same. ap (λ k. bit_at (get_or (set lasts r new) k 0) i) same
    ∙ ap (λ n. bit_at n i) (get_or-set_same lasts r new 0 there)
    ∙ bit_kept (get_or lasts r 0) m i (ap (λ k. bit_at (get_or lasts k 0) i) (sym same) ∙ is))
    (λ other. ap (λ n. bit_at n i) (get_or-set_other lasts r q new 0 other) ∙ is)
    (cases_eq q r)

-- where a card opens no column, its hosts have all columns to which it is listed; else all columns have them
pub have_takers : (g : GameRules) (b : Board) (from : Place) (u hosts takers : ℕ) (opening : Option ℕ) → IsGame g
    → playable b from ≡ Some u → IsOpening g b from opening → HaveHosts b u hosts → IfSome opening (λ _. takers ≡ 255)
    → IfNone opening (takers ≡ hosts) → HaveTakers g b from takers
have_takers g b from u hosts takers None game there told have all same j inside ok =
    ap (λ n. bit_at n j) same
    ∙ ⊎_elim
    (λ (empty, _). let some = (told j empty).1 ok in absurd (cc some))
    (λ (l, last, stands).
    let card : ok.allowed.1.card ≡ u = let e = ok.allowed.1.playable in cc in
    let (k, below, e) = subst (λ c. Stands g c l) card stands in
    have j l inside last (subst IsPair e (game.pairs k (u, l) below)).2)
    ok.allowed.1.takes.1
have_takers g b from u hosts takers (Some i) game there told have all same j inside ok =
    ap (λ n. bit_at n j) all ∙ bit_at_ones 8 j inside

-- the columns from j on that may take a card, as bits that were shifted
pub record AreTakersFrom (takers j rest : ℕ) : Type 0 where
  pub most : j ≤ 8
  pub bits : (i : ℕ) → bit_at rest i ≡ bit_at takers (j + i)

shifted : (n p i : ℕ) → bit_at (n / 2 ^ p / 2) i ≡ bit_at n (p + 1 + i)
shifted n p i =
    let e : p + (1 + i) ≡ p + 1 + i = omega arith in
    sym (shr_and_one (n / 2 ^ p / 2) i) ∙ ap (λ m. bit_and m 1) (shr-shr (n / 2 ^ p) 1 i ∙ shr-shr n p (1 + i) ∙ ap (λ k. n / 2 ^ k) e)
    ∙ shr_and_one n (p + 1 + i)

-- the next of them is where the bits end with a one
pub record NextTaker (takers j rest p : ℕ) : Type 0 where
  pub inside : j + p < 8
  pub passed : (i : ℕ) → j ≤ i → i < j + p → bit_at takers i ≡ 0
  pub after : AreTakersFrom takers (j + p + 1) (rest / 2 ^ p / 2)
  pub fewer : rest / 2 ^ p / 2 < rest

pub next_taker : (takers j rest p : ℕ) → takers < 2 ^ 8 → rest < 2 ^ 8 → 0 < rest → p ≡ trailing_zeros w8 rest
    → AreTakersFrom takers j rest → NextTaker takers j rest p
next_taker takers j rest p small fits some is from =
    let at = bit_at-trailing_zeros w8 rest some fits in
    let one : bit_at takers (j + p) ≡ 1 = sym (from.bits p) ∙ ap (bit_at rest) is ∙ at.1 in
    let inside : j + p < 8 =
    ⊎_elim (λ lt. lt) (λ past. let none = bit_at_above takers 8 (j + p) small past in absurd (omega (arith, one, none)))
    (cases_lt (j + p) 8) in
    record {
      inside = inside;
      passed = λ i low high.
          let e : j + (i - j) ≡ i = omega (arith, low) in
          ap (bit_at takers) (sym e) ∙ sym (from.bits (i - j)) ∙ at.2 (i - j) (omega (arith, low, high, is));
      after = record {
        most = omega (arith, inside);
        bits = λ i. let e : j + (p + 1 + i) ≡ j + p + 1 + i = omega arith in
            shifted rest p i ∙ from.bits (p + 1 + i) ∙ ap (bit_at takers) e;
      };
      fewer = let less = shr_le rest p in omega (arith, less, some);
    }
