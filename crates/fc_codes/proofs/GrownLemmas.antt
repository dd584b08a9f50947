-- A column of a position is what grows from its deepest card by the position's code.
use Rattle.std.proofs.Common.{◌≡◌, ◌≢◌, ℕ, zero, suc, ◌+◌, ◌<◌, ◌≤◌, Bool, true, false, Option, Some, None, List, [], ◌∷◌, ◌++◌, length, cond, eqb, refl, sym, ◌∙◌, ap, subst, ⊎_elim, arith}
use Rattle.std.specs.Prelude.{fold}
use Rattle.std.specs.List.{range_with_len}
use Rattle.std.proofs.lemmas.List.{append_assoc}
use Rattle.std.proofs.lemmas.Bool.{cases_eq}
use Rattle.std.proofs.lemmas.Bool.Decides.{nat_tests}
use Rattle.fc_cards.specs.Card.{all_cards}
use Rattle.fc_position.specs.Board.{Board, column}
use Rattle.fc_position.specs.Position.{IsPosition}
use Rattle.fc_codes.specs.State.{StandsOn, IsCodeOf}
use Rattle.fc_codes.specs.Spelled.{seat, lying_on, chain_from}
use Rattle.fc_codes.proofs.StandLemmas.{stands_once, standing_below}
use Rattle.fc_codes.proofs.BeneathLemmas.{last_or-push}
use Rattle.fc_codes.proofs.SeatLemmas.{seat-stands, seat_found, stands_beneath, seat_card}

-- the last of the numbers from a on that passes
abbrev pub last_passing : (ℕ → Bool) → Option ℕ → List ℕ → Option ℕ
last_passing test found cards = fold (λ o c. cond (test c) (Some c) o) found cards

none_passing : (test : ℕ → Bool) (o : Option ℕ) (n a : ℕ) → ((z : ℕ) → a ≤ z → z < a + n → test z ≡ false)
    → last_passing test o (range_with_len a n) ≡ o
none_passing test o zero a fails = refl
none_passing test o (suc n) a fails =
    let here : cond (test a) (Some a) o ≡ o = ap (λ t. cond t (Some a) o) (fails a (omega arith) (omega arith)) in
    ap (λ p. last_passing test p (range_with_len (a + 1) n)) here
    ∙ none_passing test o n (a + 1) (λ z past below. fails z (omega arith) (omega arith))

one_passing : (test : ℕ → Bool) (o : Option ℕ) (n a y : ℕ) → a ≤ y → y < a + n → test y ≡ true
    → ((z : ℕ) → a ≤ z → z < a + n → z ≢ y → test z ≡ false) → last_passing test o (range_with_len a n) ≡ Some y
one_passing test o zero a y past below passes fails = absurd (omega arith)
one_passing test o (suc n) a y past below passes fails =
    ⊎_elim
    (λ same. let here : cond (test a) (Some a) o ≡ Some y =
    ap (λ t. cond t (Some a) o) (ap test same ∙ passes) ∙ ap (λ k. Some k) same in
    ap (λ p. last_passing test p (range_with_len (a + 1) n)) here
    ∙ none_passing test (Some y) n (a + 1) (λ z low high. fails z (omega arith) (omega arith) (omega (arith, same, low))))
    (λ other. one_passing test (cond (test a) (Some a) o) n (a + 1) y (omega (arith, other, past)) (omega arith) passes
    (λ z low high. fails z (omega arith) (omega arith)))
    (cases_eq a y)

abbrev lies : Board → List ℕ → ℕ → ℕ → Bool
lies s code x c = eqb (seat s code c) x

pub lying_none : (s : Board) (code : List ℕ) (x n : ℕ) → n ≡ 52 → ((z : ℕ) → z < 52 → seat s code z ≢ x) → lying_on s code x ≡ None
unfolding lying_on all_cards
lying_none s code x n e fails =
    ap (λ m. last_passing (lies s code x) None (range_with_len 0 m)) (sym e)
    ∙ none_passing (lies s code x) None n 0 (λ z low high. let ne = fails z (omega (arith, e, high)) in grind (arith, nat_tests))

pub lying_one : (s : Board) (code : List ℕ) (x n y : ℕ) → n ≡ 52 → y < 52 → seat s code y ≡ x
    → ((z : ℕ) → z < 52 → seat s code z ≡ x → z ≡ y) → lying_on s code x ≡ Some y
unfolding lying_on all_cards
lying_one s code x n y e below at only =
    ap (λ m. last_passing (lies s code x) None (range_with_len 0 m)) (sym e)
    ∙ one_passing (lies s code x) None n 0 y (omega arith) (omega (arith, e, below)) (grind (arith, nat_tests))
    (λ z low high other. let ne : seat s code z ≢ x = λ same. other (only z (omega (arith, e, high)) same) in
    grind (arith, nat_tests))

pub grown_none : (next : ℕ → Option ℕ) (count : ℕ) → chain_from next count None ≡ []
unfolding chain_from
grown_none next zero = refl
grown_none next (suc count) = refl

module _ (s b : Board) (code : List ℕ) (ps : IsPosition s) (pb : IsPosition b) (k : IsCodeOf s b code) where
  -- where x stands with these cards above it, the first of them lies on x, and no other card
  on_first : (j x z : ℕ) (below above : List ℕ) → column b j ≡ below ++ x ∷ above → z < 52 → seat s code z ≡ x
      → (ys : List ℕ) × (above ≡ z ∷ ys)
  on_first j x z below above at small lies_on =
      let p : StandsOn b below x = record { number = j; above = above; cards = at } in
      let card = standing_below b below x pb p in
      let found = seat_found s b code z ps pb k small (omega (arith, lies_on, card)) in
      let on = seat_card b found.0 z x pb found.1 (sym found.2 ∙ lies_on) card in
      let q : StandsOn b (on.0 ++ x ∷ []) z = subst (λ v. StandsOn b v z) on.1 found.1 in
      let r = stands_beneath b on.0 x z q in
      (q.above, (stands_once b x below on.0 pb p r).2)

  pub grows_to : (above below : List ℕ) (j x count : ℕ) → column b j ≡ below ++ x ∷ above → length above < count
      → chain_from (lying_on s code) count (Some x) ≡ x ∷ above
  unfolding chain_from
  grows_to above below j x zero at few = absurd (omega arith)
  grows_to [] below j x (suc count) at few =
      let none : lying_on s code x ≡ None =
      lying_none s code x 52 refl (λ z small lies_on. let first = on_first j x z below [] at small lies_on in
      let e = first.1 in cc) in
      ap (λ o. x ∷ chain_from (lying_on s code) count o) none ∙ ap (λ l. x ∷ l) (grown_none (lying_on s code) count)
  grows_to (y ∷ ys) below j x (suc count) at few =
      let next : column b j ≡ (below ++ x ∷ []) ++ y ∷ ys = at ∙ sym (append_assoc below (x ∷ []) (y ∷ ys)) in
      let q : StandsOn b (below ++ x ∷ []) y = record { number = j; above = ys; cards = next } in
      let there = seat-stands s b code y (below ++ x ∷ []) ps pb k q ∙ last_or-push 52 below x in
      let one : lying_on s code x ≡ Some y =
      lying_one s code x 52 y refl (standing_below b (below ++ x ∷ []) y pb q) there
      (λ z small lies_on. let first = on_first j x z below (y ∷ ys) at small lies_on in let e = first.1 in cc) in
      ap (λ o. x ∷ chain_from (lying_on s code) count o) one
      ∙ ap (λ l. x ∷ l) (grows_to ys (below ++ x ∷ []) j y count next (omega arith))
