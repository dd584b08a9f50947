-- Going over a word of a code: the next card that has moved.
use Rattle.std.proofs.Common.{◌≡◌, ℕ, ◌+◌, ◌-◌, ◌*◌, ◌/◌, ◌^◌, ◌<◌, ◌≤◌, bit_and, List, length, get_or, sym, ◌∙◌, ap, subst, ⊎_elim, arith}
use Rattle.std.specs.Prelude.{slice_index}
use Rattle.std.proofs.lemmas.List.{get_or_past}
use Rattle.std.proofs.lemmas.Bool.{cases_lt}
use Rattle.fc_position.specs.Board.{Board}
use Rattle.fc_codes.specs.Words.{digit}
use Rattle.fc_codes.specs.declared.seats.Seats.{Seats}
use Rattle.fc_codes.specs.inner.Seats.{AreSeatsUntil}
use Rattle.fc_codes.proofs.WordLemmas.{digit_masked}
use Rattle.fc_codes.proofs.DigitLemmas.{digit_inside, digit_after, rest_small}
use Rattle.fc_codes.proofs.PassedLemmas.{all_passed}

-- the card comes next, those before it have moved, and this is its state
pub record Turn (s : Board) (code : List ℕ) (card n : ℕ) (seats : Seats) : Type 0 where
  pub below : card < 52
  pub state : n ≡ slice_index code card
  pub moved : 0 < n
  pub so_far : AreSeatsUntil s code card seats

module _ (code : List ℕ) (end next rest p : ℕ) (small : rest < 2 ^ (3 * (end - next)))
    (states : (i : ℕ) → next + i < end → digit rest i ≡ get_or code (next + i) 0) where
  pub next_inside : (digit rest p ≡ 0 → ⊥) → p < end - next
  next_inside moved = digit_inside rest (end - next) p small moved

  pub turn : (s : Board) (card n : ℕ) (seats : Seats) → length code ≡ 52 → next ≤ end → AreSeatsUntil s code next seats
      → ((i : ℕ) → i < p → digit rest i ≡ 0) → (digit rest p ≡ 0 → ⊥) → card ≡ next + p
      → n ≡ bit_and (rest / 2 ^ (3 * p)) 7 → Turn s code card n seats
  turn s card n seats long most so_far unmoved moved at is =
      let inside = next_inside moved in
      let told : digit rest p ≡ slice_index code card = states p (omega (arith, inside)) ∙ ap (λ k. slice_index code k) (sym at) in
      let state : n ≡ slice_index code card = is ∙ digit_masked rest p ∙ told in
      let some : slice_index code card ≡ 0 → ⊥ = λ none. moved (told ∙ none) in
      record {
        below = ⊎_elim (λ lt. lt) (λ past. absurd (some (get_or_past code card 0 (omega (arith, long, past))))) (cases_lt card 52);
        state = state;
        moved = positive n (λ none. some (sym state ∙ none));
        so_far = subst (λ k. AreSeatsUntil s code k seats) (sym at)
            (all_passed s code next p seats (λ i below. sym (states i (omega (arith, inside, below))) ∙ unmoved i below) so_far);
      }
    where
      positive : (n : ℕ) → (n ≡ 0 → ⊥) → 0 < n
      positive n some = ⊎_elim (λ lt. lt) (λ le. absurd (some (omega (arith, le)))) (cases_lt 0 n)

  pub rest_after : (digit rest p ≡ 0 → ⊥) → rest / 2 ^ (3 * p) / 8 < 2 ^ (3 * (end - (next + (p + 1))))
  rest_after moved =
      let inside = next_inside moved in
      rest_small rest (end - next) p (end - (next + (p + 1))) small (omega (arith, inside))

  pub states_after : (i : ℕ) → next + (p + 1) + i < end
      → digit (rest / 2 ^ (3 * p) / 8) i ≡ get_or code (next + (p + 1) + i) 0
  states_after i below =
      let e : next + (p + 1 + i) ≡ next + (p + 1) + i = omega arith in
      digit_after rest p i ∙ states (p + 1 + i) (omega (arith, below)) ∙ ap (λ k. get_or code k 0) e
