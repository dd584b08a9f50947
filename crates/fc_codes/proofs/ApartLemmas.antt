-- No two cards lie on one by the code of a position.
use Rattle.std.proofs.Common.{◌≡◌, ℕ, ◌+◌, ◌*◌, ◌/◌, ◌<◌, ◌≤◌, ◌⊎◌, List, [], ◌∷◌, ◌++◌, length, take, get_or, cond, eqb, inl, inr, sym, ◌∙◌, ap, subst, ⊎_elim, arith}
use Rattle.std.specs.Prelude.{fold}
use Rattle.std.specs.Int.{bit_at}
use Rattle.std.proofs.lemmas.List.{take_all}
use Rattle.std.proofs.lemmas.Bool.Decides.{nat_tests}
use Rattle.fc_cards.specs.Card.{suit}
use Rattle.fc_position.specs.Board.{Board}
use Rattle.fc_position.specs.Position.{IsPosition}
use Rattle.fc_codes.specs.State.{StandsOn, IsStateOf, unmoved, at_home, in_cell, deepest, in_order, IsCodeOf}
use Rattle.fc_codes.specs.Spelled.{under, beneath, seat_of, seat}
use Rattle.fc_codes.specs.inner.Beneath.{AreHeadsOf, IsTableOf}
use Rattle.fc_codes.proofs.StandLemmas.{stands_once, standing_below}
use Rattle.fc_codes.proofs.BeneathLemmas.{last_or}
use Rattle.fc_codes.proofs.SeatLemmas.{next_card, seat_above, seat_found, seat_card, stands_beneath}

on_one : (b : Board) (c d x : ℕ) (w v : List ℕ) → IsPosition b → StandsOn b w c → StandsOn b v d → last_or 52 w ≡ x
    → last_or 52 v ≡ x → x < 52 → c ≡ d
on_one b c d x w v whole p q e f below =
    let one = seat_card b w c x whole p e below in
    let two = seat_card b v d x whole q f below in
    let pc : StandsOn b (one.0 ++ x ∷ []) c = subst (λ u. StandsOn b u c) one.1 p in
    let qd : StandsOn b (two.0 ++ x ∷ []) d = subst (λ u. StandsOn b u d) two.1 q in
    let same = (stands_once b x one.0 two.0 whole (stands_beneath b one.0 x c pc) (stands_beneath b two.0 x d qd)).2 in cc

pub seats_apart : (s b : Board) (code : List ℕ) (c d : ℕ) → IsPosition s → IsPosition b → IsCodeOf s b code → c < 52 → d < 52
    → seat s code c < 52 → seat s code c ≡ seat s code d → c ≡ d
seats_apart s b code c d ps pb k below small lies same =
    let one = seat_found s b code c ps pb k below (omega (arith, lies)) in
    let two = seat_found s b code d ps pb k small (omega (arith, lies, same)) in
    on_one b c d (seat s code c) one.0 two.0 pb one.1 two.1 (sym one.2) (sym two.2 ∙ sym same) lies

-- what a card that has moved lies on: nothing, the table, or the card that its state tells
pub record LiesOnCard (start c n : ℕ) : Type 0 where
  pub state : 3 < n
  pub at : seat_of start c n ≡ c / 4 * 4 + n
  pub below : c / 4 * 4 + n < 52

abbrev pub Moved : ℕ → ℕ → ℕ → Type 0
Moved start c n =
    ((n < 3) × (seat_of start c n ≡ 53)) ⊎ (((n ≡ 3) × (seat_of start c n ≡ 52)) ⊎ LiesOnCard start c n)

on_nothing : (start c n : ℕ) → 0 < n → n < 3 → seat_of start c n ≡ 53
on_nothing start c n some few = grind (arith, nat_tests)

on_table : (start c n : ℕ) → n ≡ 3 → seat_of start c n ≡ 52
on_table start c n e = grind (arith, nat_tests)

pub moved_lies : (s b : Board) (c n : ℕ) → IsPosition b → IsStateOf s b c n → 0 < n → Moved (beneath s c) c n
moved_lies s b c n pb (unmoved e u) some = absurd (omega (arith, e, some))
moved_lies s b c n pb (at_home e h) some = inl (omega (arith, e), on_nothing (beneath s c) c n some (omega (arith, e)))
moved_lies s b c n pb (in_cell e q) some = inl (omega (arith, e), on_nothing (beneath s c) c n some (omega (arith, e)))
moved_lies s b c n pb (deepest e q fresh) some = inr (inl (e, on_table (beneath s c) c n e))
moved_lies s b c n pb (in_order l e q fresh) some =
    let there = next_card c l q.higher in
    let small = standing_below b q.below l pb (stands_beneath b q.below l c q.here) in
    inr (inr (record {
      state = omega (arith, e);
      at = ap (seat_of (beneath s c) c) e ∙ seat_above (beneath s c) c (suit l) ∙ ap (λ m. c / 4 * 4 + m) (sym e);
      below = omega (arith, e, there, small);
    }))

-- such a card is one
pub card_below : (s b : Board) (c n : ℕ) → IsPosition b → IsStateOf s b c n → 4 ≤ n → c / 4 * 4 + n < 52
card_below s b c n pb state many =
    ⊎_elim (λ m. absurd (omega (arith, many, m.0)))
    (λ more. ⊎_elim (λ m. absurd (omega (arith, many, m.0))) (λ (m : LiesOnCard (beneath s c) c n). m.below) more)
    (moved_lies s b c n pb state (omega (arith, many)))

-- the tables of a position tell what they are to
pub told_at_start : (s : Board) (table heads : List ℕ) (bits : ℕ) → IsPosition s → length table ≡ 52
    → ((c : ℕ) → c < 52 → get_or table c 0 ≡ beneath s c) → AreHeadsOf s heads
    → ((c : ℕ) → c < 52 → bit_at bits c ≡ cond (eqb (get_or table c 0) 52) 1 0) → IsTableOf s table heads bits
told_at_start s table heads bits whole count each over bits_are = record {
  whole = whole;
  count = count;
  each = each;
  over = over;
  deepest = λ c small. bits_are c small ∙ ap (λ x. cond (eqb x 52) 1 0) (each c small);
}

-- a table that tells what the cards lie on in all columns
pub table_whole : (s : Board) (table : List ℕ) (i : ℕ) → IsPosition s → 8 ≤ i
    → ((c : ℕ) → c < 52 → get_or table c 0 ≡ fold (λ other cards. under 52 other cards c) 53 (take i s.columns))
    → (c : ℕ) → c < 52 → get_or table c 0 ≡ beneath s c
table_whole s table i whole all told c below =
    told c below
    ∙ ap (λ (l : List (List ℕ)). fold (λ other cards. under 52 other cards c) 53 l) (take_all i s.columns (omega (arith, whole.columns)))
