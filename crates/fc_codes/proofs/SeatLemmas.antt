-- What a card of a position lies on by the position's code is what it stands on.
use Rattle.std.proofs.Common.{◌≡◌, ℕ, ◌+◌, ◌*◌, ◌/◌, ◌<◌, ◌≤◌, ◌⊎◌, List, [], ◌∷◌, ◌++◌, length, sym, ◌∙◌, ap, subst, ⊎_elim, arith}
use Rattle.std.specs.Prelude.{slice_index}
use Rattle.std.proofs.lemmas.List.{length-append, append_assoc}
use Rattle.std.proofs.lemmas.Bool.Decides.{nat_tests}
use Rattle.fc_cards.specs.Card.{rank, suit}
use Rattle.fc_position.specs.Board.{Board, IsHome}
use Rattle.fc_position.specs.Position.{IsPosition}
use Rattle.fc_codes.specs.State.{StandsOn, IsInCell, IsStateOf, unmoved, at_home, in_cell, deepest, in_order, IsCodeOf}
use Rattle.fc_codes.specs.Spelled.{beneath, seat_of, seat}
use Rattle.fc_codes.proofs.StandLemmas.{stands_once, where_is, not_in_cell, not_home, standing_below}
use Rattle.fc_codes.proofs.BeneathLemmas.{last_or, last_or-push, ends, beneath-stands}

-- by a card's rank and another's suit it is told which card one rank higher is meant
pub next_card : (c l : ℕ) → rank c + 1 ≡ rank l → c / 4 * 4 + (4 + suit l) ≡ l
next_card c l higher = omega (arith, higher)

pub seat_above : (start c k : ℕ) → seat_of start c (4 + k) ≡ c / 4 * 4 + (4 + k)
seat_above start c k = grind (arith, nat_tests)

no_push : (w : List ℕ) (l : ℕ) → [] ≡ w ++ l ∷ [] → ⊥
no_push w l e = let long = ap length e in omega (arith, long, length-append w (l ∷ []))

-- a card in a column lies by its state on the last card on which it stands
state_stands : (s b : Board) (c n : ℕ) (w : List ℕ) → IsPosition s → IsPosition b → IsStateOf s b c n → StandsOn b w c
    → seat_of (beneath s c) c n ≡ last_or 52 w
state_stands s b c n w ps pb (unmoved e u) p =
    ap (seat_of (beneath s c) c) e ∙ beneath-stands s u.below c ps u.before
    ∙ ap (last_or 52) (stands_once b c u.below w pb u.here p).1
state_stands s b c n w ps pb (at_home e h) p = absurd (not_home b w c pb p h)
state_stands s b c n w ps pb (in_cell e q) p = absurd (not_in_cell b w c pb p q)
state_stands s b c n w ps pb (deepest e q fresh) p =
    ap (seat_of (beneath s c) c) e ∙ ap (last_or 52) (stands_once b c [] w pb q p).1
state_stands s b c n w ps pb (in_order l e q fresh) p =
    ap (seat_of (beneath s c) c) e ∙ seat_above (beneath s c) c (suit l) ∙ next_card c l q.higher
    ∙ sym (last_or-push 52 q.below l) ∙ ap (last_or 52) (stands_once b c (q.below ++ l ∷ []) w pb q.here p).1

-- one in a cell or at home on nothing
state_else : (s b : Board) (c n : ℕ) → IsPosition b → IsStateOf s b c n → IsInCell b c ⊎ IsHome b.homes c
    → (seat_of (beneath s c) c n ≡ 53)
state_else s b c n pb (unmoved e u) p =
    absurd (⊎_elim (not_in_cell b u.below c pb u.here) (not_home b u.below c pb u.here) p)
state_else s b c n pb (at_home e h) p = ap (seat_of (beneath s c) c) e
state_else s b c n pb (in_cell e q) p = ap (seat_of (beneath s c) c) e
state_else s b c n pb (deepest e q fresh) p = absurd (⊎_elim (not_in_cell b [] c pb q) (not_home b [] c pb q) p)
state_else s b c n pb (in_order l e q fresh) p =
    absurd (⊎_elim (not_in_cell b (q.below ++ l ∷ []) c pb q.here) (not_home b (q.below ++ l ∷ []) c pb q.here) p)

pub seat-stands : (s b : Board) (code : List ℕ) (c : ℕ) (w : List ℕ) → IsPosition s → IsPosition b → IsCodeOf s b code
    → StandsOn b w c → seat s code c ≡ last_or 52 w
seat-stands s b code c w ps pb k p =
    state_stands s b c (slice_index code c) w ps pb (k.states c (standing_below b w c pb p)) p

-- a card that lies on a card or on the table stands there
pub seat_found : (s b : Board) (code : List ℕ) (c : ℕ) → IsPosition s → IsPosition b → IsCodeOf s b code → c < 52
    → seat s code c ≤ 52 → (w : List ℕ) × StandsOn b w c × (seat s code c ≡ last_or 52 w)
seat_found s b code c ps pb k below lies =
    ⊎_elim
    (λ stands. (stands.0, stands.1, seat-stands s b code c stands.0 ps pb k stands.1))
    (λ else_. absurd (omega (arith, lies, state_else s b c (slice_index code c) pb (k.states c below) else_)))
    (where_is b c pb below)

-- the card beneath a standing one stands too
abbrev pub stands_beneath : (b : Board) (w : List ℕ) (l c : ℕ) (p : StandsOn b (w ++ l ∷ []) c) → StandsOn b w l
stands_beneath b w l c p = record {
  number = p.number;
  above = c ∷ p.above;
  cards = p.cards ∙ append_assoc w (l ∷ []) (c ∷ p.above);
}

-- what a card lies on tells whether it stands on a card, and on which
pub seat_card : (b : Board) (w : List ℕ) (c x : ℕ) → IsPosition b → StandsOn b w c → last_or 52 w ≡ x → x < 52
    → (v : List ℕ) × (w ≡ v ++ x ∷ [])
seat_card b w c x whole p e below =
    ⊎_elim
    (λ none. let table = ap (last_or 52) none in absurd (omega (arith, e, below, table)))
    (λ some. let last = ap (last_or 52) some.2 ∙ last_or-push 52 some.0 some.1 in
    (some.0, some.2 ∙ ap (λ y. some.0 ++ y ∷ []) (sym last ∙ e)))
    (ends w)

pub seat_table : (b : Board) (w : List ℕ) (c : ℕ) → IsPosition b → StandsOn b w c → last_or 52 w ≡ 52 → w ≡ []
seat_table b w c whole p e =
    ⊎_elim (λ none. none)
    (λ some. let last = ap (last_or 52) some.2 ∙ last_or-push 52 some.0 some.1 in
    let there : StandsOn b (some.0 ++ some.1 ∷ []) c = subst (λ v. StandsOn b v c) some.2 p in
    let small = standing_below b some.0 some.1 whole (stands_beneath b some.0 some.1 c there) in
    absurd (omega (arith, last, e, small)))
    (ends w)
