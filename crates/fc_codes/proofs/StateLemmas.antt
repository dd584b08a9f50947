-- The state of a card is one, and stays where what it says stays.
use Rattle.std.proofs.Common.{◌≡◌, ◌≢◌, ℕ, ◌+◌, ◌<◌, List, [], ◌∷◌, ◌++◌, length, set, sym, ◌∙◌, ap, subst, ⊎_elim, arith}
use Rattle.std.specs.Prelude.{slice_index}
use Rattle.std.proofs.lemmas.List.{length-append, ext_get_or, get_or-set_same, get_or-set_other, length-set}
use Rattle.std.proofs.lemmas.Bool.{cases_eq}
use Rattle.fc_cards.specs.Card.{suit}
use Rattle.fc_position.specs.Board.{Board, IsHome}
use Rattle.fc_position.specs.Position.{IsPosition}
use Rattle.fc_codes.specs.State.{StandsOn, IsInCell, IsUnmoved, StandsInOrder, IsStateOf, unmoved, at_home, in_cell, deepest, in_order, IsCodeOf}
use Rattle.fc_codes.specs.Laws.{CodesAreOne}
use Rattle.fc_codes.proofs.StandLemmas.{stands_once, not_in_cell, not_home, not_both}
use Rattle.fc_codes.proofs.BeneathLemmas.{last_or, last_or-push}

-- what tells the state
pub unmoved_state : (s b : Board) (c n : ℕ) → IsPosition b → IsUnmoved s b c → IsStateOf s b c n → n ≡ 0
unmoved_state s b c n p u (unmoved e v) = e
unmoved_state s b c n p u (at_home e h) = absurd (not_home b u.below c p u.here h)
unmoved_state s b c n p u (in_cell e q) = absurd (not_in_cell b u.below c p u.here q)
unmoved_state s b c n p u (deepest e q fresh) = absurd (fresh u)
unmoved_state s b c n p u (in_order l e q fresh) = absurd (fresh u)

pub home_state : (s b : Board) (c n : ℕ) → IsPosition b → IsHome b.homes c → IsStateOf s b c n → n ≡ 1
home_state s b c n p h (unmoved e u) = absurd (not_home b u.below c p u.here h)
home_state s b c n p h (at_home e g) = e
home_state s b c n p h (in_cell e q) = absurd (not_both b c p q h)
home_state s b c n p h (deepest e q fresh) = absurd (not_home b [] c p q h)
home_state s b c n p h (in_order l e q fresh) = absurd (not_home b (q.below ++ l ∷ []) c p q.here h)

pub cell_state : (s b : Board) (c n : ℕ) → IsPosition b → IsInCell b c → IsStateOf s b c n → n ≡ 2
cell_state s b c n p q (unmoved e u) = absurd (not_in_cell b u.below c p u.here q)
cell_state s b c n p q (at_home e h) = absurd (not_both b c p q h)
cell_state s b c n p q (in_cell e r) = e
cell_state s b c n p q (deepest e r fresh) = absurd (not_in_cell b [] c p r q)
cell_state s b c n p q (in_order l e r fresh) = absurd (not_in_cell b (r.below ++ l ∷ []) c p r.here q)

pub no_push : (w : List ℕ) (l : ℕ) → [] ≡ w ++ l ∷ [] → ⊥
no_push w l e = let long = ap length e in omega (arith, long, length-append w (l ∷ []))

deepest_state : (s b : Board) (c n : ℕ) → IsPosition b → StandsOn b [] c → (IsUnmoved s b c → ⊥) → IsStateOf s b c n → n ≡ 3
deepest_state s b c n p q fresh (unmoved e u) = absurd (fresh u)
deepest_state s b c n p q fresh (at_home e h) = absurd (not_home b [] c p q h)
deepest_state s b c n p q fresh (in_cell e r) = absurd (not_in_cell b [] c p q r)
deepest_state s b c n p q fresh (deepest e r other) = e
deepest_state s b c n p q fresh (in_order l e r other) =
    absurd (no_push r.below l (stands_once b c [] (r.below ++ l ∷ []) p q r.here).1)

order_state : (s b : Board) (c l n : ℕ) → IsPosition b → StandsInOrder b c l → (IsUnmoved s b c → ⊥) → IsStateOf s b c n
    → n ≡ 4 + suit l
order_state s b c l n p q fresh (unmoved e u) = absurd (fresh u)
order_state s b c l n p q fresh (at_home e h) = absurd (not_home b (q.below ++ l ∷ []) c p q.here h)
order_state s b c l n p q fresh (in_cell e r) = absurd (not_in_cell b (q.below ++ l ∷ []) c p q.here r)
order_state s b c l n p q fresh (deepest e r other) =
    absurd (no_push q.below l (stands_once b c [] (q.below ++ l ∷ []) p r q.here).1)
order_state s b c l n p q fresh (in_order k e r other) =
    let lists = (stands_once b c (r.below ++ k ∷ []) (q.below ++ l ∷ []) p r.here q.here).1 in
    let same : k ≡ l = sym (last_or-push 52 r.below k) ∙ ap (last_or 52) lists ∙ last_or-push 52 q.below l in
    e ∙ ap (λ x. 4 + suit x) same

-- so a card has one state
pub state_once : (s b : Board) (c m n : ℕ) → IsPosition b → IsStateOf s b c m → IsStateOf s b c n → m ≡ n
state_once s b c m n p (unmoved e u) x = e ∙ sym (unmoved_state s b c n p u x)
state_once s b c m n p (at_home e h) x = e ∙ sym (home_state s b c n p h x)
state_once s b c m n p (in_cell e q) x = e ∙ sym (cell_state s b c n p q x)
state_once s b c m n p (deepest e q fresh) x = e ∙ sym (deepest_state s b c n p q fresh x)
state_once s b c m n p (in_order l e q fresh) x = e ∙ sym (order_state s b c l n p q fresh x)

-- and a position one code
pub code_once : CodesAreOne
code_once s b k l p x y =
    ext_get_or 0 k l (x.count ∙ sym y.count)
    (λ c below. let card : c < 52 = omega (arith, x.count, below) in
    state_once s b c (slice_index k c) (slice_index l c) p (x.states c card) (y.states c card))

-- what the state says
pub state_unmoved : (s b : Board) (c n : ℕ) → IsStateOf s b c n → n ≡ 0 → IsUnmoved s b c
state_unmoved s b c n (unmoved e u) z = u
state_unmoved s b c n (at_home e h) z = absurd (omega (arith, e, z))
state_unmoved s b c n (in_cell e q) z = absurd (omega (arith, e, z))
state_unmoved s b c n (deepest e q fresh) z = absurd (omega (arith, e, z))
state_unmoved s b c n (in_order l e q fresh) z = absurd (omega (arith, e, z))

pub state_home : (s b : Board) (c n : ℕ) → IsStateOf s b c n → n ≡ 1 → IsHome b.homes c
state_home s b c n (unmoved e u) z = absurd (omega (arith, e, z))
state_home s b c n (at_home e h) z = h
state_home s b c n (in_cell e q) z = absurd (omega (arith, e, z))
state_home s b c n (deepest e q fresh) z = absurd (omega (arith, e, z))
state_home s b c n (in_order l e q fresh) z = absurd (omega (arith, e, z))

pub state_cell : (s b : Board) (c n : ℕ) → IsStateOf s b c n → n ≡ 2 → IsInCell b c
state_cell s b c n (unmoved e u) z = absurd (omega (arith, e, z))
state_cell s b c n (at_home e h) z = absurd (omega (arith, e, z))
state_cell s b c n (in_cell e q) z = q
state_cell s b c n (deepest e q fresh) z = absurd (omega (arith, e, z))
state_cell s b c n (in_order l e q fresh) z = absurd (omega (arith, e, z))

-- the card is on both boards in the same place
pub record Keeps (b c : Board) (x : ℕ) : Type 0 where
  pub stands : (w : List ℕ) → StandsOn b w x → StandsOn c w x
  pub back : (w : List ℕ) → StandsOn c w x → StandsOn b w x
  pub cells : IsInCell b x → IsInCell c x
  pub homes : IsHome b.homes x → IsHome c.homes x

unmoved_back : (s b c : Board) (x : ℕ) → Keeps b c x → IsUnmoved s c x → IsUnmoved s b x
unmoved_back s b c x k u = record { below = u.below; here = k.back u.below u.here; before = u.before }

-- then it has the same state
pub state_kept : (s b c : Board) (x n : ℕ) → Keeps b c x → IsStateOf s b x n → IsStateOf s c x n
state_kept s b c x n k (unmoved e u) =
    unmoved e (record { below = u.below; here = k.stands u.below u.here; before = u.before })
state_kept s b c x n k (at_home e h) = at_home e (k.homes h)
state_kept s b c x n k (in_cell e q) = in_cell e (k.cells q)
state_kept s b c x n k (deepest e q fresh) = deepest e (k.stands [] q) (λ u. fresh (unmoved_back s b c x k u))
state_kept s b c x n k (in_order l e q fresh) =
    in_order l e (record { below = q.below; here = k.stands (q.below ++ l ∷ []) q.here; higher = q.higher })
    (λ u. fresh (unmoved_back s b c x k u))

-- where one card gets another state and the others are in the same places, the code changes at that card
pub code_changed : (s b c : Board) (code : List ℕ) (u n : ℕ) → ((x : ℕ) → x ≢ u → Keeps b c x) → IsCodeOf s b code
    → IsStateOf s c u n → IsCodeOf s c (set code u n)
code_changed s b c code u n keeps k state = record {
  count = length-set code u n ∙ k.count;
  states = λ x below. ⊎_elim
      (λ same. let here : slice_index (set code u n) x ≡ n =
      ap (slice_index (set code u n)) same ∙ get_or-set_same code u n 0 (omega (arith, k.count, same, below)) in
      subst (IsStateOf s c x) (sym here) (subst (λ y. IsStateOf s c y n) (sym same) state))
      (λ other. subst (IsStateOf s c x) (sym (get_or-set_other code u x n 0 other))
      (state_kept s b c x (slice_index code x) (keeps x other) (k.states x below)))
      (cases_eq x u);
}
