-- A card that a first visit doesn't want is idle.
use Rattle.std.proofs.Common.{◌≡◌, ℕ, ◌+◌, ◌*◌, ◌%◌, ◌^◌, ◌<◌, Bool, true, false, cond, bit_or, max, Some, None, List, [], refl, sym, ◌∙◌, ap, subst, arith}
use Rattle.std.specs.Prelude.{◌↔◌, slice_index}
use Rattle.std.specs.Int.{bit_at}
use Rattle.std.proofs.lemmas.List.{get_or-set_same}
use Rattle.std.proofs.lemmas.Nat.Bits.{bit_at_or}
use Rattle.fc_cards.specs.Card.{rank, suit}
use Rattle.fc_cards.specs.declared.places.Place.{Place}
use Rattle.fc_cards.specs.declared.places.Place.TheVariants.{Column, Cell, Home}
use Rattle.fc_cards.proofs.EachRank.{by_suit}
use Rattle.fc_position.specs.Board.{Board, IsNext, cell, column, front_of, last_of, board_without, playable}
use Rattle.fc_position.proofs.BoardLemmas.{cell_there, column_there}
use Rattle.fc_bound.specs.Bound.{is_held_back}
use Rattle.fc_bound.specs.Rows.{AreBits, LiesOnOne}
use Rattle.fc_bound.proofs.TiedLemmas.{only_bit, or_either, or_first, or_second, own_bit}
use Rattle.fc_space.specs.inner.Idle.{IsIdle, IsNextIn}

-- a bit that isn't set where others were added wasn't before
unset_before : (n m u : ℕ) → bit_at (bit_or n m) u ≡ 0 → bit_at n u ≡ 0
unset_before n m u none =
    let both : bit_at (bit_or n m) u ≡ max (bit_at n u) (bit_at m u) = bit_at_or n m u in omega (arith, both, none)

unset_after : (n m u : ℕ) → bit_at (bit_or n m) u ≡ 0 → bit_at m u ≡ 0
unset_after n m u none =
    let both : bit_at (bit_or n m) u ≡ max (bit_at n u) (bit_at m u) = bit_at_or n m u in omega (arith, both, none)

-- a test whose bit isn't set fails
unheld : (t : Bool) → ◌≡◌ {A = ℕ} (cond t 1 0) 0 → t ≡ false
unheld true none = absurd (omega (arith, none))
unheld false none = refl

-- the bit of the card of a suit that is next
pub next_bit : (homes : List ℕ) (s n : ℕ) → n ≡ 4 * slice_index homes s + s → s < 4 → n < 64
    → (c : ℕ) → (bit_at (1 * 2 ^ n % 2 ^ 64) c ≡ 1) ↔ IsNextIn homes s c
next_bit homes s n is few small c = (
  λ set.
      let same = only_bit n c small set in
      let own : suit c ≡ s = omega (arith, same, is, few) in
      let next : slice_index homes s + 1 ≡ rank c = omega (arith, same, is, few) in
      (subst (λ t. slice_index homes t + 1 ≡ rank c) (sym own) next, own),
  λ (next, own).
      let there : slice_index homes s + 1 ≡ rank c = subst (λ t. slice_index homes t + 1 ≡ rank c) own next in
      let same : n ≡ c = omega (arith, there, own, is) in
      subst (λ k. bit_at (1 * 2 ^ n % 2 ^ 64) k ≡ 1) same (own_bit n small),
)

-- the bits of the next cards of all suits
pub next_bits : (homes : List ℕ) (p q r t : ℕ) → ((c : ℕ) → (bit_at p c ≡ 1) ↔ IsNextIn homes 0 c)
    → ((c : ℕ) → (bit_at q c ≡ 1) ↔ IsNextIn homes 1 c) → ((c : ℕ) → (bit_at r c ≡ 1) ↔ IsNextIn homes 2 c)
    → ((c : ℕ) → (bit_at t c ≡ 1) ↔ IsNextIn homes 3 c)
    → (c : ℕ) → (bit_at (bit_or (bit_or (bit_or p q) r) t) c ≡ 1) ↔ IsNext homes c
next_bits homes p q r t clubs diamonds hearts spades c =
    let pq = bit_or p q in
    let pqr = bit_or pq r in (
      λ set.
          or_either (IsNext homes c) pqr t c set
          (λ low. or_either (IsNext homes c) pq r c low
          (λ black. or_either (IsNext homes c) p q c black (λ b. ((clubs c).0 b).0) (λ b. ((diamonds c).0 b).0))
          (λ b. ((hearts c).0 b).0))
          (λ b. ((spades c).0 b).0),
      λ next.
          by_suit (λ s. suit c ≡ s → bit_at (bit_or pqr t) c ≡ 1)
          (λ e. or_first pqr t c (or_first pq r c (or_first p q c ((clubs c).1 (next, e)))))
          (λ e. or_first pqr t c (or_first pq r c (or_second p q c ((diamonds c).1 (next, e)))))
          (λ e. or_first pqr t c (or_second pq r c ((hearts c).1 (next, e))))
          (λ e. or_second pqr t c ((spades c).1 (next, e)))
          (suit c) (omega arith) refl,
    )

-- a playable card with one of these beneath it is a column's last one that lies on it
lies_on : (b : Board) (from : Place) (cards u c : ℕ) → playable b from ≡ Some u → playable (board_without b from) from ≡ Some c
    → bit_at cards c ≡ 1 → LiesOnOne b.columns cards u
lies_on b (Column i) cards u c last under set = record {
  number = i;
  last = last;
  host = c;
  on = sym (ap last_of (get_or-set_same b.columns i (front_of (column b i)) [] (column_there b i u last))) ∙ under;
  set = set;
}
lies_on b (Cell i) cards u c full under set =
    let none : cell (board_without b (Cell i)) i ≡ None = get_or-set_same b.cells i None None (cell_there b i u full) in
    absurd (cc (under, none))
lies_on b Home cards u c there under set = absurd (cc there)

-- a playable card is idle that isn't noted, held back, next or on one that is next
pub idle_but : (b : Board) (note held next covers : ℕ) (from : Place) (u : ℕ) → AreBits held (is_held_back b)
    → ((c : ℕ) → (bit_at next c ≡ 1) ↔ IsNext b.homes c) → ((bit_at covers u ≡ 1) ↔ LiesOnOne b.columns next u)
    → playable b from ≡ Some u → bit_at (bit_or (bit_or (bit_or note held) next) covers) u ≡ 0 → IsIdle b note from u
idle_but b note held next covers from u are nexts covered card none =
    let others = unset_before (bit_or (bit_or note held) next) covers u none in
    let both = unset_before (bit_or note held) next u others in record {
      next = λ is.
          let set = (nexts u).1 is in
          let unset = unset_after (bit_or note held) next u others in
          absurd (omega (arith, set, unset));
      held = unheld (is_held_back b u) (sym (are u) ∙ unset_after note held u both);
      noted = unset_before note held u both;
      beneath = λ c under is.
          let set = covered.1 (lies_on b from next u c card under ((nexts c).1 is)) in
          let unset = unset_after (bit_or (bit_or note held) next) covers u none in
          absurd (omega (arith, set, unset));
    }
