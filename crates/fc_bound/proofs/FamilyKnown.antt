-- What is shown of where a move leads, where that is plain to see.
use Rattle.std.proofs.Common.{◌≡◌, ◌⊎◌, ℕ, ◌-◌, bit_and, Bool, true, false, Some, get_or, sym, ◌∙◌, ap, inl, inr, subst, true≢false, arith}
use mir.Val.{bool_byte}
use Rattle.std.specs.Prelude.{min}
use Rattle.std.specs.Int.{bit_at}
use Rattle.std.proofs.lemmas.Nat.Bits.{bit_at_and, bit_at_mask_inside}
use Rattle.fc_cards.specs.declared.places.Place.{Place}
use Rattle.fc_cards.specs.declared.places.Place.TheVariants.{Column, Cell, Home}
use Rattle.fc_position.specs.Board.{Board, playable, board_without}
use Rattle.fc_position.specs.Position.{IsPosition}
use Rattle.fc_bound.specs.declared.kinds.BoundKind.{BoundKind}
use Rattle.fc_bound.specs.declared.kinds.BoundKind.TheVariants.{Plain, Clearing}
use Rattle.fc_bound.specs.Bound.{is_held_back}
use Rattle.fc_bound.specs.Kinds.{IsShown}
use Rattle.fc_bound.proofs.FamilyLemmas.{same_rings}
use Rattle.fc_bound.proofs.FamilyRows.{ring_stands, stands_below}
use Rattle.fc_bound.proofs.FamilyMoved.{lift_free, lift_held, shown_cell}
use Rattle.fc_bound.proofs.MovedLemmas.{held-cell}

-- once a card is lifted that is held back, or that isn't noted, what is shown is plain to see
pub lift_known : (kind : BoundKind) (b : Board) (from : Place) (u number note kept : ℕ) (held noted : Bool) → IsPosition b → playable b from ≡ Some u
    → held ≡ is_held_back b u → (noted ≡ false → kind ≡ Clearing → bit_at note u ≡ 0) → ((noted ≡ true) × (held ≡ true)) ⊎ (noted ≡ false)
    → kept ≡ number - bool_byte held → IsShown kind b number note → IsShown kind (board_without b from) kept note
lift_known kind b (Column i) u number note kept true noted p there tells out either is shown =
    subst (λ n. IsShown kind (board_without b (Column i)) n note) (sym is) (lift_held kind b i u number note p there (sym tells) shown)
lift_known kind b (Column i) u number note kept false noted p there tells out (inl both) is shown = absurd (true≢false (sym both.1))
lift_known kind b (Column i) u number note kept false noted p there tells out (inr none) is shown =
    subst (λ n. IsShown kind (board_without b (Column i)) n note) (omega (arith, is))
    (lift_free kind b i u number note p there (sym tells) (out none) shown)
lift_known kind b (Cell i) u number note kept held noted p there tells out either is shown =
    let none : ◌≡◌ {A = ℕ} (bool_byte held) 0 = ap bool_byte (tells ∙ held-cell b i u p there) in
    subst (λ n. IsShown kind (board_without b (Cell i)) n note) (omega (arith, is, none)) (shown_cell kind b i number note shown)
lift_known kind b Home u number note kept held noted p there tells out either is shown = absurd (cc there)

-- of a note the bits of cards alone count
pub of_cards : (kind : BoundKind) (b : Board) (number note : ℕ) → IsPosition b → IsShown kind b number note
    → IsShown kind b number (bit_and note 4503599627370495)
of_cards Plain b number note p shown = shown
of_cards Clearing b number note p (rings, family, is) = (
  rings,
  same_rings b.columns b.columns note (bit_and note 4503599627370495) rings family
      (λ k d inside.
      let ring = get_or rings k d in
      let are = family.are k d inside in (
        are,
        λ c here.
            let below = stands_below b c p (ring_stands b.columns ring c are here) in
            let mask : bit_at 4503599627370495 c ≡ 1 = bit_at_mask_inside 0 52 c (omega arith) below in
            bit_at_and note 4503599627370495 c ∙ ap (λ n. min n (bit_at 4503599627370495 c)) (family.among k d inside c here) ∙ ap (min 1) mask,
        family.free k d inside,
      )),
  is,
)
