-- What rings show of a position, as the table of its columns tells it.
use Rattle.std.proofs.Common.{◌≡◌, ◌≢◌, ℕ, ◌+◌, ◌-◌, ◌^◌, ◌<◌, ◌≤◌, max, bit_and, bit_or, w64, Bool, true, false, cond, List, [], ◌∷◌, Contains, length, get_or, refl, sym, ◌∙◌, ap, subst, ⊎_elim, arith}
use Rattle.std.specs.Prelude.{◌==◌, count_by, count_ones}
use Rattle.std.specs.Int.{bit_at, bit_not}
use Rattle.std.specs.List.{list_any}
use Rattle.std.proofs.lemmas.Bool.{cases_eq, cases_lt}
use Rattle.std.proofs.lemmas.List.Folds.{list_any_at}
use Rattle.std.proofs.lemmas.Nat.Bits.{bit_at_above}
use Rattle.fc_cards.specs.Card.{all_cards}
use Rattle.fc_position.specs.Board.{Board}
use Rattle.fc_position.specs.Position.{IsPosition}
use Rattle.fc_bound.specs.declared.kinds.BoundKind.{BoundKind}
use Rattle.fc_bound.specs.declared.kinds.BoundKind.TheVariants.{Plain, Clearing}
use Rattle.fc_bound.specs.declared.waiting_rows.ColumnTable.{ColumnTable}
use Rattle.fc_bound.specs.Bound.{bound, is_above_lower, is_away, is_held_back, stands_in}
use Rattle.fc_bound.specs.Kinds.{IsShown}
use Rattle.fc_bound.specs.Rings.{IsAmong, IsFamily}
use Rattle.fc_bound.specs.Rows.{IsTableOf, stands_among}
use Rattle.fc_bound.specs.inner.Tied.{AreTiedBy, AreTiedIn, IsWithin}
use Rattle.fc_bound.proofs.AboveLemmas.{above-one, not_true}
use Rattle.fc_bound.proofs.BitLemmas.{is_one, no_bits, some_bit}
use Rattle.fc_bound.proofs.CountLemmas.{count-most, count-same}
use Rattle.fc_bound.proofs.FamilyLemmas.{fewer, no_rings, one_more, rings_few, same_rings, without_card}
use Rattle.fc_bound.proofs.FamilyRows.{cards_of, in_cards, ring_stands, ring_ties, stands_below, tied_ring}
use Rattle.fc_bound.proofs.HeldLemmas.{bound_small, found}
use Rattle.fc_bound.proofs.OnesLemmas.{ones_are}
use Rattle.fc_bound.proofs.TiedLemmas.{bits_small, in_both, in_not, none_set}

-- what the marks of a table tell
pub all_stands : (columns : List (List ℕ)) (t : ColumnTable) (c : ℕ) → IsTableOf columns t → bit_at t.marks.all c ≡ 1 → stands_among columns c ≡ true
all_stands columns t c table set = is_one (stands_among columns c) (sym (table.all c) ∙ set)

pub all_small : (b : Board) (t : ColumnTable) → IsPosition b → IsTableOf b.columns t → t.marks.all < 2 ^ 52
all_small b t p table = bits_small t.marks.all (λ c set. stands_below b c p (all_stands b.columns t c table set))

pub held_small : (b : Board) (t : ColumnTable) → IsPosition b → IsTableOf b.columns t → t.marks.held < 2 ^ 52
held_small b t p table =
    bits_small t.marks.held (λ c set.
    let f = found (is_above_lower c) b.columns (is_one (list_any (is_above_lower c) b.columns) (sym (table.held c) ∙ set)) in
    stands_below b c p (list_any_at (λ x. stands_in x c) b.columns f.place [] f.inside (above-one c (get_or b.columns f.place []) f.passes).stands))

pub held_none : (columns : List (List ℕ)) (t : ColumnTable) (c : ℕ) → IsTableOf columns t → bit_at t.marks.held c ≡ 0
    → list_any (is_above_lower c) columns ≡ false
held_none columns t c table none =
    not_true (list_any (is_above_lower c) columns) (λ held. omega (arith, none, table.held c ∙ ap (λ s. cond s 1 0) held))

-- the cards that are held back, counted as bits
pub held_ones : (b : Board) (t : ColumnTable) → IsPosition b → IsTableOf b.columns t
    → count_ones t.marks.held ≡ count_by (is_held_back b) all_cards
unfolding all_cards
held_ones b t p table =
    ones_are 52 t.marks.held (held_small b t p table)
    ∙ count-same (λ c. bit_at t.marks.held c == 1) (is_held_back b)
    (λ c below. ap (λ (n : ℕ). n == 1) (table.held c) ∙ bit (is_held_back b c))
  where
    bit : (t : Bool) → (cond t 1 0 == 1) ≡ t
    bit true = refl
    bit false = refl

-- where none of these is among all others, all of these are among those
pub none_outside : (ring able c : ℕ) → ring < 2 ^ 64 → able < 2 ^ 64 → bit_and ring (bit_not w64 able) ≡ 0 → bit_at ring c ≡ 1 → bit_at able c ≡ 1
none_outside ring able c fits small none set =
    ⊎_elim (λ one. one)
    (λ ne. absurd (no_bits (bit_and ring (bit_not w64 able)) c none
    (in_both ring (bit_not w64 able) c set (in_not able c small (below c set) (none_set able c ne)))))
    (cases_eq (bit_at able c) 1)
  where
    below : (c : ℕ) → bit_at ring c ≡ 1 → c < 64
    below c set = ⊎_elim (λ lt. lt) (λ past. absurd (omega (arith, bit_at_above ring 64 c fits past, set))) (cases_lt c 64)

-- no number is shown without a ring but the plain bound, and none that is less
pub shown_plain : (b : Board) (number note : ℕ) → number ≡ bound b → IsShown Clearing b number note
shown_plain b number note is = ([], no_rings b.columns note, omega (arith, is))

pub shown_least : (kind : BoundKind) (b : Board) (number note : ℕ) → IsShown kind b number note → bound b ≤ number
shown_least Plain b number note shown = omega (arith, shown)
shown_least Clearing b number note (rings, family, is) = omega (arith, is)

-- what is shown is small
pub shown_small : (kind : BoundKind) (b : Board) (number note : ℕ) → ((c : ℕ) → stands_among b.columns c ≡ true → c < 52)
    → IsShown kind b number note → number ≤ 104
unfolding bound
shown_small Plain b number note below shown = omega (arith, shown, bound_small b)
shown_small Clearing b number note below (rings, family, is) =
    let few = rings_few rings (is_held_back b)
    (λ k d inside. record {
      some_card = (family.are k d inside).some_card;
      below = λ c here. below c (ring_stands b.columns (get_or rings k d) c (family.are k d inside) here);
      fails = λ c here. family.free k d inside c here;
    }) family.apart in
    omega (arith, is, few, count-most (is_away b))

-- one ring more shows one more
pub record IsNewRing (b : Board) (t : ColumnTable) (note ring : ℕ) : Type 0 where
  pub some : 0 < ring
  pub fits : ring < 2 ^ 64
  pub stand : IsWithin ring t.marks.all
  pub free : (c : ℕ) → bit_at ring c ≡ 1 → bit_at t.marks.held c ≡ 0
  pub apart : (c : ℕ) → bit_at ring c ≡ 1 → bit_at note c ≡ 0
  pub tied : AreTiedIn t.rows ring

pub shown_more : (b : Board) (t : ColumnTable) (number note ring : ℕ) → IsPosition b → IsTableOf b.columns t → IsNewRing b t note ring
    → IsShown Clearing b number note → IsShown Clearing b (number + 1) (bit_or note ring)
shown_more b t number note ring p table new (rings, family, is) =
    let some = some_bit ring new.some new.fits in (
      cards_of ring 52 ∷ rings,
      one_more b.columns note ring (cards_of ring 52) rings family
          (tied_ring b t ring some.place p table some.set (λ c set. all_stands b.columns t c table (new.stand c set)) new.tied)
          (λ c here. in_cards ring 52 c here)
          (λ c here. held_none b.columns t c table (new.free c (in_cards ring 52 c here)))
          new.apart,
      omega (arith, is),
    )

-- without a card of the note at most one ring less is shown, by what holds the others
pub shown_less : (b : Board) (t : ColumnTable) (number note card others left : ℕ) → IsPosition b → IsTableOf b.columns t
    → IsShown Clearing b number note → ((c : ℕ) → bit_at note c ≡ 1 → c ≢ card → bit_at t.marks.all c ≡ 1 → bit_at others c ≡ 1)
    → ((ring : List ℕ) → AreTiedBy t.rows ring → IsAmong others ring → IsAmong left ring)
    → IsShown Clearing b (max (number - 1) (bound b)) left
shown_less b t number note card others left p table (rings, family, is) keeps rings_left =
    let w = without_card b.columns note card rings family in
    let same : IsFamily b.columns left w.rest = same_rings b.columns b.columns note left w.rest w.family
    (λ k d inside.
    let ring : List ℕ = get_or w.rest k d in
    let one = w.family.are k d inside in (
      one,
      rings_left ring (ring_ties b t ring p table one) (λ c here. keeps c (w.family.among k d inside c here)
          (λ e. w.outside k d inside (subst (Contains ring) e here))
          (table.all c ∙ ap (λ s. cond s 1 0) (ring_stands b.columns ring c one here))),
      w.family.free k d inside,
    )) in
    let less = fewer b.columns left (length rings - 1) w.rest same (omega (arith, w.fewer)) in
    (less.rings, less.family, omega (arith, is, less.many))
