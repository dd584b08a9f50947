use Rattle.std.proofs.Common.{◌≡◌, ◌-◌, ℕ, List, max, cond, bit_and, subst, sym, arith}
use Rattle.std.specs.Prelude.{◌==◌}
use Rattle.std.specs.Int.{bit_at}
use Rattle.std.proofs.lemmas.Nat.{and_le_r}
use Rattle.fc_position.specs.Board.{Board}
use Rattle.fc_position.specs.Position.{IsPosition}
use Rattle.fc_bound.specs.declared.kinds.BoundKind.TheVariants.{Clearing}
use Rattle.fc_bound.specs.declared.waiting_rows.ColumnTable.{ColumnTable}
use Rattle.fc_bound.specs.Bound.{bound}
use Rattle.fc_bound.specs.Kinds.{IsShown}
use Rattle.fc_bound.specs.Rings.{IsAmong}
use Rattle.fc_bound.specs.Rows.{IsTableOf}
use Rattle.fc_bound.specs.inner.Tied.{AreTiedBy, IsWithin}
use Rattle.fc_bound.proofs.BitLemmas.{gone}
use Rattle.fc_bound.proofs.FamilyShown.{all_small, shown_less}
use Rattle.fc_bound.proofs.ShedLemmas.{kept}
use Rattle.fc_bound.proofs.TiedLemmas.{in_both, in_first, none_set}
use Rattle.fc_bound.proofs.rings.without_ring.Goals as goal

abbrev Removes : ℕ → ℕ → ℕ → Type 0
Removes note less card = (d : ℕ) → bit_at less d ≡ cond (d == card) 0 (bit_at note d)

-- what is left shows one ring less at most
left_shows : (b : Board) (t : ColumnTable) (number note card less left now : ℕ) → IsPosition b → IsTableOf b.columns t
    → IsShown Clearing b number note → Removes note less card
    → ((ring : List ℕ) → AreTiedBy t.rows ring → IsAmong (bit_and less t.marks.all) ring → IsAmong left ring)
    → now ≡ max (number - 1) (bound b) → IsShown Clearing b now left
left_shows b t number note card less left now p table shown removes rings_left is =
    subst (λ n. IsShown Clearing b n left) (sym is)
    (shown_less b t number note card (bit_and less t.marks.all) left p table shown
    (λ d set ne stands. in_both less t.marks.all d (kept note less card d removes ne set) stands) rings_left)

-- the card isn't among the others
others_lack : (note card less all : ℕ) → Removes note less card → bit_at (bit_and less all) card ≡ 0
others_lack note card less all removes =
    none_set (bit_and less all) card (λ one. omega (arith, in_first less all card one, gone note less card removes))

left_lacks : (note card less all left : ℕ) → Removes note less card → IsWithin left (bit_and less all) → bit_at left card ≡ 0
left_lacks note card less all left removes within =
    none_set left card (λ one. omega (arith, within card one, others_lack note card less all removes))

pub pruned-note-requires : goal.pruned-note-requires
pruned-note-requires c =
    let t = c.args.table.now in
    record { below = omega (arith, and_le_r c.remove.result t.marks.all, all_small c.args.position.now t c.plain-plain.ensures.whole c.requires.table) }

pub counted_among-among-requires-clause-cards : goal.counted_among-among-requires-clause-cards
counted_among-among-requires-clause-cards c =
    let t = c.args.table.now in
    omega (arith, and_le_r c.remove.result t.marks.all, all_small c.args.position.now t c.plain-plain.ensures.whole c.requires.table)

pub returns-then-note-others-clause-shown : goal.returns-then-note-others-clause-shown
returns-then-note-others-clause-shown c =
    left_shows c.args.position.now c.args.table.now c.args.shown.number c.args.shown.note c.args.card c.remove.result c.pruned-note.result c.max-number.result
    c.plain-plain.ensures.whole c.requires.table c.requires.shown c.remove.ensures.value c.pruned-note.ensures.rings
    (omega (arith, c.max-number.ensures, c.saturating_sub.ensures, c.plain-plain.ensures.number))

pub returns-then-note-others-clause-apart : goal.returns-then-note-others-clause-apart
returns-then-note-others-clause-apart c =
    left_lacks c.args.shown.note c.args.card c.remove.result c.args.table.now.marks.all c.pruned-note.result c.remove.ensures.value c.pruned-note.ensures.within

pub returns-then-among-number-clause-shown : goal.returns-then-among-number-clause-shown
returns-then-among-number-clause-shown c =
    left_shows c.args.position.now c.args.table.now c.args.shown.number c.args.shown.note c.args.card c.remove.result c.pruned-note.result c.max-number.result
    c.plain-plain.ensures.whole c.requires.table c.requires.shown c.remove.ensures.value c.pruned-note.ensures.rings
    (omega (arith, c.max-number.ensures, c.saturating_sub.ensures, c.plain-plain.ensures.number))

pub returns-then-among-number-clause-apart : goal.returns-then-among-number-clause-apart
returns-then-among-number-clause-apart c =
    left_lacks c.args.shown.note c.args.card c.remove.result c.args.table.now.marks.all c.pruned-note.result c.remove.ensures.value c.pruned-note.ensures.within

pub returns-else-among-number-clause-apart : goal.returns-else-among-number-clause-apart
returns-else-among-number-clause-apart c =
    c.counted_among-among.ensures.apart c.args.card
    (others_lack c.args.shown.note c.args.card c.remove.result c.args.table.now.marks.all c.remove.ensures.value)

pub returns-then-note-others-clause-cards : goal.returns-then-note-others-clause-cards
returns-then-note-others-clause-cards c =
    let t = c.args.table.now in
    omega (
      arith,
      c.pruned-note.ensures.most,
      and_le_r c.remove.result t.marks.all,
      all_small c.args.position.now t c.plain-plain.ensures.whole c.requires.table,
    )

pub returns-then-among-number-clause-cards : goal.returns-then-among-number-clause-cards
returns-then-among-number-clause-cards c =
    let t = c.args.table.now in
    omega (
      arith,
      c.pruned-note.ensures.most,
      and_le_r c.remove.result t.marks.all,
      all_small c.args.position.now t c.plain-plain.ensures.whole c.requires.table,
    )
