use Rattle.std.proofs.Common.{ℕ, Some, get_or, sym, ◌∙◌, ap}
use Rattle.std.proofs.lemmas.Nat.Bits.{shr_and_one}
use Rattle.fc_bound.specs.Bound.{is_held_back}
use Rattle.fc_bound.specs.Rows.{no_row}
use Rattle.fc_bound.proofs.FamilyAfter.{held_at, held_at_none}
use Rattle.fc_bound.proofs.LooseLemmas.{bit_test}
use Rattle.fc_bound.proofs.landings.is_held_on.Goals as goal

pub returns-in-Some-clause-value : goal.returns-in-Some-clause-value
returns-in-Some-clause-value c = λ g z m step card away there.
    let b = c.args.position.now in
    let t = c.args.table.now in
    let u = c.args.card in
    let host = c.index.result in
    let last = there ∙ c.in-Some.is ∙ ap (λ (n : ℕ). Some n) (sym c.index.ensures.value) in
    bit_test _ (is_held_back z u)
    (shr_and_one (get_or t.rows host no_row).waiting u
    ∙ held_at g b z t m u host step c.cell-cell.ensures.whole c.requires.table c.requires.card card away last)

pub returns-in-None-clause-value : goal.returns-in-None-clause-value
returns-in-None-clause-value c = λ g z m step card away there.
    held_at_none g c.args.position.now z m c.args.card step c.cell-cell.ensures.whole card away (there ∙ c.in-None.is)
