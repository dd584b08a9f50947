use Rattle.std.proofs.Common.{ℕ, List, sym, ◌∙◌, subst, arith}
use Rattle.std.specs.Prelude.{IfNone, slice_index}
use Rattle.fc_codes.specs.State.{IsCodeOf}
use Rattle.fc_codes.proofs.ToldLemmas.{columns_more, whole_code}
use Rattle.fc_codes.proofs.start_layouts.Layout.code_of.Goals as goal

pub returns-in_err-code-clause-none : goal.returns-in_err-code-clause-none
returns-in_err-code-clause-none c =
    subst (λ r. IfNone r ((code : List ℕ) → IsCodeOf c.args.self.now c.args.position.now code → ⊥)) (sym c.from_residual.ensures)
    (λ code k. let (x, small, none) = c.in_err-code.ensures.none in none (slice_index code x) (k.states x small))

pub loop-i-preserved : goal.loop-i-preserved
loop-i-preserved c = (
  c.in_ok-code.ensures.count ∙ c.loop-i.invariant.0,
  columns_more c.args.self.now c.args.position.now c.loop-i.i c.with_homes-code.result c.loop-i.code c.in_ok-code.code
      c.cell-cell.ensures.whole c.loop-i-test.true c.loop-i.invariant.1 c.in_ok-code.ensures.value,
)

pub returns-clause-value : goal.returns-clause-value
returns-clause-value c =
    whole_code c.args.self.now c.args.position.now c.with_cells.result c.with_homes-code.result c.loop-i.code c.loop-i.i
    c.cell-cell.ensures.whole (omega arith) c.with_cells.ensures.value c.with_homes-code.ensures.value c.loop-i.invariant.1
    (c.loop-i.invariant.0 ∙ c.with_homes-code.ensures.count c.with_cells.ensures.count)
