use Rattle.std.proofs.Common.{◌∙◌, refl, ap, arith}
use Rattle.fc_text.proofs.ReaderLemmas.{cells_none, cells_next, cells_all}
use Rattle.fc_text.proofs.readers.read_cells.Goals as goal
use Rattle.fc_text.proofs.readers.read_cells.Goals.{then-count-lt4, else-count-lt4}

pub loop-token-init : goal.loop-token-init
loop-token-init c =
    cells_none c.args.piece.now c.into_iter-token-iterator.result.rest.now _ _
    (ap (λ i. i.rest.now) c.into_iter-token-iterator.ensures.into_iter_gives ∙ c.new-token-items.ensures.rest) refl refl

pub loop-token-preserved : goal.loop-token-preserved
loop-token-preserved c =
    elim c.if-count-lt4.branch [
      | then-count-lt4 w ↦
          cells_next c.args.piece.now c.loop-token.token-iterator.rest.now c.next.new.self.rest.now c.loop-token.cells c.if-count-lt4.cells c.loop-token.count c.in-Some.token.now c.in-Some-read_cell.held c.loop-token.invariant
          c.in-Some.ensures.steps c.in-Some-read_cell.ensures.read (λ _. w.cells-is) (λ le. absurd (omega arith)) _ c.min-count.ensures
      | else-count-lt4 w ↦
          cells_next c.args.piece.now c.loop-token.token-iterator.rest.now c.next.new.self.rest.now c.loop-token.cells c.if-count-lt4.cells c.loop-token.count c.in-Some.token.now c.in-Some-read_cell.held c.loop-token.invariant
          c.in-Some.ensures.steps c.in-Some-read_cell.ensures.read (λ lt. absurd (omega arith)) (λ _. w.cells-is) _ c.min-count.ensures
    ]

pub returns-clause-read : goal.returns-clause-read
returns-clause-read c =
    cells_all c.args.piece.now c.loop-token.token-iterator.rest.now c.loop-token.cells c.loop-token.count c.loop-token.invariant c.in-None.ensures.steps.0
