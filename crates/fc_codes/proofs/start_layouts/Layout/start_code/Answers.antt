use Rattle.std.proofs.Common.{subst}
use Rattle.fc_codes.specs.State.{IsCodeOf}
use Rattle.fc_codes.proofs.StartLemmas.{start_code}
use Rattle.fc_codes.proofs.start_layouts.Layout.start_code.Goals as goal

pub returns-clause-value : goal.returns-clause-value
returns-clause-value c =
    subst (λ s. IsCodeOf s s c.with_homes.result) c.self.view_is
    (start_code c.self.inside.start c.with_cells.result c.with_homes.result c.self.invariant.whole
    (c.with_homes.ensures.count c.with_cells.ensures.count) c.with_cells.ensures.value c.with_homes.ensures.value)
