use Rattle.std.proofs.Common.{sym, subst}
use Rattle.std.proofs.lemmas.List.Sorted.{IsPermutation-refl}
use Rattle.fc_position.specs.Position.{IsPosition}
use Rattle.fc_position.proofs.BoardLemmas.{position-rearranged}
use Rattle.fc_position.proofs.positions.Position.swap_columns.Goals as goal

pub invariant_of-self : goal.invariant_of-self
invariant_of-self c =
    let l = c.layout.inside in
    position-rearranged (record { columns = l.columns; cells = l.cells; homes = l.homes }) c.swap.new.self l.cells
    (subst IsPosition (sym c.layout.view_is) c.self.invariant) c.swap.ensures.permutation (IsPermutation-refl l.cells)

pub returns-clause-whole : goal.returns-clause-whole
returns-clause-whole c = invariant_of-self c
