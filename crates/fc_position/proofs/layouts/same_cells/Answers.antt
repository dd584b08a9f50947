use Rattle.fc_position.proofs.SameLayout.{cells_same}
use Rattle.fc_position.proofs.layouts.same_cells.Goals as goal

pub returns : goal.returns
returns c = cells_same c.eq.result c.args.cells.now c.args.others.now c.eq.ensures
