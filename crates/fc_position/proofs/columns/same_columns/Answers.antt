use Rattle.fc_position.proofs.SameLayout.{columns_same}
use Rattle.fc_position.proofs.columns.same_columns.Goals as goal

pub returns : goal.returns
returns c = columns_same c.eq.result c.args.columns.now c.args.others.now c.eq.ensures
