use Rattle.fc_best_first.proofs.FloorLemmas.{open_floors}
use Rattle.fc_best_first.proofs.laws.open_floors_hold.Goals as goal

pub returns : goal.returns
returns g c = open_floors (g.S.Space.graph c.args.space.now)
