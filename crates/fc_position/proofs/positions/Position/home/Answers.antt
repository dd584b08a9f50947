use Rattle.std.proofs.Common.{ap}
use Rattle.fc_position.proofs.BoardLemmas.{home_most}
use Rattle.fc_position.proofs.positions.Position.home.Goals as goal

pub returns-clause-most : goal.returns-clause-most
returns-clause-most c =
    rw (ap (λ b. b.homes) c.layout.view_is) (home_most c.self.inside.layout c.self.invariant c.index.result)
