use Rattle.std.proofs.Common.{subst}
use Rattle.fc_classes.specs.Namings.{IsNaming, by_codes}
use Rattle.fc_classes.proofs.NamingLemmas.{codes_name}
use Rattle.fc_search.proofs.position_searches.Search.known.Goals as goal

pub returns-clause-names : goal.returns-clause-names
returns-clause-names g c =
    let space = c.self.inside.search.space in
    subst (λ s. IsNaming (by_codes s.problem.start) s.problem.game s.problem.start) c.self.view_is
    (codes_name (g.G.Game.game space.rules.game) space.start (g.met.G.Game.sound space.rules.game) space.fits)
