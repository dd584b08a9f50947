use Rattle.fc_moves.proofs.GameLemmas.{hosts_of_red, hosts_of_black}
use Rattle.std.proofs.Common.{sym}
use Rattle.fc_moves.proofs.free_cell.FreeCellGame.hosts_of.Goals as goal

pub returns-then-is_red-clause-exact : goal.returns-then-is_red-clause-exact
returns-then-is_red-clause-exact c u =
    let hosts = hosts_of_red c.args.self.now.cells c.args.card c.lower_cards.ensures.below (sym c.if-is_red.ensures.value) u in
    let listed = c.lower_cards.ensures.exact u in
    (λ found. hosts.0 (listed.0 found), λ stands. listed.1 (hosts.1 stands))

pub returns-else-is_red-clause-exact : goal.returns-else-is_red-clause-exact
returns-else-is_red-clause-exact c u =
    let hosts = hosts_of_black c.args.self.now.cells c.args.card c.lower_cards-else-is_red.ensures.below (sym c.if-is_red.ensures.value) u in
    let listed = c.lower_cards-else-is_red.ensures.exact u in
    (λ found. hosts.0 (listed.0 found), λ stands. listed.1 (hosts.1 stands))
