use Rattle.fc_search.proofs.RowLemmas.{listed_free}
use Rattle.fc_search.proofs.position_searches.Search.free_row.Goals as goal

pub returns-clause-row : goal.returns-clause-row
returns-clause-row g c =
    let now = c.args.self.now in
    listed_free now.problem.start now.store c.args.number c.position_at-position.result.1.now c.position_at-position.result.2 c.new.result
    c.position_at-position.ensures.spells.stands c.new.ensures.code c.new.ensures.cost

pub returns-clause-coded : goal.returns-clause-coded
returns-clause-coded g c =
    c.new.ensures.row c.args.self.now.problem.start c.position_at-position.ensures.coded c.position_at-position.ensures.spells.board
