use Rattle.std.proofs.Common.{◌≡◌}
use Rattle.std.specs.Prelude.{All}
use Rattle.fc_answers.specs.Table.{IsRowOf, pairs_by}
use Rattle.fc_search.specs.inner.Stored.{costs_inside}
use Rattle.fc_search.proofs.position_searches.Search.rows_below.Given as goal

-- the rows so far are of codes from the start, and those of the first stored keys that are inside n
abbrev pub invariant-loop-number : goal.invariant-loop-number
invariant-loop-number g l = All (IsRowOf l.self.problem.start) l.rows.items
    × (pairs_by l.self.problem.start l.rows.items ≡ costs_inside l.self l.n l.number)
