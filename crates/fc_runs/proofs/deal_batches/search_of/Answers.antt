use Rattle.std.proofs.Common.{◌≡◌, ◌∙◌, ap, rules}
use Rattle.fc_deal.specs.Deal.{dealt_board}
use Rattle.fc_search.specs.Problem.{problem_of}
use Rattle.fc_deal.proofs.DealLemmas.{dealt_fits}
use Rattle.fc_runs.proofs.BatchLemmas.{search_begun}
use Rattle.fc_runs.proofs.deal_batches.search_of.Goals as goal

pub new_by-requires : goal.new_by-requires
new_by-requires g c = record { fits = search (rules, dealt_fits c.args.question.now.game.cells c.args.number) }

pub returns-in-Ok-clause-search : goal.returns-in-Ok-clause-search
returns-in-Ok-clause-search g c =
    let e = c.in-Ok.ensures in
    let dealt : c.unwrap-position.result ≡ dealt_board c.args.number = search rules in
    search_begun c.args.question.now c.args.number c.in-Ok.search (e.problem ∙ ap (problem_of c.args.question.now) dealt) e.status e.begins
