use Rattle.std.proofs.Common.{rules}
use Rattle.fc_deal.proofs.DealLemmas.{dealt_fits}
use Rattle.fc_runs.proofs.best_batches.best_told.Goals as goal

pub best-requires : goal.best-requires
best-requires g c = record { fits = search (rules, dealt_fits c.args.question.now.game.cells c.args.number) }
