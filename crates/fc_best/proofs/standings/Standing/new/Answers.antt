use Rattle.std.proofs.Common.{◌∙◌, sym}
use Rattle.fc_best.proofs.TailLemmas.{nothing_stands}
use Rattle.fc_best.proofs.standings.Standing.new.Goals as goal

pub returns-clause-stands : goal.returns-clause-stands
returns-clause-stands c q b same =
    nothing_stands q b c.get-left.result c.args.has_table c.first_progress.result (c.get-left.ensures.value ∙ sym same) c.first_progress.ensures.first
