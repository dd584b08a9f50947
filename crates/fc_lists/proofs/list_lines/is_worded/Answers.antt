use Rattle.fc_lists.proofs.AloneLemmas.{some_worded}
use Rattle.fc_lists.proofs.list_lines.is_worded.Goals as goal

pub returns : goal.returns
returns c = record {
  value = some_worded c.args.line.now c.told_entry.result c.is_some.result c.is_some.ensures c.told_entry.ensures.told c.told_entry.ensures.refused;
}
