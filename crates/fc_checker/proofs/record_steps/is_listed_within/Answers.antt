use Rattle.fc_checker.proofs.ListedLemmas.{listed_by}
use Rattle.fc_checker.proofs.record_steps.is_listed_within.Goals as goal

pub returns-in-Some : goal.returns-in-Some
returns-in-Some c = record {
  value = listed_by c.args.certificate.now.rows c.args.position.now c.args.moves c.in-Some.cost c.from.result c.in-Some.ensures.value.1 c.from.ensures;
}
