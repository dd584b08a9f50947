use Rattle.fc_lists.proofs.HeldLemmas.{ended}
use Rattle.fc_lists.proofs.people.end_list.Goals as goal

pub returns-in-Some-clause-read : goal.returns-in-Some-clause-read
returns-in-Some-clause-read c =
    ended c.push_move.result c.args.held c.in-Some.before c.args.entries.now.items c.push_move.new.entries.items c.in-Some.is c.push_move.ensures.pushed
