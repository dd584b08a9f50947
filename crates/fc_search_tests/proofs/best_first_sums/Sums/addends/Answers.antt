use Rattle.fc_search_tests.proofs.SumsLemmas.{sums_children}
use Rattle.fc_search_tests.proofs.best_first_sums.Sums.addends.Goals as goal

pub returns : goal.returns
returns c = record {
  children = sums_children c.args.self.now.goal c.args.key c.child.result c.child-2.result c.child-3.result
      c.child.ensures.byte
      c.child.ensures.child c.child-2.ensures.child c.child-3.ensures.child;
}
