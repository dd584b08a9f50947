use Rattle.std.proofs.Common.{subst, arith}
use Rattle.fc_best_first.specs.Shown.{Holds, Shows}
use Rattle.fc_search.proofs.AnswerLemmas.{backed_whole, cannot_win_verdict}
use Rattle.fc_search.specs.Problem.{task_of_problem}
use Rattle.fc_search.proofs.position_searches.Search.cannot_win.Goals as goal

pub table_of_all-requires : goal.table_of_all-requires
table_of_all-requires g c =
    let q = c.args.self.now.problem in
    record { sound = (subst (Holds (task_of_problem q) c.args.self.now.store) c.requires.done c.requires.held).0 }

pub returns-clause-answers : goal.returns-clause-answers
returns-clause-answers g c =
    let q = c.args.self.now.problem in
    let store = c.args.self.now.store in
    let made = c.in_ok-table.ensures in record {
      told = cannot_win_verdict q store c.known.ensures.names c.known.ensures.fits c.requires.whole c.known.ensures.rule c.known.ensures.budget.greatest
          (subst (Holds (task_of_problem q) store) c.requires.done c.requires.held)
          (subst (Shows (task_of_problem q) store) c.requires.done c.requires.shown);
      backed = backed_whole q store c.known.ensures.names c.known.ensures.fits c.requires.whole c.in_ok-table.table
          (subst (Holds (task_of_problem q) store) c.requires.done c.requires.held) made.rule made.known
          (omega (arith, made.few, c.known.ensures.budget.greatest)) made.rising made.rows;
      searched = (made.rule, made.bound, made.few);
    }
