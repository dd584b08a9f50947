use Rattle.std.proofs.Common.{sym, subst}
use Rattle.fc_best_first.specs.Shown.{Holds, IsLeastOpen, Shows}
use Rattle.fc_best_first.proofs.KeptLemmas.{same_entry, stands_within}
use Rattle.fc_answers.specs.declared.answers.Verdict.TheVariants as verdict
use Rattle.fc_search.specs.Search.{IsOfStatus}
use Rattle.fc_search.proofs.AnswerLemmas.{shortest_verdict, won_length, won_verdict, won_within}
use Rattle.fc_search.specs.Problem.{task_of_problem}
use Rattle.fc_search.proofs.position_searches.Search.won_list.Goals as goal

pub moves_to-requires-clause-sound : goal.moves_to-requires-clause-sound
moves_to-requires-clause-sound g c =
    (subst (Holds (task_of_problem c.args.self.now.problem) c.args.self.now.store) c.requires.done c.requires.held).0

pub moves_to-requires-clause-within : goal.moves_to-requires-clause-within
moves_to-requires-clause-within g c =
    let now = c.args.self.now in
    let shows = subst (Shows (task_of_problem now.problem) now.store) c.requires.done c.requires.shown in
    stands_within now.store c.args.number shows.0 shows.1 shows.2

pub returns-clause-shortest : goal.returns-clause-shortest
returns-clause-shortest g c light =
    let q = c.args.self.now.problem in
    let store = c.args.self.now.store in
    let moves = c.in_ok-moves.moves in
    let there = c.in_ok-moves.ensures.there in
    let shows = subst (Shows (task_of_problem q) store) c.requires.done c.requires.shown in
    let found = subst (Holds (task_of_problem q) store) c.requires.done c.requires.held in
    let won = won_length q store c.known.ensures.names c.known.ensures.fits c.known.ensures.weight.least light c.args.number moves there.0 shows there.1 in (
      shortest_verdict q store c.known.ensures.names c.known.ensures.fits c.requires.whole c.known.ensures.weight.least light c.args.number moves there.0
          c.known.ensures.rule c.known.ensures.budget.greatest found shows there.1,
      subst (λ s. IsOfStatus q store s (verdict.Shortest moves)) (sym c.requires.done)
          (won.0, won.1, won.2, won.3, light),
    )

pub returns-clause-within : goal.returns-clause-within
returns-clause-within g c heavy floor told =
    let q = c.args.self.now.problem in
    let store = c.args.self.now.store in
    let moves = c.in_ok-moves.moves in
    let there = c.in_ok-moves.ensures.there in
    let shows = subst (Shows (task_of_problem q) store) c.requires.done c.requires.shown in
    let found = subst (Holds (task_of_problem q) store) c.requires.done c.requires.held in
    let mine = told.1 in
    let won = won_within q store c.known.ensures.names c.known.ensures.fits c.args.number moves there.0 shows there.1 in
    let one = same_entry store c.args.number told.0 won.0 mine won.1 told.2 won.2 in
    let own = subst (λ k. IsLeastOpen (task_of_problem q) store k.cost floor) one.1 told.3 in (
      won_verdict q store c.known.ensures.names c.known.ensures.fits c.requires.whole heavy c.args.number moves won.0 won.1 floor
          c.known.ensures.rule c.known.ensures.budget.greatest found won.2 own won.3 won.4 won.5,
      subst (λ s. IsOfStatus q store s (verdict.Won moves floor)) (sym c.requires.done)
          (won.0, won.1, won.2, won.3, heavy, own),
    )
