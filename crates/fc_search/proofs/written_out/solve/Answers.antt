use Rattle.std.proofs.Common.{◌≡◌, subst}
use Rattle.std.specs.Prelude.{IfSome}
use Rattle.fc_search.specs.Problem.{problem_of, shortest_from}
use Rattle.fc_search.specs.Search.{Answers, IsRunToEnd}
use Rattle.fc_search.proofs.AnswerLemmas.{asked_shortest, one_of_three}
use Rattle.fc_search.proofs.written_out.solve.Goals as goal
use Rattle.fc_search.proofs.written_out.solve.Goals.{In-Ok}

-- the problem that was searched is that of a shortest list
asked : (g : _) (c : In-Ok g)
    → problem_of c.in_ok-question.question c.args.position.now ≡ shortest_from (g.G.Game.game c.args.game.now) c.args.rule c.args.position.now c.args.budget
asked g c =
    asked_shortest c.in_ok-question.question (g.G.Game.game c.args.game.now) c.unwrap.result c.args.rule c.args.position.now c.args.budget
    c.in_ok-question.ensures.question (subst (λ o. IfSome o (λ r. r ≡ c.args.rule)) c.unwrap.ensures c.new.ensures.value)

pub returns-in-Ok-clause-answers : goal.returns-in-Ok-clause-answers
returns-in-Ok-clause-answers g c = subst (λ p. Answers p c.in-Ok.answer) (asked g (goal.at.returns-in-Ok-clause-answers g c).In-Ok) c.in-Ok.ensures.answers

pub returns-in-Ok-clause-ran : goal.returns-in-Ok-clause-ran
returns-in-Ok-clause-ran g c = subst (λ p. IsRunToEnd p c.in-Ok.answer.verdict) (asked g (goal.at.returns-in-Ok-clause-ran g c).In-Ok) c.in-Ok.ensures.ran

pub returns-in-Ok-clause-three : goal.returns-in-Ok-clause-three
returns-in-Ok-clause-three g c =
    let answers = subst (λ p. Answers p c.in-Ok.answer) (asked g (goal.at.returns-in-Ok-clause-three g c).In-Ok) c.in-Ok.ensures.answers in
    one_of_three (g.G.Game.game c.args.game.now) c.args.position.now c.args.budget c.in-Ok.answer.verdict answers.told.right
