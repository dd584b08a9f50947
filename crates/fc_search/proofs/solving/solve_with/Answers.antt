use Rattle.std.proofs.Common.{subst}
use Rattle.std.proofs.lemmas.Result.{IfOk-weaker}
use Rattle.std.specs.Prelude.{IfOk}
use Rattle.fc_answers.specs.declared.answers.Answer.{Answer}
use Rattle.fc_search.specs.Problem.{problem_of}
use Rattle.fc_search.specs.Search.{Answers, IsOfStatus, IsRunToEnd}
use Rattle.fc_search.proofs.EndLemmas.{ends_told}
use Rattle.fc_search.proofs.solving.solve_with.Goals as goal

pub returns-clause-answers : goal.returns-clause-answers
returns-clause-answers g c = subst (λ p. IfOk c.answer_of.result (Answers p)) c.in_ok-search.ensures.problem c.answer_of.ensures.answers

pub returns-clause-ran : goal.returns-clause-ran
returns-clause-ran g c =
    let search = c.in_ok-search.search in
    let p = problem_of c.args.question.now c.args.position.now in
    IfOk-weaker c.answer_of.result (λ (answer : Answer). IsOfStatus search.problem search.store search.status answer.verdict) (λ answer. IsRunToEnd p answer.verdict)
    (λ answer kind. record {
      last = search.store;
      status = search.status;
      ran = c.in_ok-search.ensures.ran;
      answered = subst (λ q. IsOfStatus q search.store search.status answer.verdict) c.in_ok-search.ensures.problem kind;
    })
    c.answer_of.ensures.kind

pub returns-clause-heard : goal.returns-clause-heard
returns-clause-heard g c =
    let search = c.in_ok-search.search in
    let (heard, hears, floors, is) = c.in_ok-search.ensures.heard in
    let p = problem_of c.args.question.now c.args.position.now in
    (heard, hears, ends_told p heard search is (λ (answer : Answer). answer.verdict) c.answer_of.result c.in_ok-search.ensures.problem c.answer_of.ensures.kind)
