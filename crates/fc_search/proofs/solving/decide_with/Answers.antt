use Rattle.std.proofs.Common.{subst}
use Rattle.std.proofs.lemmas.Result.{IfOk-weaker}
use Rattle.std.specs.Prelude.{IfOk}
use Rattle.fc_answers.specs.declared.answers.Verdict.{Verdict}
use Rattle.fc_search.specs.Problem.{problem_of}
use Rattle.fc_search.specs.Search.{IsVerdict, IsOfStatus, IsRunToEnd}
use Rattle.fc_search.proofs.EndLemmas.{ends_told}
use Rattle.fc_search.proofs.solving.decide_with.Goals as goal

pub returns-clause-told : goal.returns-clause-told
returns-clause-told g c = subst (λ p. IfOk c.verdict_of.result (IsVerdict p)) c.in_ok-search.ensures.problem c.verdict_of.ensures.told

pub returns-clause-ran : goal.returns-clause-ran
returns-clause-ran g c =
    let search = c.in_ok-search.search in
    let p = problem_of c.args.question.now c.args.position.now in
    IfOk-weaker c.verdict_of.result (λ (verdict : Verdict). IsOfStatus search.problem search.store search.status verdict) (λ verdict. IsRunToEnd p verdict)
    (λ verdict kind. record {
      last = search.store;
      status = search.status;
      ran = c.in_ok-search.ensures.ran;
      answered = subst (λ q. IsOfStatus q search.store search.status verdict) c.in_ok-search.ensures.problem kind;
    })
    c.verdict_of.ensures.kind

pub returns-clause-heard : goal.returns-clause-heard
returns-clause-heard g c =
    let search = c.in_ok-search.search in
    let (heard, hears, floors, is) = c.in_ok-search.ensures.heard in
    let p = problem_of c.args.question.now c.args.position.now in
    (heard, hears, ends_told p heard search is (λ (verdict : Verdict). verdict) c.verdict_of.result c.in_ok-search.ensures.problem c.verdict_of.ensures.kind)
