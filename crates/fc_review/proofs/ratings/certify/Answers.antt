use Rattle.std.proofs.Common.{◌≡◌, ℕ, Some, None, refl, sym, subst, rules}
use Rattle.std.specs.Prelude.{MatchOption}
use Rattle.fc_best.specs.Watch.{floor_told}
use Rattle.fc_board_runs.specs.Devices.{change}
use Rattle.fc_search.specs.Problem.{problem_of}
use Rattle.fc_review.specs.Rating.{IsGivingUp, IsOwnVerdict, SaysAbove}
use Rattle.fc_review.proofs.RatingLemmas.{own_certifiable, own_right, own_told}
use Rattle.fc_review.proofs.ratings.certify.Goals as goal

pub returns-in_default-clause-rated : goal.returns-in_default-clause-rated
returns-in_default-clause-rated g c =
    let q = c.args.question.now in
    let b = c.args.start.now in
    let moves = c.args.moves.now in
    let best = c.in_ok-verdict.field-0.verdict in
    let told = c.in_ok-verdict.ensures.best.told in
    record {
      best = told;
      own = subst (λ o. MatchOption o (IsGivingUp best) (IsOwnVerdict q b moves best)) c.in_default.is
          (own_told q b moves best c.in_ok-own.field-0 told c.requires.wins c.in_ok-own.ensures.own);
      certified = search rules;
    }

pub returns-in_default-write_certificate-clause-fault : goal.returns-in_default-write_certificate-clause-fault
returns-in_default-write_certificate-clause-fault g c =
    let q = c.args.question.now in
    let b = c.args.start.now in
    let moves = c.args.moves.now in
    let answer = c.in_ok-verdict.field-0 in
    let own = c.in-Some.own in
    let best = c.in_ok-verdict.ensures.best in
    let says = subst (λ o. MatchOption o (floor_told answer.verdict ≡ None) (λ v. (floor : ℕ) × (floor_told answer.verdict ≡ Some floor) × SaysAbove moves floor v))
    c.in-Some.is c.in_ok-own.ensures.own in
    let certifiable = own_certifiable q b moves answer own says.0 best (c.in_ok-verdict.ensures.backed refl) c.requires.wins c.requires.texts c.requires.few
    says.1 says.2 in (
      answer.verdict,
      own,
      best.told,
      own_right q b moves answer.verdict own says.0 best.told c.requires.wins says.1 says.2,
      (
        change g.C.Sink.held g.C.Sink.has_failed c.args.cert.now c.write_certificate.new.cert,
        refl,
        c.in_default-write_certificate.ensures.cut (problem_of q b) (sym c.game.ensures.value) c.requires.position certifiable,
      ),
    )

pub returns-clause-rated : goal.returns-clause-rated
returns-clause-rated g c =
    let q = c.args.question.now in
    let b = c.args.start.now in
    let moves = c.args.moves.now in
    let answer = c.in_ok-verdict.field-0 in
    let own = c.in-Some.own in
    let best = c.in_ok-verdict.ensures.best in
    let says = subst (λ o. MatchOption o (floor_told answer.verdict ≡ None) (λ v. (floor : ℕ) × (floor_told answer.verdict ≡ Some floor) × SaysAbove moves floor v))
    c.in-Some.is c.in_ok-own.ensures.own in
    let certifiable = own_certifiable q b moves answer own says.0 best (c.in_ok-verdict.ensures.backed refl) c.requires.wins c.requires.texts c.requires.few
    says.1 says.2 in
    record {
      best = best.told;
      own = own_right q b moves answer.verdict own says.0 best.told c.requires.wins says.1 says.2;
      certified = c.in-Ok.ensures.certified (problem_of q b) (sym c.game.ensures.value) c.requires.position certifiable;
    }
