use Rattle.std.proofs.Common.{◌∙◌, refl, sym, rules, IsTrue}
use Rattle.fc_search.specs.Problem.{problem_of}
use Rattle.fc_board_runs.specs.Devices.{Device}
use Rattle.fc_runs.proofs.CertificateLemmas.{uncertified, told_whole, told_short}
use Rattle.fc_best.specs.Answering.{IsVerdictFor}
use Rattle.fc_runs.proofs.delivering.certify.Goals as goal

pub returns-in_default-clause-fault : goal.returns-in_default-clause-fault
returns-in_default-clause-fault g c =
    let p = problem_of c.args.question.now c.args.start.now in
    let cert : Device = record { old = g.C.Sink.held c.args.cert.now; new = g.C.Sink.held c.write_certificate.new.cert; failed = g.C.Sink.has_failed c.write_certificate.new.cert } in
    let sink : Device = record { old = g.K.Sink.held c.args.out.now; new = g.K.Sink.held c.args.out.now; failed = g.K.Sink.has_failed c.args.out.now } in
    let answered = c.in_ok-answer.ensures in
    uncertified (IsVerdictFor c.args.question.now c.args.start.now) p c.in_ok-answer.answer cert sink answered.right
    (c.in_default.ensures.cut p (sym c.game.ensures.value) c.requires.position (answered.certifiable refl)) refl

pub returns-in-Ok-write_all-clause-answered : goal.returns-in-Ok-write_all-clause-answered
returns-in-Ok-write_all-clause-answered g c =
    let p = problem_of c.args.question.now c.args.start.now in
    let cert : Device = record { old = g.C.Sink.held c.args.cert.now; new = g.C.Sink.held c.write_certificate.new.cert; failed = g.C.Sink.has_failed c.write_certificate.new.cert } in
    let sink : Device = record { old = g.K.Sink.held c.args.out.now; new = g.K.Sink.held c.write_all.new.sink; failed = g.K.Sink.has_failed c.write_all.new.sink } in
    let sound : IsTrue sink.failed → ⊥ = search rules in
    let answered = c.in_ok-answer.ensures in
    told_whole (IsVerdictFor c.args.question.now c.args.start.now) p c.in_ok-answer.answer cert sink c.as_slice.result.now c.verdict_status.result answered.right
    (c.in-Ok.ensures.certified p (sym c.game.ensures.value) c.requires.position (answered.certifiable refl))
    (c.as_slice.ensures.value ∙ c.in_ok-text.ensures.text) c.in-Ok-write_all.ensures.whole sound c.verdict_status.ensures.value

pub returns-clause-fault : goal.returns-clause-fault
returns-clause-fault g c =
    let p = problem_of c.args.question.now c.args.start.now in
    let cert : Device = record { old = g.C.Sink.held c.args.cert.now; new = g.C.Sink.held c.write_certificate.new.cert; failed = g.C.Sink.has_failed c.write_certificate.new.cert } in
    let sink : Device = record { old = g.K.Sink.held c.args.out.now; new = g.K.Sink.held c.write_all.new.sink; failed = g.K.Sink.has_failed c.write_all.new.sink } in
    let failed : IsTrue sink.failed = search rules in
    let answered = c.in_ok-answer.ensures in
    told_short (IsVerdictFor c.args.question.now c.args.start.now) p c.in_ok-answer.answer cert sink c.as_slice.result.now answered.right
    (c.in-Ok.ensures.certified p (sym c.game.ensures.value) c.requires.position (answered.certifiable refl))
    (c.as_slice.ensures.value ∙ c.in_ok-text.ensures.text) c.write_all.ensures.front failed
