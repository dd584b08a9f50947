use Rattle.std.proofs.Common.{rules, inl, inr, Some, None}
use Rattle.fc_board_runs.specs.Devices.{Device}
use Rattle.fc_runs.proofs.SolveLemmas.{asked_by, is_lent, solved, unsolved}
use Rattle.fc_runs.proofs.written_out.run_solve.Goals as goal

pub returns-in_err-question-clause-fault : goal.returns-in_err-question-clause-fault
returns-in_err-question-clause-fault g c =
    elim (is_lent c.args.cert) [ inl none ↦ rw none (search rules) | inr some ↦ rw some.1 (search rules) ]

pub returns-in_err-start-clause-fault : goal.returns-in_err-start-clause-fault
returns-in_err-start-clause-fault g c =
    elim (is_lent c.args.cert) [ inl none ↦ rw none (search rules) | inr some ↦ rw some.1 (search rules) ]

pub returns-in-Some-clause-answered : goal.returns-in-Some-clause-answered
returns-in-Some-clause-answered g c =
    let source : Device = record { old = g.S.Source.told c.args.board.now; new = g.S.Source.told c.read_position.new.board; failed = g.S.Source.has_failed c.read_position.new.board } in
    let cert : Device = record { old = g.C.Sink.held c.in-Some.cert.now; new = g.C.Sink.held c.certify.new.cert; failed = g.C.Sink.has_failed c.certify.new.cert } in
    let sink : Device = record { old = g.K.Sink.held c.args.out.now; new = g.K.Sink.held c.certify.new.out; failed = g.K.Sink.has_failed c.certify.new.out } in
    rw c.in-Some.is
    (solved (g.G.Game.game c.args.game.now) c.args.rule c.args.budget c.in_ok-question.question c.cells.result source (Some cert) sink c.in_ok-start.start
    c.certify.result (asked_by c.in_ok-question.question (g.G.Game.game c.args.game.now) c.unwrap.result c.args.rule c.args.budget c.new.result
    c.in_ok-question.ensures.question c.unwrap.ensures c.new.ensures.value) c.cells.ensures.value c.in_ok-question.ensures.budgeted c.in_ok-start.ensures.read
    c.certify.ensures.answered)

pub returns-in-Some-clause-fault : goal.returns-in-Some-clause-fault
returns-in-Some-clause-fault g c =
    let source : Device = record { old = g.S.Source.told c.args.board.now; new = g.S.Source.told c.read_position.new.board; failed = g.S.Source.has_failed c.read_position.new.board } in
    let cert : Device = record { old = g.C.Sink.held c.in-Some.cert.now; new = g.C.Sink.held c.certify.new.cert; failed = g.C.Sink.has_failed c.certify.new.cert } in
    let sink : Device = record { old = g.K.Sink.held c.args.out.now; new = g.K.Sink.held c.certify.new.out; failed = g.K.Sink.has_failed c.certify.new.out } in
    rw c.in-Some.is
    (unsolved (g.G.Game.game c.args.game.now) c.args.rule c.args.budget c.in_ok-question.question c.cells.result source (Some cert) sink c.in_ok-start.start
    c.certify.result (asked_by c.in_ok-question.question (g.G.Game.game c.args.game.now) c.unwrap.result c.args.rule c.args.budget c.new.result
    c.in_ok-question.ensures.question c.unwrap.ensures c.new.ensures.value) c.cells.ensures.value c.in_ok-question.ensures.budgeted c.in_ok-start.ensures.read
    c.certify.ensures.fault)

pub returns-clause-answered : goal.returns-clause-answered
returns-clause-answered g c =
    let source : Device = record { old = g.S.Source.told c.args.board.now; new = g.S.Source.told c.read_position.new.board; failed = g.S.Source.has_failed c.read_position.new.board } in
    let sink : Device = record { old = g.K.Sink.held c.args.out.now; new = g.K.Sink.held c.tell.new.out; failed = g.K.Sink.has_failed c.tell.new.out } in
    rw c.in-None.is
    (solved (g.G.Game.game c.args.game.now) c.args.rule c.args.budget c.in_ok-question.question c.cells.result source None sink c.in_ok-start.start
    c.tell.result (asked_by c.in_ok-question.question (g.G.Game.game c.args.game.now) c.unwrap.result c.args.rule c.args.budget c.new.result
    c.in_ok-question.ensures.question c.unwrap.ensures c.new.ensures.value) c.cells.ensures.value c.in_ok-question.ensures.budgeted c.in_ok-start.ensures.read
    c.tell.ensures.answered)

pub returns-clause-fault : goal.returns-clause-fault
returns-clause-fault g c =
    let source : Device = record { old = g.S.Source.told c.args.board.now; new = g.S.Source.told c.read_position.new.board; failed = g.S.Source.has_failed c.read_position.new.board } in
    let sink : Device = record { old = g.K.Sink.held c.args.out.now; new = g.K.Sink.held c.tell.new.out; failed = g.K.Sink.has_failed c.tell.new.out } in
    rw c.in-None.is
    (unsolved (g.G.Game.game c.args.game.now) c.args.rule c.args.budget c.in_ok-question.question c.cells.result source None sink c.in_ok-start.start
    c.tell.result (asked_by c.in_ok-question.question (g.G.Game.game c.args.game.now) c.unwrap.result c.args.rule c.args.budget c.new.result
    c.in_ok-question.ensures.question c.unwrap.ensures c.new.ensures.value) c.cells.ensures.value c.in_ok-question.ensures.budgeted c.in_ok-start.ensures.read
    c.tell.ensures.fault)
