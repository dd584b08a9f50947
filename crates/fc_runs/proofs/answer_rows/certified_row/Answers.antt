use Rattle.std.proofs.Common.{Some, None, refl, sym, rules}
use Rattle.fc_search.specs.Problem.{problem_of}
use Rattle.fc_board_runs.specs.Devices.{Device, IsUntouched}
use Rattle.fc_runs.specs.declared.answer_rows.Last.{Last}
use Rattle.fc_runs.proofs.RowLemmas.{end_kept, heard_floor, memory_row, part_kept, verdict_row}
use Rattle.fc_runs.proofs.answer_rows.certified_row.Goals as goal

pub returns-in_default-clause-row : goal.returns-in_default-clause-row
returns-in_default-clause-row g c =
    let q = c.args.question.now in
    let b = c.args.start.now in
    let nothing : Last = record { far = None } in
    let last = c.answer.new.listener in
    let cert : Device = record { old = g.C.Sink.held c.args.cert.now; new = g.C.Sink.held c.args.cert.now; failed = g.C.Sink.has_failed c.args.cert.now } in
    let untouched : IsUntouched cert = search rules in
    memory_row q b (Some cert) last.far c.row_of_memory.result
    record { budget = c.row_of_memory.ensures.budget; told = c.row_of_memory.ensures.told; list = c.row_of_memory.ensures.list; far = c.row_of_memory.ensures.far }
    untouched (part_kept q.sought q b nothing last c.answer.ensures.heard)
    (heard_floor q.sought q b None last.far (part_kept q.sought q b nothing last c.answer.ensures.heard) tt)

pub returns-in_default-write_certificate-clause-fault : goal.returns-in_default-write_certificate-clause-fault
returns-in_default-write_certificate-clause-fault g c =
    let p = problem_of c.args.question.now c.args.start.now in
    let answered = c.in-Ok.ensures in
    let cut = c.in_default-write_certificate.ensures.cut p (sym c.game.ensures.value) c.requires.position (answered.certifiable refl) in
    let cert : Device = record { old = g.C.Sink.held c.args.cert.now; new = g.C.Sink.held c.write_certificate.new.cert; failed = g.C.Sink.has_failed c.write_certificate.new.cert } in
    (c.in-Ok.answer.verdict, answered.right, (cert, refl, cut))

pub returns-clause-row : goal.returns-clause-row
returns-clause-row g c =
    let q = c.args.question.now in
    let b = c.args.start.now in
    let p = problem_of q b in
    let nothing : Last = record { far = None } in
    let last = c.answer.new.listener in
    let cert : Device = record { old = g.C.Sink.held c.args.cert.now; new = g.C.Sink.held c.write_certificate.new.cert; failed = g.C.Sink.has_failed c.write_certificate.new.cert } in
    let answered = c.in-Ok.ensures in
    verdict_row q b (Some cert) c.in-Ok.answer.verdict last.far c.row_of.result
    record { budget = c.row_of.ensures.budget; told = c.row_of.ensures.told; list = c.row_of.ensures.list; far = c.row_of.ensures.far }
    answered.right
    (c.in-Ok-write_certificate.ensures.certified p (sym c.game.ensures.value) c.requires.position (answered.certifiable refl))
    (end_kept q.sought q b c.in-Ok.answer.verdict nothing last answered.ended)
    (heard_floor q.sought q b None last.far (part_kept q.sought q b nothing last c.answer.ensures.heard) tt)
