use Rattle.std.proofs.Common.{◌∙◌, refl, ap, subst, sym, Ok, Err}
use Rattle.fc_moves.specs.GameRules.{IsGame}
use Rattle.fc_cert.specs.declared.faults.CertFault.TheVariants.{Write}
use Rattle.fc_cert.specs.Writing.{SinkState, WritesAnswer}
use Rattle.fc_board_runs.specs.Devices.{Device}
use Rattle.fc_runs.proofs.CertificateLemmas.{too_long, unwritten_long, written_whole, written_short}
use Rattle.fc_runs.proofs.certifying.write_certificate.Goals as goal

pub returns-in-Err-Write-clause-cut : goal.returns-in-Err-Write-clause-cut
returns-in-Err-Write-clause-cut g c p game position answers =
    let before : SinkState = record { held = g.C.Sink.held c.args.cert.now; has_failed = g.C.Sink.has_failed c.args.cert.now } in
    let after : SinkState = record { held = g.C.Sink.held c.write_answer.new.sink; has_failed = g.C.Sink.has_failed c.write_answer.new.sink } in
    let short = c.in-Err-Write.is ∙ ap Err c.in-Err-Write.field-0-is in
    written_short p c.args.answer.now before after (subst IsGame (sym game) (g.met.G.Game.sound c.args.game.now)) position answers
    (c.is_too_long.ensures.short c.if-is_too_long.false p.game p.start answers.backed answers.few)
    (subst (λ r. WritesAnswer r c.args.answer.now before after (Err Write)) (sym game)
    (subst (WritesAnswer (g.G.Game.game c.args.game.now) c.args.answer.now before after) short c.write_answer.ensures.ends))

pub returns-in-Ok-clause-certified : goal.returns-in-Ok-clause-certified
returns-in-Ok-clause-certified g c p game position answers =
    let before : SinkState = record { held = g.C.Sink.held c.args.cert.now; has_failed = g.C.Sink.has_failed c.args.cert.now } in
    let after : SinkState = record { held = g.C.Sink.held c.write_answer.new.sink; has_failed = g.C.Sink.has_failed c.write_answer.new.sink } in
    (written_whole p c.args.answer.now before after c.in-Ok.field-0 (subst IsGame (sym game) (g.met.G.Game.sound c.args.game.now)) position answers
    (c.is_too_long.ensures.short c.if-is_too_long.false p.game p.start answers.backed answers.few)
    (subst (λ r. WritesAnswer r c.args.answer.now before after (Ok c.in-Ok.field-0)) (sym game)
    (subst (WritesAnswer (g.G.Game.game c.args.game.now) c.args.answer.now before after) c.in-Ok.is c.write_answer.ensures.ends))).1

pub returns-in-Ok-clause-told : goal.returns-in-Ok-clause-told
returns-in-Ok-clause-told g c p game position answers =
    let before : SinkState = record { held = g.C.Sink.held c.args.cert.now; has_failed = g.C.Sink.has_failed c.args.cert.now } in
    let after : SinkState = record { held = g.C.Sink.held c.write_answer.new.sink; has_failed = g.C.Sink.has_failed c.write_answer.new.sink } in
    (written_whole p c.args.answer.now before after c.in-Ok.field-0 (subst IsGame (sym game) (g.met.G.Game.sound c.args.game.now)) position answers
    (c.is_too_long.ensures.short c.if-is_too_long.false p.game p.start answers.backed answers.few)
    (subst (λ r. WritesAnswer r c.args.answer.now before after (Ok c.in-Ok.field-0)) (sym game)
    (subst (WritesAnswer (g.G.Game.game c.args.game.now) c.args.answer.now before after) c.in-Ok.is c.write_answer.ensures.ends))).0

pub returns-then-is_too_long-clause-certified : goal.returns-then-is_too_long-clause-certified
returns-then-is_too_long-clause-certified g c p game position answers =
    let sink : Device = record { old = g.C.Sink.held c.args.cert.now; new = g.C.Sink.held c.args.cert.now; failed = g.C.Sink.has_failed c.args.cert.now } in
    unwritten_long p c.args.answer.now sink (subst IsGame (sym game) (g.met.G.Game.sound c.args.game.now)) position answers
    (c.is_too_long.ensures.long c.if-is_too_long.true) refl

pub returns-then-is_too_long-clause-told : goal.returns-then-is_too_long-clause-told
returns-then-is_too_long-clause-told g c p game position answers =
    (too_long p c.args.answer.now answers (c.is_too_long.ensures.long c.if-is_too_long.true), refl)
