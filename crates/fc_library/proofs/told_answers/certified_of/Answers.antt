use Rattle.std.proofs.Common.{Some, ap, sym}
use Rattle.fc_board_runs.specs.Devices.{Device}
use Rattle.fc_library.proofs.HeldLemmas.{certified_held}
use Rattle.fc_library.proofs.told_answers.certified_of.Goals as goal

pub returns-in-Ok-clause-told : goal.returns-in-Ok-clause-told
returns-in-Ok-clause-told g c p game position certifiable =
    let sink : Device = record { old = Some c.new-certificate.result.bytes; new = Some c.write_certificate.new.cert.bytes; failed = c.write_certificate.new.cert.has_failed } in
    record {
      told = c.in_ok-told.ensures.told;
      certificate = certified_held sink c.into_bytes.result.items (ap (λ l. Some l) c.new-certificate.ensures.empty) (ap (λ l. Some l) (sym c.into_bytes.ensures.told))
          p c.args.answer.now.verdict (c.in-Ok.ensures.certified p game position certifiable);
    }
