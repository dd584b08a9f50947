use Rattle.std.proofs.Common.{refl}
use Rattle.fc_cert.proofs.certificate_readers.take_record.Goals as goal

pub returns-clause-read : goal.returns-clause-read
returns-clause-read c =
    let found = c.in-Some-split_record.ensures.found in (found.0, found.1, c.if-not-is_key.ensures.value.0 refl)
