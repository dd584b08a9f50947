use Rattle.fc_cert.proofs.SpelledLemmas.{no_key, record_split}
use Rattle.fc_cert.proofs.certificate_readers.split_record.Goals as goal

pub returns-in_err-key_len-clause-none : goal.returns-in_err-key_len-clause-none
returns-in_err-key_len-clause-none c =
    rw c.from_residual-in_err-key_len.ensures
    (no_key c.args.bytes.now c.in_ok-cost.from_key.now c.in_ok-cost.cost c.in_ok-cost.ensures.found.0 c.in_err-key_len.ensures.none)

pub returns-clause-found : goal.returns-clause-found
returns-clause-found c =
    record_split c.args.bytes.now c.in_ok-cost.from_key.now c.split_at.result.0.now c.split_at.result.1.now c.in_ok-cost.cost
    c.in_ok-key_len.field-0 c.in_ok-cost.ensures.found.0 c.in_ok-cost.ensures.found.1 c.in_ok-key_len.ensures.found
    c.split_at.ensures.by_index.0 c.split_at.ensures.front_len
