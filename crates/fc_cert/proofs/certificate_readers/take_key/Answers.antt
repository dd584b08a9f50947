use Rattle.std.proofs.Common.{◌++◌, drop, refl, sym, ◌∙◌, ap}
use Rattle.std.proofs.lemmas.List.{take-append-drop}
use Rattle.fc_cert.proofs.OnceLemmas.{key_taken}
use Rattle.fc_cert.proofs.certificate_readers.take_key.Goals as goal

pub returns-then-is_key : goal.returns-then-is_key
returns-then-is_key c =
    let is = c.if-is_key.ensures.value.0 refl in
    let number = c.in_ok-cost.ensures.found in
    let from_key = c.in_ok-cost.from_key.now in
    let size = c.in_ok-likely_size.field-0 in
    let cut = c.in_ok-key.ensures.cases in
    let split = sym (take-append-drop size from_key) ∙ ap (λ l. l ++ drop size from_key) (sym cut.1)
    ∙ ap (λ l. c.in_ok-key.key.now ++ l) (sym cut.2) in record {
      found = key_taken c.args.cells c.args.bytes.now from_key c.in_ok-key.key.now c.in_ok-key.rest.now c.in_ok-cost.cost
          number.0 number.1 split is;
    }
