use Rattle.std.proofs.Common.{Ok, Err, refl}
use Rattle.fc_cert.specs.Reading.{IsFormFault}
use Rattle.fc_cert.proofs.FieldLemmas.{passed_on}
use Rattle.fc_cert.proofs.SpelledLemmas.{whole_read, whole_parts, trailing, nothing_left, something_left}
use Rattle.fc_cert.proofs.certificate_readers.check_form.Goals as goal

pub returns-in_err-count-clause-fault : goal.returns-in_err-count-clause-fault
returns-in_err-count-clause-fault c =
    let f = c.in_err-count.field-0.0 in
    let head = c.in_ok-head in
    let list = c.in_ok-texts in
    let moves = list.ensures.read in
    passed_on (λ f. IsFormFault c.args.bytes.now f) c.from_residual-in_err-count.result f c.from_residual-in_err-count.ensures.1 (
      Ok (head.head, head.rest.now),
      head.ensures.read,
      (Ok (moves.0, list.rest.now), moves.1, (Err f, (Err f, c.in_err-count.ensures.fault, refl), refl)),
    )

pub returns-in_err-rest-clause-fault : goal.returns-in_err-rest-clause-fault
returns-in_err-rest-clause-fault c =
    let f = c.in_err-rest.field-0.0 in
    let head = c.in_ok-head in
    let list = c.in_ok-texts in
    let moves = list.ensures.read in
    let count = c.in_ok-count in
    passed_on (λ f. IsFormFault c.args.bytes.now f) c.from_residual-in_err-rest.result f c.from_residual-in_err-rest.ensures.1 (
      Ok (head.head, head.rest.now),
      head.ensures.read,
      (
        Ok (moves.0, list.rest.now),
        moves.1,
        (Err f, (Ok (count.count, count.records.now), count.ensures.read, c.in_err-rest.ensures.fault), refl),
      ),
    )

pub returns-then-not-is_empty-clause-fault : goal.returns-then-not-is_empty-clause-fault
returns-then-not-is_empty-clause-fault c =
    let head = c.in_ok-head in
    let list = c.in_ok-texts in
    let moves = list.ensures.read in
    let count = c.in_ok-count in
    let rest = c.in_ok-rest in
    let rows = rest.ensures.read in
    trailing c.args.bytes.now head.rest.now list.rest.now count.records.now rest.rest.now head.head moves.0 rows.0 count.count
    head.ensures.read moves.1 count.ensures.read rows.1 (something_left rest.rest.now c.if-not-is_empty.ensures)

pub returns-clause-read : goal.returns-clause-read
returns-clause-read c =
    let head = c.in_ok-head in
    let list = c.in_ok-texts in
    let moves = list.ensures.read in
    let count = c.in_ok-count in
    let rest = c.in_ok-rest in
    let rows = rest.ensures.read in
    let none = nothing_left rest.rest.now c.if-not-is_empty.ensures in (
      record { head = head.head; moves = moves.0; rows = rows.0 },
      whole_read c.args.bytes.now head.rest.now list.rest.now count.records.now rest.rest.now head.head moves.0 rows.0 count.count
          head.ensures.read moves.1 count.ensures.read rows.1 none,
      whole_parts head.head moves.0 rows.0 list.texts.now count.records.now rest.rest.now count.count moves.2 rows.1 none,
    )
