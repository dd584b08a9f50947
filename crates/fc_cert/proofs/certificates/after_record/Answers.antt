use Rattle.std.proofs.Common.{◌≤◌, length, sym, ◌∙◌, subst}
use Rattle.fc_canonical.specs.Spelled.{board_of_bytes}
use Rattle.fc_cert.proofs.RecordLemmas.{begins, behind_key, long_enough}
use Rattle.fc_cert.proofs.certificates.after_record.Goals as goal

pub key_size-requires : goal.key_size-requires
key_size-requires c =
    let (row, rest, is, e) = c.requires.record in record {
      key = (
        board_of_bytes row.0,
        length row.0,
        begins c.args.head.cells c.args.head.kind c.args.bytes.now row rest is e c.split_at.result.1.now c.split_at.ensures.back,
      );
    }

pub split_at-requires-2 : goal.split_at-requires-2
split_at-requires-2 c =
    let (row, rest, is, e) = c.requires.record in
    let head = c.args.head in
    let from_key = c.split_at.result.1.now in
    let size = c.key_size.ensures.value (board_of_bytes row.0) (length row.0)
    (begins head.cells head.kind c.args.bytes.now row rest is e from_key c.split_at.ensures.back) in
    subst (λ n. n ≤ length from_key) (sym size)
    (long_enough head.cells head.kind c.args.bytes.now row rest is e from_key c.split_at.ensures.back)

pub returns : goal.returns
returns c = record {
  value = λ row rest is e.
      let head = c.args.head in
      let from_key = c.split_at.result.1.now in
      let size = c.key_size.ensures.value (board_of_bytes row.0) (length row.0)
      (begins head.cells head.kind c.args.bytes.now row rest is e from_key c.split_at.ensures.back) in
      c.split_at-2.ensures.back
      ∙ behind_key head.cells head.kind c.args.bytes.now row rest is e from_key c.key_size.result c.split_at.ensures.back size;
}
