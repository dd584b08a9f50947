use Rattle.std.proofs.Common.{length, Ok, Err, refl, sym, ap, subst, arith}
use Rattle.std.specs.List.{flat_map}
use Rattle.std.proofs.lemmas.List.{length-append}
use Rattle.fc_moves.specs.MoveText.{move_text}
use Rattle.fc_cert.specs.Reading.{ReadsListed, ReadsMoves}
use Rattle.fc_cert.proofs.FieldLemmas.{passed_on}
use Rattle.fc_cert.proofs.SpelledLemmas.{moves_spelled, cut_behind}
use Rattle.fc_cert.proofs.certificate_readers.read_listed.Goals as goal

pub returns-in_err-count-clause-fault : goal.returns-in_err-count-clause-fault
returns-in_err-count-clause-fault c =
    let f = c.in_err-count.field-0.0 in
    passed_on (λ f. ReadsListed c.args.floor c.args.bytes.now (Err f)) c.from_residual.result f c.from_residual.ensures.1
    (Err f, c.in_err-count.ensures.fault, refl)

pub returns-in_err-rest-clause-fault : goal.returns-in_err-rest-clause-fault
returns-in_err-rest-clause-fault c =
    let f = c.in_err-rest.field-0.0 in
    let count = c.in_ok-count in
    passed_on (λ f. ReadsListed c.args.floor c.args.bytes.now (Err f)) c.from_residual-in_err-rest.result f
    c.from_residual-in_err-rest.ensures.1
    (Ok (count.count, count.texts.now), count.ensures.read, c.in_err-rest.ensures.fault)

pub overflow_sub-texts : goal.overflow_sub-texts
overflow_sub-texts c =
    let texts = c.in_ok-count.texts.now in
    let rest = c.in_ok-rest.rest.now in
    let moves = c.in_ok-rest.ensures.read in
    let s = moves_spelled c.in_ok-count.count 1 texts rest moves.0 moves.1 in
    omega (arith, ap length s.2, length-append (flat_map move_text moves.0) rest)

pub returns-clause-read : goal.returns-clause-read
returns-clause-read c =
    let count = c.in_ok-count in
    let rest = c.in_ok-rest.rest.now in
    let moves = c.in_ok-rest.ensures.read in
    let s = moves_spelled count.count 1 count.texts.now rest moves.0 moves.1 in
    let cut = cut_behind count.texts.now (flat_map move_text moves.0) rest c.split_at.result.0.now c.split_at.result.1.now s.2
    c.split_at.ensures.front c.split_at.ensures.back in (
      moves.0,
      (
        Ok (count.count, count.texts.now),
        count.ensures.read,
        subst (λ l. ReadsMoves count.count 1 count.texts.now (Ok (moves.0, l))) (sym cut.1) moves.1,
      ),
      cut.0,
    )
