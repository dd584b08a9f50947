use Rattle.std.proofs.Common.{◌+◌, [], length, ◌∙◌, ap, arith}
use Rattle.fc_answers.specs.declared.answers.Verdict.TheVariants as verdict
use Rattle.fc_cert.specs.Content.{moves_bytes}
use Rattle.fc_cert.specs.declared.contents.Kind.TheVariants as kind
use Rattle.fc_cert.proofs.LengthLemmas.{written_long, written_with}
use Rattle.fc_cert.proofs.lengths.certificate_length.Goals as goal

pub returns-in-Shortest-clause-length : goal.returns-in-Shortest-clause-length
returns-in-Shortest-clause-length c g content is =
    let table = c.in-Some.table in
    let moves = c.in-Shortest.moves in
    let same = written_with g c.args.answer.now (verdict.Shortest moves) table content c.in-Some.is c.in-Shortest.is is in
    let head = c.head_length.ensures.value g 0 in
    let list = c.list_length.ensures.value ∙ ap (λ l. length (moves_bytes kind.Shortest l)) c.as_slice.ensures.value in
    let all = written_long g table content kind.Shortest 0 (c.head_length.result + c.list_length.result) moves same (omega (arith, head, list)) in
    let records = c.records_length-records.ensures.value in
    omega (arith, all, records)

pub returns-in-CannotWin-clause-length : goal.returns-in-CannotWin-clause-length
returns-in-CannotWin-clause-length c g content is =
    let table = c.in-Some.table in
    let same = written_with g c.args.answer.now verdict.CannotWin table content c.in-Some.is c.in-CannotWin.is is in
    let head = c.head_length-in-CannotWin.ensures.value g 0 in
    let all = written_long g table content kind.CannotWin 0 c.head_length-in-CannotWin.result [] same (omega (arith, head)) in
    let records = c.records_length-records.ensures.value in
    omega (arith, all, records)
