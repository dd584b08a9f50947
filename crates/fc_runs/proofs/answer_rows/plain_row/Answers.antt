use Rattle.std.proofs.Common.{None}
use Rattle.fc_runs.specs.declared.answer_rows.Last.{Last}
use Rattle.fc_runs.proofs.RowLemmas.{end_kept, heard_floor, memory_row, part_kept, verdict_row}
use Rattle.fc_runs.proofs.answer_rows.plain_row.Goals as goal

pub returns-in-Ok : goal.returns-in-Ok
returns-in-Ok g c =
    let q = c.args.question.now in
    let b = c.args.start.now in
    let last = c.answer.new.listener in
    let nothing : Last = record { far = None } in
    let answered = c.in-Ok.ensures in
    record {
      row = verdict_row q b None c.in-Ok.answer.verdict last.far c.row_of.result
          record { budget = c.row_of.ensures.budget; told = c.row_of.ensures.told; list = c.row_of.ensures.list; far = c.row_of.ensures.far }
          answered.right tt (end_kept q.sought q b c.in-Ok.answer.verdict nothing last answered.ended)
          (heard_floor q.sought q b None last.far (part_kept q.sought q b nothing last c.answer.ensures.heard) tt);
    }

pub returns-in-Err : goal.returns-in-Err
returns-in-Err g c =
    let q = c.args.question.now in
    let b = c.args.start.now in
    let last = c.answer.new.listener in
    let nothing : Last = record { far = None } in
    record {
      row = memory_row q b None last.far c.row_of_memory.result
          record { budget = c.row_of_memory.ensures.budget; told = c.row_of_memory.ensures.told; list = c.row_of_memory.ensures.list; far = c.row_of_memory.ensures.far }
          tt (part_kept q.sought q b nothing last c.answer.ensures.heard)
          (heard_floor q.sought q b None last.far (part_kept q.sought q b nothing last c.answer.ensures.heard) tt);
    }
