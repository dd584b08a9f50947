use Rattle.std.proofs.Common.{◌∙◌, List, refl, rules, IsTrue, OnErr}
use Rattle.fc_board_runs.specs.Devices.{Device}
use Rattle.fc_runs.specs.Tabling.{DealRow, HearsRows, IsTableCutShort}
use Rattle.fc_runs.proofs.TablingLemmas.{names_cut_short, none_written, one_more_written, row_cut_short}
use Rattle.fc_runs.proofs.tabling.write_table.Goals as goal

pub returns-in_err-write_all-clause-cut : goal.returns-in_err-write_all-clause-cut
returns-in_err-write_all-clause-cut g c =
    let sink : Device = record {
      old = g.K.Sink.held c.args.out.now;
      new = g.K.Sink.held c.write_all.new.sink;
      failed = g.K.Sink.has_failed c.write_all.new.sink;
    } in
    let hears : List DealRow → Type 0 = HearsRows g.L.RowListener.hears c.args.listener.now c.args.listener.now in
    let failed : IsTrue sink.failed = search rules in
    let short : IsTableCutShort c.args.question.now c.args.from c.args.count sink hears =
    names_cut_short c.args.question.now c.args.from c.args.count sink hears
    c.as_bytes.result.now (c.as_bytes.ensures.value ∙ c.table_head.ensures.value) (search rules) failed refl in
    let cut : OnErr c.from_residual.result (IsTableCutShort c.args.question.now c.args.from c.args.count sink hears) =
    search rules in
    cut

pub returns-in_default-clause-cut : goal.returns-in_default-clause-cut
returns-in_default-clause-cut g c =
    let sink : Device = record {
      old = g.K.Sink.held c.args.out.now;
      new = g.K.Sink.held c.write_all-in-loop-i.new.sink;
      failed = g.K.Sink.has_failed c.write_all-in-loop-i.new.sink;
    } in
    let hears : List DealRow → Type 0 = HearsRows g.L.RowListener.hears c.args.listener.now c.loop-i.listener in
    let failed : IsTrue sink.failed = search rules in
    row_cut_short c.args.question.now c.args.from c.loop-i.i c.args.count
    (g.K.Sink.held c.loop-i.out) sink hears c.loop-i.greatest c.deal_row-row.result c.loop-i.invariant.so_far c.deal_row-row.ensures.row
    (search rules) c.loop-i-test.true failed

pub loop-i-init : goal.loop-i-init
loop-i-init g c = record {
  so_far = none_written c.args.question.now c.args.from (g.K.Sink.held c.args.out.now) (g.K.Sink.held c.write_all.new.sink)
      (HearsRows g.L.RowListener.hears c.args.listener.now c.args.listener.now)
      c.as_bytes.result.now (c.as_bytes.ensures.value ∙ c.table_head.ensures.value) (search rules) refl;
  sound = search rules;
}

pub loop-i-preserved : goal.loop-i-preserved
loop-i-preserved g c = record {
  so_far = one_more_written g.L.RowListener.hears c.args.listener.now c.loop-i.listener c.hear_row.new.self
      c.args.question.now c.args.from c.loop-i.i
      (g.K.Sink.held c.args.out.now) (g.K.Sink.held c.loop-i.out) (g.K.Sink.held c.write_all-in-loop-i.new.sink) c.loop-i.greatest c.max-greatest.result
      c.deal_row-row.result c.loop-i.invariant.so_far c.deal_row-row.ensures.row (search rules) c.hear_row.ensures.heard (search rules);
  sound = search rules;
}
