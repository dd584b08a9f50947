use Rattle.std.proofs.Common.{rules, ◌≡◌, ◌+◌, arith, subst, IsTrue}
use Rattle.fc_board_runs.specs.Devices.{Device}
use Rattle.fc_runs.specs.Batches.{IsRightOf}
use Rattle.fc_runs.proofs.BatchLemmas.{AreWritten, all_told, cut_short, one_more_written}
use Rattle.fc_runs.proofs.deal_batches.write_lines.Goals as goal

pub returns-in_default-clause-cut : goal.returns-in_default-clause-cut
returns-in_default-clause-cut g c = λ q held ended.
    let sink : Device = record { old = g.K.Sink.held c.args.out.now; new = g.K.Sink.held c.write_all.new.sink; failed = g.K.Sink.has_failed c.write_all.new.sink } in
    let within = c.loop-i-test.true in
    let found = held c.loop-i.i within in
    let failed : IsTrue sink.failed = search rules in
    cut_short (IsRightOf q) c.args.from c.loop-i.i c.args.count (g.K.Sink.held c.loop-i.out) sink c.loop-i.greatest c.told_of-told.result c.as_bytes.result.now
    (c.loop-i.invariant.so_far q held ended)
    (c.told_of-told.ensures.told q (c.args.from + c.loop-i.i) found.0 found.1 found.2 (ended c.loop-i.i found.0 within found.1))
    (search rules) c.write_all.ensures.front within failed

pub loop-i-preserved : goal.loop-i-preserved
loop-i-preserved g c = record {
  so_far = λ q held ended.
      let within = c.loop-i-test.true in
      let found = held c.loop-i.i within in
      one_more_written (IsRightOf q) c.args.from c.loop-i.i (g.K.Sink.held c.args.out.now) (g.K.Sink.held c.loop-i.out) (g.K.Sink.held c.write_all.new.sink)
      c.loop-i.greatest c.told_of-told.result c.as_bytes.result.now c.max-greatest.result
      (c.loop-i.invariant.so_far q held ended)
      (c.told_of-told.ensures.told q (c.args.from + c.loop-i.i) found.0 found.1 found.2 (ended c.loop-i.i found.0 within found.1))
      (search rules) c.in-Ok.ensures.whole (search rules);
  sound = search rules;
}

pub returns-clause-told : goal.returns-clause-told
returns-clause-told g c = λ q held ended.
    let sink : Device = record { old = g.K.Sink.held c.args.out.now; new = g.K.Sink.held c.loop-i.out; failed = g.K.Sink.has_failed c.loop-i.out } in
    let all : c.loop-i.i ≡ c.args.count = omega arith in
    let some = c.requires.some in
    all_told (IsRightOf q) c.args.from c.args.count sink c.loop-i.greatest
    (subst (λ count. AreWritten (IsRightOf q) c.args.from count sink.old sink.new c.loop-i.greatest) all
    (c.loop-i.invariant.so_far q held ended))
    (c.loop-i.invariant.sound (omega (arith, some, all)))
