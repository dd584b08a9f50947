use Rattle.std.proofs.Common.{◌+◌, ◌-◌, ◌++◌, sym, ◌∙◌, ap, subst}
use Rattle.std.specs.List.{flat_map}
use Rattle.fc_cert.specs.Content.{record_bytes}
use Rattle.fc_cert.specs.inner.Layout.{AreRecords}
use Rattle.fc_cert.proofs.RecordLemmas.{end_of_first, first_left, no_longer}
use Rattle.fc_cert.proofs.certificates.ends_of.Goals as goal

pub after_record-rest-requires : goal.after_record-rest-requires
after_record-rest-requires c =
    let left = c.loop.invariant.ends c.requires.rows.0 c.requires.rows.1 in
    let first = first_left c.args.head.cells c.args.head.kind c.loop.rest.now c.args.count c.loop.counter left.0 c.loop-test.true left.1 in
    record { «record» = (first.row, flat_map record_bytes first.others, first.is, first.parts) }

pub overflow_sub-records : goal.overflow_sub-records
overflow_sub-records c =
    let left = c.loop.invariant.ends c.requires.rows.0 c.requires.rows.1 in
    let first = first_left c.args.head.cells c.args.head.kind c.loop.rest.now c.args.count c.loop.counter left.0 c.loop-test.true left.1 in
    let after = c.after_record-rest.ensures.value first.row (flat_map record_bytes first.others) first.is first.parts in
    no_longer c.args.records.now c.loop.rest.now c.after_record-rest.result.now first.row c.loop.invariant.shorter
    (first.parts ∙ ap (λ l. record_bytes first.row ++ l) (sym after))

pub loop-preserved : goal.loop-preserved
loop-preserved c = record {
  shorter =
      let left = c.loop.invariant.ends c.requires.rows.0 c.requires.rows.1 in
      let first = first_left c.args.head.cells c.args.head.kind c.loop.rest.now c.args.count c.loop.counter left.0 c.loop-test.true left.1 in
      let after = c.after_record-rest.ensures.value first.row (flat_map record_bytes first.others) first.is first.parts in
      no_longer c.args.records.now c.loop.rest.now c.after_record-rest.result.now first.row c.loop.invariant.shorter
      (first.parts ∙ ap (λ l. record_bytes first.row ++ l) (sym after));
  ends = λ rows are.
      let left = c.loop.invariant.ends rows are in
      let first = first_left c.args.head.cells c.args.head.kind c.loop.rest.now c.args.count c.loop.counter left.0 c.loop-test.true left.1 in
      let after = c.after_record-rest.ensures.value first.row (flat_map record_bytes first.others) first.is first.parts in
      let parts = first.parts ∙ ap (λ l. record_bytes first.row ++ l) (sym after) in (
        first.others,
        subst (λ l. AreRecords c.args.head.cells c.args.head.kind l (c.args.count - (c.loop.counter + 1)) first.others) (sym after) first.rest,
        end_of_first c.args.records.now c.loop.rest.now c.after_record-rest.result.now c.loop.ends.items first.row first.others left.0
            _ c.push.new.self.items c.loop.invariant.shorter first.left_are parts left.2 c.in_ok-push.ensures.items,
      );
}
