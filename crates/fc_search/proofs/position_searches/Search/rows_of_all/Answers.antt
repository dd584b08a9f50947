use Rattle.std.proofs.Common.{◌+◌, ◌≤◌, length, take, sym, ◌∙◌, ap, subst, arith}
use Rattle.std.specs.Prelude.{All}
use Rattle.std.proofs.lemmas.List.Elements.{All-push}
use Rattle.fc_answers.specs.Table.{IsRowOf, pairs_by}
use Rattle.fc_answers.specs.inner.Table.{at_no_cost}
use Rattle.fc_search.specs.inner.Stored.{costs_of}
use Rattle.fc_search.proofs.RowLemmas.{looked, one_more}
use Rattle.fc_search.proofs.position_searches.Search.rows_of_all.Goals as goal

pub loop-number-preserved : goal.loop-number-preserved
loop-number-preserved g c =
    let now = c.args.self.now in
    let costs = costs_of now.problem.start now.store in
    let number = c.loop-number.number in (
      subst (All (IsRowOf now.problem.start)) (sym c.in_ok-push.ensures.items)
          (All-push (IsRowOf now.problem.start) c.loop-number.rows.items c.free_row.result c.loop-number.invariant.0 c.free_row.ensures.coded),
      ap (pairs_by now.problem.start) c.in_ok-push.ensures.items
          ∙ one_more now.problem.start c.loop-number.rows.items c.free_row.result (at_no_cost (take number costs)) (at_no_cost (take (number + 1) costs))
          c.loop-number.invariant.1 c.free_row.ensures.row,
    )

pub returns : goal.returns
returns g c =
    let now = c.args.self.now in
    let size = c.count-number-end.ensures.value in
    let past : length now.store.stored ≤ c.loop-number.number = let end = c.loop-number-test.false in omega (arith, size, end) in
    record { coded = c.loop-number.invariant.0; rows = c.loop-number.invariant.1 ∙ ap at_no_cost (looked now.problem.start now.store c.loop-number.number past) }
