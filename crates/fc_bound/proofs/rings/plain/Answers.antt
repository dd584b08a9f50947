use Rattle.std.proofs.Common.{◌≡◌, ◌+◌, arith}
use Rattle.std.specs.Prelude.{count_ones}
use Rattle.fc_bound.specs.Bound.{bound, is_away, is_held_back}
use Rattle.fc_bound.proofs.CountLemmas.{count-most}
use Rattle.fc_bound.proofs.FamilyShown.{held_ones, shown_plain}
use Rattle.fc_bound.proofs.rings.plain.Goals as goal

pub overflow_add-result : goal.overflow_add-result
overflow_add-result c =
    let b = c.args.position.now in
    omega (
      arith,
      c.away.ensures.value,
      count-most (is_away b),
      count-most (is_held_back b),
      held_ones b c.args.table.now c.away.ensures.whole c.requires.table,
    )

pub returns-clause-number : goal.returns-clause-number
unfolding bound
returns-clause-number c =
    omega (arith, c.away.ensures.value, held_ones c.args.position.now c.args.table.now c.away.ensures.whole c.requires.table)

pub returns-clause-shown : goal.returns-clause-shown
unfolding bound
returns-clause-shown c =
    let b = c.args.position.now in
    let is : c.away.result + count_ones c.args.table.now.marks.held ≡ bound b =
    omega (arith, c.away.ensures.value, held_ones b c.args.table.now c.away.ensures.whole c.requires.table) in
    shown_plain b (c.away.result + count_ones c.args.table.now.marks.held) 0 is
