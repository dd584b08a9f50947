use Rattle.fc_bound.proofs.OverTable.{moved_all, table_but}
use Rattle.fc_space.proofs.lookups.Lookup.new.Goals as goal

pub returns-clause-lookup : goal.returns-clause-lookup
returns-clause-lookup c =
    let s = c.args.start.now in
    let b = c.args.position.now in
    let moved = moved_all s b c.new.ensures.whole c.new-2.ensures.whole in
    record {
      whole = c.new.ensures.whole;
      start = c.new.ensures.table;
      over = table_but s b c.new-2.result 18446744073709551615 c.new.ensures.whole c.new-2.ensures.table moved;
      table = λ _. c.new-2.ensures.table;
      moved = λ _. moved;
    }
