use Rattle.std.proofs.Common.{◌+◌, ◌-◌, refl, arith}
use Rattle.fc_canonical.specs.inner.Parts.{times_in}
use Rattle.fc_canonical.proofs.CheckLemmas.{none_first, early_first, over_first, columns_more, refused}
use Rattle.fc_canonical.proofs.checks.are_columns.Goals as goal

pub returns-in_default : goal.returns-in_default
returns-in_default c = record {
  value = refused c.loop.invariant.0
      (none_first (times_in c.loop.cards) c.loop.last (8 - c.loop.counter) c.loop.rest.now (omega arith) c.in_default.ensures.none);
}

pub returns-then-order-last : goal.returns-then-order-last
returns-then-order-last c = record {
  value = refused c.loop.invariant.0
      (early_first (times_in c.loop.cards) c.loop.last (8 - c.loop.counter) c.loop.rest.now c.in-Some.column.now c.in-Some.after.now
      (omega arith) c.in-Some.ensures.found (omega arith));
}

pub returns-then-not-insert_all : goal.returns-then-not-insert_all
returns-then-not-insert_all c = record {
  value = refused c.loop.invariant.0
      (over_first (times_in c.loop.cards) c.loop.last (8 - c.loop.counter) c.loop.rest.now c.in-Some.column.now c.in-Some.after.now
      (omega arith) c.in-Some.ensures.found (c.if-not-insert_all.ensures.refused refl));
}

pub loop-preserved : goal.loop-preserved
loop-preserved c =
    columns_more (times_in c.loop.cards) (times_in c.insert_all.new.self) c.loop.last (8 - c.loop.counter)
    (8 - (c.loop.counter + 1)) c.order_of_cards-order.result c.loop.rest.now c.in-Some.column.now c.in-Some.after.now
    c.loop.invariant (omega arith) c.in-Some.ensures.found c.order_of_cards-order.ensures.value c.if-order-last.false
    (c.if-not-insert_all.ensures.added refl)
