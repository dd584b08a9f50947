use Rattle.std.proofs.Common.{◌≡◌, ◌≤◌, length, List}
use Rattle.fc_best_first.specs.Kept.{AreNoted}
use Rattle.fc_best_first.specs.Store.{Store, weighed_cost}
use Rattle.fc_best_first.specs.Turn.{Expands}
use Rattle.fc_best_first.specs.inner.Turn.{AreReached, IsLaterNear, put_off_first}
use Rattle.fc_best_first.specs.declared.spaces.Child.{Child}
use Rattle.fc_best_first.specs.declared.turns.Placing.{Placing}
use Rattle.fc_best_first.specs.declared.turns.Placing.TheVariants.{Whole}
use Rattle.fc_best_first.proofs.turns.expand.Given as goal

abbrev pub invariant-loop-cost : goal.invariant-loop-cost
invariant-loop-cost g l = record {
  owned : g.S.Space.owns l.space l.walk;
  room : length l.book.stored ≤ l.strategy.budget;
  noted : AreNoted (g.S.Space.graph l.space) l.book;
  near : IsLaterNear {K = g.row.K.Denot} l.strategy.expansion l.taken.f (weighed_cost l.strategy l.taken.origin) (put_off_first l.later Whole);
  reached : (children : List (Child g.row.K.Denot)) → g.S.Space.rest l.walk children → AreReached (g.S.Space.graph l.space) children;
  onward : (new : Store g.row.K.Denot) (placing : Placing g.row.K.Denot) (children : List (Child g.row.K.Denot))
      → g.S.Space.rest l.walk children
      → Expands (record { graph = g.S.Space.graph l.space; strategy = l.strategy; limit = l.taken.limit }) l.taken.f l.taken.origin children l.book new placing
      → (all : List (Child g.row.K.Denot)) × (own : Placing g.row.K.Denot) × g.S.Space.rest l.fn.walk all
      × Expands (record { graph = g.S.Space.graph l.space; strategy = l.strategy; limit = l.taken.limit }) l.taken.f l.taken.origin all l.initial.book new own
      × (put_off_first l.later placing ≡ put_off_first l.fn.others own);
}

abbrev pub decreases-loop-cost : goal.decreases-loop-cost
decreases-loop-cost g l = g.S.Space.left l.walk
