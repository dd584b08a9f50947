use Rattle.std.proofs.Common.{◌+◌, ◌≤◌, ℕ, drop}
use Rattle.fc_best.proofs.TailLemmas.{OnTheWay}
use Rattle.fc_review.specs.inner.Goers.{GoByThemselves}
use Rattle.fc_review.proofs.hands.goers.Given as goal

-- the moves so far were made, the others run on, and those of them that go by themselves come to those that are counted
abbrev pub invariant-loop-m : goal.invariant-loop-m
invariant-loop-m g l = record {
  way : OnTheWay (g.G.Game.game l.game) l.start l.moves (drop l.m-index l.moves) l.board;
  within : l.count ≤ l.m-index;
  counted : (n : ℕ) → GoByThemselves l.rule (g.G.Game.game l.game) l.board (drop l.m-index l.moves) n
      → GoByThemselves l.rule (g.G.Game.game l.game) l.start l.moves (l.count + n);
}
