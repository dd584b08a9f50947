use Rattle.std.proofs.Common.{◌≤◌, ℕ, List}
use Rattle.fc_review.specs.Review.{SaysAll, first_behind}
use Rattle.fc_review.specs.declared.known_boards.KnownBoard.{KnownBoard}
use Rattle.fc_review.specs.inner.Span.{IsSpan, left_of}
use Rattle.fc_review.proofs.judges.trace.Given as goal

-- what is known is what the boards say that were asked, and the others may still be asked
abbrev pub invariant-loop-after : goal.invariant-loop-after
invariant-loop-after g l = record {
  can : (n : ℕ) → n ≤ l.count → g.J.Judge.can l.judge n;
  known : (asked : List KnownBoard) × SaysAll g.J.Judge.says l.fn.judge asked l.judge × IsSpan asked l.count l.span.won l.span.between l.span.lost;
}

-- so many boards are left to be asked
abbrev pub decreases-loop-after : goal.decreases-loop-after
decreases-loop-after g l = left_of (first_behind l.span.won) l.span.between l.span.lost
