use Rattle.std.proofs.Common.{◌≡◌, length}
use Rattle.fc_notes.specs.Listed.{IsCountable, boards_left}
use Rattle.fc_notes.proofs.files.ListedBoardsIterator.next.Given as goal

-- what was passed is no board
abbrev pub invariant-loop-above : goal.invariant-loop-above
invariant-loop-above l = record {
  left : boards_left l.self ≡ boards_left l.initial.self;
  countable : IsCountable l.self;
}

abbrev pub decreases-loop-above : goal.decreases-loop-above
decreases-loop-above l = length l.self.rest.now
