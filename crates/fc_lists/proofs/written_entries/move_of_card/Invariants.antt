use Rattle.std.proofs.Common.{◌<◌, ℕ, get_or}
use Rattle.fc_moves.specs.declared.steps.Move.{Move}
use Rattle.fc_lists.specs.Weaving.{IsEntryFor}
use Rattle.fc_lists.specs.declared.written_entries.Entry.TheVariants as entry
use Rattle.fc_lists.proofs.written_entries.move_of_card.Given as goal

-- no move so far takes the card there
abbrev pub invariant-loop-m : goal.invariant-loop-m
invariant-loop-m g l = (j : ℕ) (d : Move) → j < l.m-index → IsEntryFor l.position (entry.Card l.card l.to) (get_or l.m-items j d) → ⊥
