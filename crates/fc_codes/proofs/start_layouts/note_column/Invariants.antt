use Rattle.std.proofs.Common.{◌≡◌, ℕ, ◌<◌, get_or, drop}
use Rattle.fc_codes.specs.Spelled.{under}
use Rattle.fc_codes.proofs.start_layouts.note_column.Given as goal

-- with the cards that are left, the table tells what it is to tell in the end
abbrev pub invariant-loop-card : goal.invariant-loop-card
invariant-loop-card l =
    (c : ℕ) → c < 52 → under l.last (get_or l.beneath c 0) (drop l.card-index l.cards) c ≡ under 52 (get_or l.fn.beneath c 0) l.cards c
