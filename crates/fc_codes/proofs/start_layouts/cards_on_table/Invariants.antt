use Rattle.std.proofs.Common.{◌≡◌, ℕ, ◌<◌, ◌≤◌, get_or, cond, eqb}
use Rattle.std.specs.Int.{bit_at}
use Rattle.fc_codes.proofs.start_layouts.cards_on_table.Given as goal

-- the bits of the cards so far are told, and no others set
abbrev pub invariant-loop-index : goal.invariant-loop-index
invariant-loop-index l =
    ((c : ℕ) → c < l.index → bit_at l.deepest c ≡ cond (eqb (get_or l.beneath c 0) 52) 1 0) × ((c : ℕ) → l.index ≤ c → bit_at l.deepest c ≡ 0)
