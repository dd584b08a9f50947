use Rattle.std.proofs.Common.{◌≡◌, ℕ, ◌<◌, length, get_or, take}
use Rattle.std.specs.Prelude.{fold}
use Rattle.fc_codes.specs.Spelled.{under}
use Rattle.fc_codes.proofs.start_layouts.Layout.new.Given as goal

-- the table tells what the cards lie on in the columns so far
abbrev pub invariant-loop-i : goal.invariant-loop-i
invariant-loop-i l =
    (length l.beneath ≡ 52) × ((c : ℕ) → c < 52 → get_or l.beneath c 0 ≡ fold (λ other cards. under 52 other cards c) 53 (take l.i l.start.columns))
