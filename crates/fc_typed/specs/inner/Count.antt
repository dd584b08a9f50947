-- Counts as people type them, within the crate.
use Rattle.std.specs.Prelude.{◌≡◌, ℕ, ◌⊎◌}
use Rattle.fc_typed.specs.Count.{IsDigit}

-- the byte may stand in a number: a digit, or an underscore
abbrev pub IsNumberByte : ℕ → Type 0
IsNumberByte b = IsDigit b ⊎ (b ≡ 95)
