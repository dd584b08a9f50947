-- Counts as people type them.
use Rattle.std.specs.Prelude.{◌≡◌, ℕ, ◌+◌, ◌-◌, ◌*◌, ◌^◌, ◌≤◌, ◌⊎◌, List, [], ◌∷◌, ◌++◌}

-- the byte is a decimal digit
abbrev pub IsDigit : ℕ → Type 0
IsDigit b = (48 ≤ b) × (b ≤ 57)

-- digits, among which underscores say nothing, tell a number, where those before them tell this one
abbrev pub SpellsDigits : ℕ → List ℕ → ℕ → Type 0
SpellsDigits before [] n = n ≡ before
SpellsDigits before (b ∷ bytes) n = (IsDigit b × SpellsDigits (10 * before + (b - 48)) bytes n)
    ⊎ ((b ≡ 95) × SpellsDigits before bytes n)

-- a text spells a number: a digit, and digits behind it
abbrev pub SpellsNumber : List ℕ → ℕ → Type 0
SpellsNumber [] n = ⊥
SpellsNumber (b ∷ bytes) n = IsDigit b × SpellsDigits (b - 48) bytes n

-- how many noughts a unit stands for: none without one, three for `k`, six for `M`, and the number behind `e`
abbrev pub SpellsUnit : List ℕ → ℕ → Type 0
SpellsUnit [] zeros = zeros ≡ 0
SpellsUnit (b ∷ bytes) zeros = (((b ≡ 107) ⊎ (b ≡ 75)) × (bytes ≡ []) × (zeros ≡ 3))
    ⊎ ((((b ≡ 109) ⊎ (b ≡ 77)) × (bytes ≡ []) × (zeros ≡ 6))
    ⊎ (((b ≡ 101) ⊎ (b ≡ 69)) × SpellsNumber bytes zeros))

-- a text spells a count: a number, and the noughts of its unit
abbrev pub SpellsTypedCount : List ℕ → ℕ → Type 0
SpellsTypedCount text n = (number : List ℕ) × (unit : List ℕ) × (m : ℕ) × (zeros : ℕ) × (text ≡ number ++ unit)
    × SpellsNumber number m × SpellsUnit unit zeros × (n ≡ m * 10 ^ zeros)
