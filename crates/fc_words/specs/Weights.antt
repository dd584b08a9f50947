-- Texts that spell weights.
use Rattle.std.specs.Prelude.{◌≡◌, ℕ, ◌+◌, ◌*◌, ◌<◌, ◌⊎◌, List, [], ◌∷◌, codes}

-- the text is a digit of this value
abbrev pub SpellsWhole : List ℕ → ℕ → Type 0
SpellsWhole text whole = (whole < 10) × (text ≡ (48 + whole) ∷ [])

-- the text is a digit, a point and a digit, which spell so many tenths
abbrev pub SpellsParted : List ℕ → ℕ → Type 0
SpellsParted text tenths = (whole : ℕ) × (tenth : ℕ) × (whole < 10) × (tenth < 10)
    × (text ≡ (48 + whole) ∷ 46 ∷ (48 + tenth) ∷ []) × (tenths ≡ 10 * whole + tenth)

-- the text spells so many tenths: it is a digit, or two parted by a point, or ten
abbrev pub SpellsTenths : List ℕ → ℕ → Type 0
SpellsTenths text tenths = ((whole : ℕ) × SpellsWhole text whole × (tenths ≡ 10 * whole))
    ⊎ (SpellsParted text tenths ⊎ (((text ≡ codes "10") ⊎ (text ≡ codes "10.0")) × (tenths ≡ 100)))
