-- Texts in units of two bytes (UTF-16), and the bytes (UTF-8) that they stand for.
use Rattle.std.specs.Prelude.{ℕ, ◌+◌, ◌*◌, ◌/◌, ◌%◌, ◌==◌, ◌&&◌, Bool, cond, List, [], ◌∷◌, ◌++◌, nat_lt}
use Rattle.fc_typed.specs.declared.units.ByteOrder.{ByteOrder}
use Rattle.fc_typed.specs.declared.units.ByteOrder.TheVariants.{Little, Big}

-- a unit from its two bytes, the low one first or the high one
abbrev pub unit_of : ByteOrder → ℕ → ℕ → ℕ
unit_of Little a b = 256 * b + a
unit_of Big a b = 256 * a + b

-- a unit is a half of a pair, U+D800 to U+DFFF
abbrev pub is_half : ℕ → Bool
is_half unit = nat_lt 55295 unit && nat_lt unit 57344

-- the bytes that a unit stands for, a question mark for a half of a pair
abbrev pub unit_bytes : ℕ → List ℕ
unit_bytes unit = cond (nat_lt unit 128) (unit ∷ [])
    (cond (nat_lt unit 2048) ((192 + unit / 64) ∷ (128 + unit % 64) ∷ [])
    (cond (is_half unit) (63 ∷ [])
    ((224 + unit / 4096) ∷ (128 + unit / 64 % 64) ∷ (128 + unit % 64) ∷ [])))

-- the bytes that units stand for, a question mark for a byte that is left alone at the end
abbrev pub units_bytes : ByteOrder → List ℕ → List ℕ
units_bytes order [] = []
units_bytes order (a ∷ []) = 63 ∷ []
units_bytes order (a ∷ b ∷ bytes) = unit_bytes (unit_of order a b) ++ units_bytes order bytes

-- a text that begins with the mark of byte order in two bytes, FF FE or FE FF, is in units
abbrev pub in_bytes : List ℕ → List ℕ
in_bytes (a ∷ b ∷ bytes) = cond ((a == 255) && (b == 254)) (units_bytes Little bytes)
    (cond ((a == 254) && (b == 255)) (units_bytes Big bytes) (a ∷ b ∷ bytes))
in_bytes bytes = bytes
