-- Units and their bytes.
use Rattle.std.proofs.Common.{◌≡◌, ℕ, ◌+◌, ◌*◌, ◌-◌, ◌<◌, ◌≤◌, ◌==◌, ◌&&◌, ◌/◌, ◌%◌, None, List, [], ◌∷◌, length, refl, ◌∙◌, ap, arith}
use Rattle.std.specs.Prelude.{nat_lt}
use Rattle.std.proofs.lemmas.List.{length-append}
use Rattle.std.proofs.lemmas.Bool.{and_parts, cond_both, eqb-true, ne_eqb}
use Rattle.fc_typed.specs.declared.units.ByteOrder.{ByteOrder}
use Rattle.fc_typed.specs.declared.units.ByteOrder.TheVariants.{Little, Big}
use Rattle.fc_typed.specs.Tidy.{after_mark, sign_of, sign_or, without_signs}
use Rattle.fc_typed.specs.Unit.{in_bytes, is_half, unit_bytes, unit_of, units_bytes}

-- a unit stands for three bytes at most
unit_long : (unit : ℕ) → length (unit_bytes unit) ≤ 3
unit_long unit =
    cond_both (nat_lt unit 128) (unit ∷ []) _ (λ t. length t ≤ 3) (λ _. omega arith)
    (λ _. cond_both (nat_lt unit 2048) ((192 + unit / 64) ∷ (128 + unit % 64) ∷ []) _ (λ t. length t ≤ 3) (λ _. omega arith)
    (λ _. cond_both (is_half unit) (63 ∷ []) ((224 + unit / 4096) ∷ (128 + unit / 64 % 64) ∷ (128 + unit % 64) ∷ []) (λ t. length t ≤ 3)
    (λ _. omega arith) (λ _. omega arith)))

units_long : (order : ByteOrder) (units : List ℕ) → 2 * length (units_bytes order units) ≤ 3 * length units
units_long order [] = omega arith
units_long order (a ∷ []) = omega arith
units_long order (a ∷ b ∷ units) =
    let unit = unit_of order a b in
    omega (arith, unit_long unit, length-append (unit_bytes unit) (units_bytes order units), units_long order units)

-- a text in bytes has at most half as many bytes again
pub in_bytes_long : (text : List ℕ) → 2 * length (in_bytes text) ≤ 3 * length text
in_bytes_long [] = omega arith
in_bytes_long (a ∷ []) = omega arith
in_bytes_long (a ∷ b ∷ bytes) =
    let text = a ∷ b ∷ bytes in
    cond_both ((a == 255) && (b == 254)) (units_bytes Little bytes) _ (λ t. 2 * length t ≤ 3 * length text)
    (λ _. omega (arith, units_long Little bytes))
    (λ _. cond_both ((a == 254) && (b == 255)) (units_bytes Big bytes) text (λ t. 2 * length t ≤ 3 * length text)
    (λ _. omega (arith, units_long Big bytes)) (λ _. omega arith))

-- a first byte past 250 is no sign, and stays
mark_high : (a : ℕ) (bytes : List ℕ) → 250 < a → after_mark (a ∷ bytes) ≡ a ∷ bytes
mark_high a [] high = refl
mark_high a (b ∷ []) high = refl
mark_high a (b ∷ c ∷ bytes) high = let other = ne_eqb a 239 (λ e. omega (arith, e, high)) in rw other refl

sign_high : (a : ℕ) (bytes : List ℕ) → 250 < a → sign_of (a ∷ bytes) ≡ None
sign_high a [] high = refl
sign_high a (c ∷ []) high = let other = ne_eqb a 194 (λ e. omega (arith, e, high)) in rw other refl
sign_high a (c ∷ d ∷ bytes) high =
    let one = ne_eqb a 226 (λ e. omega (arith, e, high)) in
    let two = ne_eqb a 194 (λ e. omega (arith, e, high)) in rw (one, two) refl

pub high_stays : (a : ℕ) (bytes : List ℕ) → 250 < a → without_signs 0 (after_mark (a ∷ bytes)) ≡ a ∷ without_signs 0 bytes
high_stays a bytes high =
    ap (without_signs 0) (mark_high a bytes high)
    ∙ ap (λ s. (sign_or a s).0 ∷ without_signs ((sign_or a s).1 - 1) bytes) (sign_high a bytes high)

-- a text without such a first byte is in bytes already
pub in_bytes_stays : (text : List ℕ) → ((a : ℕ) (bytes : List ℕ) → text ≡ a ∷ bytes → 250 < a → ⊥) → in_bytes text ≡ text
in_bytes_stays [] low = refl
in_bytes_stays (a ∷ []) low = refl
in_bytes_stays (a ∷ b ∷ bytes) low =
    let text = a ∷ b ∷ bytes in
    cond_both ((a == 255) && (b == 254)) (units_bytes Little bytes) _ (λ t. t ≡ text)
    (λ is. let here : a ≡ 255 = eqb-true a 255 (and_parts (a == 255) (b == 254) is).0 in
    absurd (low a (b ∷ bytes) refl (omega (arith, here))))
    (λ _. cond_both ((a == 254) && (b == 255)) (units_bytes Big bytes) text (λ t. t ≡ text)
    (λ is. let here : a ≡ 254 = eqb-true a 254 (and_parts (a == 254) (b == 255) is).0 in
    absurd (low a (b ∷ bytes) refl (omega (arith, here))))
    (λ _. refl))
