use Rattle.std.proofs.Common.{◌≡◌, ℕ, ◌+◌, ◌<◌, ◌≤◌, List, length, get_or, ap, arith, inl, inr}
use Rattle.fc_words.specs.Weights.{SpellsTenths}
use Rattle.fc_words.proofs.weights.read_tenths.Goals as goal

-- the byte is no digit
abbrev IsNoDigit : ℕ → Type 0
IsNoDigit byte = (digit : ℕ) → byte ≡ 48 + digit → digit < 10 → ⊥

-- a text of one byte that is no digit spells nothing
none_alone : (text : List ℕ) → length text < 2 → IsNoDigit (get_or text 0 0) → (tenths : ℕ) → SpellsTenths text tenths → tenths < 10
none_alone text short other tenths (inl (whole, (lt, is), e)) = absurd (other whole (ap (λ l. get_or l 0 0) is) lt)
none_alone text short other tenths (inr (inl (whole, tenth, lw, lt, is, e))) = absurd (let size = ap length is in omega (arith, size, short))
none_alone text short other tenths (inr (inr (inl is, e))) = absurd (let size = ap length is in omega (arith, size, short))
none_alone text short other tenths (inr (inr (inr is, e))) = absurd (let size = ap length is in omega (arith, size, short))

-- nor does one of three bytes of which the first or the last is none
none_first : (text : List ℕ) → 3 ≤ length text → length text < 4 → IsNoDigit (get_or text 0 0) → (tenths : ℕ) → SpellsTenths text tenths
    → tenths < 10
none_first text long short other tenths (inl (whole, (lt, is), e)) = absurd (let size = ap length is in omega (arith, size, long))
none_first text long short other tenths (inr (inl (whole, tenth, lw, lt, is, e))) = absurd (other whole (ap (λ l. get_or l 0 0) is) lw)
none_first text long short other tenths (inr (inr (inl is, e))) = absurd (let size = ap length is in omega (arith, size, long))
none_first text long short other tenths (inr (inr (inr is, e))) = absurd (let size = ap length is in omega (arith, size, short))

none_last : (text : List ℕ) → 3 ≤ length text → length text < 4 → IsNoDigit (get_or text 2 0) → (tenths : ℕ) → SpellsTenths text tenths
    → tenths < 10
none_last text long short other tenths (inl (whole, (lt, is), e)) = absurd (let size = ap length is in omega (arith, size, long))
none_last text long short other tenths (inr (inl (whole, tenth, lw, lt, is, e))) = absurd (other tenth (ap (λ l. get_or l 2 0) is) lt)
none_last text long short other tenths (inr (inr (inl is, e))) = absurd (let size = ap length is in omega (arith, size, long))
none_last text long short other tenths (inr (inr (inr is, e))) = absurd (let size = ap length is in omega (arith, size, short))

pub returns-in_err-digit_of-in-len1-clause-none : goal.returns-in_err-digit_of-in-len1-clause-none
returns-in_err-digit_of-in-len1-clause-none c =
    rw c.from_residual.ensures (none_alone c.args.text.now c.in-len1.len_below c.in_err-digit_of-in-len1.ensures.none)

pub returns-in_err-digit_of-in-46-clause-none : goal.returns-in_err-digit_of-in-46-clause-none
returns-in_err-digit_of-in-46-clause-none c =
    rw c.from_residual-in_err-digit_of-in-46.ensures
    (none_first c.args.text.now c.in-46.len_at_least c.in-46.len_below c.in_err-digit_of-in-46.ensures.none)

pub returns-in_err-digit_of-in-46-2-clause-none : goal.returns-in_err-digit_of-in-46-2-clause-none
returns-in_err-digit_of-in-46-2-clause-none c =
    rw c.from_residual-in_err-digit_of-in-46-2.ensures
    (none_last c.args.text.now c.in-46.len_at_least c.in-46.len_below c.in_err-digit_of-in-46-2.ensures.none)
