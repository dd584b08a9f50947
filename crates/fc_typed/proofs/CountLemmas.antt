-- Numbers told as the greatest one where they are past it, and the counts that a text spells.
use Rattle.std.proofs.Common.{◌≡◌, ℕ, zero, suc, ◌+◌, ◌-◌, ◌*◌, ◌^◌, ◌<◌, ◌≤◌, ◌⊎◌, min, List, [], ◌∷◌, ◌++◌, length, get_or, take, drop, Some, refl, sym, ◌∙◌, ap, subst, inl, inr, ⊎_elim, arith}
use Rattle.std.specs.Prelude.{slice_get}
use Rattle.std.proofs.lemmas.Bool.{cases_lt, cases_order}
use Rattle.std.proofs.lemmas.List.{drop_more, drop_all, take_at, drop_at, take-append-drop, get_or_append_left, get_or_at, length-append}
use Rattle.std.proofs.lemmas.Grind.{pow_more}
use Rattle.std.proofs.Math.Nat.{mul-le-mul_left, one-le-pow, pow-le-pow_right}
use Rattle.fc_typed.specs.Count.{IsDigit, SpellsDigits, SpellsNumber, SpellsUnit, SpellsTypedCount}
use Rattle.fc_typed.specs.inner.Count.{IsNumberByte}

-- a product of a number that was capped is the product, once capped
capped_times : (top m p : ℕ) → 1 ≤ p → min (min m top * p) top ≡ min (m * p) top
capped_times top m p some =
    let one = mul-le-mul_left top some in
    let two = mul-le-mul_left m some in
    ⊎_elim
    (λ past. let e : min m top ≡ top = omega arith in
    ap (λ k. min (k * p) top) e ∙ omega (arith, one, two))
    (λ within. let e : min m top ≡ m = omega arith in ap (λ k. min (k * p) top) e)
    (cases_lt top m)

-- one more nought behind a number
pub zeros_next : (top value n x : ℕ) → x ≡ min (value * 10 ^ n) top → min (x * 10) top ≡ min (value * 10 ^ (n + 1)) top
zeros_next top value n x e =
    ap (λ k. min (k * 10) top) e ∙ capped_times top (value * 10 ^ n) 10 (omega arith)
    ∙ ap (λ k. min k top) (omega (arith, ap (λ k. value * k) (pow_more 10 n)))

-- where both factors pass the cap, so do both products, unless they are of zero
past_both : (top p q m : ℕ) → top ≤ p → top ≤ q → min (min m top * p) top ≡ min (m * q) top
past_both top p q zero a b =
    let none : min 0 top ≡ 0 = omega arith in ap (λ k. min (k * p) top) none ∙ omega arith
past_both top p q (suc m) a b =
    ⊎_elim
    (λ some.
    let one = mul-le-mul_left p (let h : 1 ≤ min (suc m) top = omega arith in h) in
    let two = mul-le-mul_left q (let h : 1 ≤ suc m = omega arith in h) in
    omega (arith, one, two))
    (λ none. omega arith)
    (cases_lt 0 top)

-- ten noughts stand for all counts of noughts past them
pub zeros_all : (top m n value count last x : ℕ) → top < 10 ^ 10 → 10 < top → x ≡ min (value * 10 ^ last) top
    → last ≡ min count 10 → value ≡ min m top → count ≡ min n top → x ≡ min (m * 10 ^ n) top
zeros_all top m n value count last x large least told ends v z =
    told ∙ ap (λ k. min (k * 10 ^ last) top) v ∙ ⊎_elim
    (λ few.
    let e : last ≡ n = omega arith in
    ap (λ k. min (min m top * 10 ^ k) top) e ∙ capped_times top m (10 ^ n) (one-le-pow n 10 (omega arith)))
    (λ past.
    let e : last ≡ 10 = omega arith in
    let more = pow-le-pow_right {n = 10} (omega arith) past in
    ap (λ k. min (min m top * 10 ^ k) top) e ∙ past_both top (10 ^ 10) (10 ^ n) m (omega arith) (omega (arith, more)))
    (cases_lt n 10)

-- what the reader of a number keeps: the bytes so far tell a number, and the others are left
pub record NumberSoFar (top : ℕ) (text rest : List ℕ) (value : ℕ) : Type 0 where
  pub told : ℕ
  pub capped : value ≡ min told top
  pub spells : (m : ℕ) → SpellsDigits told rest m → SpellsNumber text m
  pub only : (m : ℕ) → SpellsNumber text m → SpellsDigits told rest m

-- before the first byte, a digit
pub number_none : (top : ℕ) (text : List ℕ) (b : ℕ) → Some b ≡ slice_get text 0 → IsDigit b → NumberSoFar top text text 0
number_none top [] b first digit = absurd (cc first)
number_none top (x ∷ bytes) b first digit =
    let here : b ≡ x = cc first in
    let same : 10 * 0 + (x - 48) ≡ x - 48 = omega arith in
    record {
      told = 0;
      capped = omega arith;
      spells = λ m. ⊎_elim (λ d. (d.0, subst (λ k. SpellsDigits k bytes m) same d.1)) (λ u. absurd (omega (arith, here, digit.1, u.0)));
      only = λ m s. inl (s.0, subst (λ k. SpellsDigits k bytes m) (sym same) s.1);
    }

-- one more digit
pub number_digit : (top : ℕ) (text : List ℕ) (i value new : ℕ) → i < length text → NumberSoFar top text (drop i text) value
    → IsDigit (get_or text i 0) → new ≡ min (min (value * 10) top + (get_or text i 0 - 48)) top
    → NumberSoFar top text (drop (i + 1) text) new
number_digit top text i value new within so digit e =
    let b = get_or text i 0 in
    let next = drop_more text i 0 within in
    record {
      told = 10 * so.told + (b - 48);
      capped = omega (arith, so.capped, e);
      spells = λ m s. so.spells m (subst (λ r. SpellsDigits so.told r m) (sym next) (inl (digit, s)));
      only = λ m s. ⊎_elim (λ d. d.1) (λ u. absurd (omega (arith, digit.1, u.0)))
          (subst (λ r. SpellsDigits so.told r m) next (so.only m s));
    }

-- an underscore
pub number_underscore : (top : ℕ) (text : List ℕ) (i value new : ℕ) → i < length text → NumberSoFar top text (drop i text) value
    → get_or text i 0 ≡ 95 → new ≡ value → NumberSoFar top text (drop (i + 1) text) new
number_underscore top text i value new within so mark e =
    let next = drop_more text i 0 within in
    record {
      told = so.told;
      capped = e ∙ so.capped;
      spells = λ m s. so.spells m (subst (λ r. SpellsDigits so.told r m) (sym next) (inr (mark, s)));
      only = λ m s. ⊎_elim (λ d. absurd (omega (arith, mark, d.0.1))) (λ u. u.1)
          (subst (λ r. SpellsDigits so.told r m) next (so.only m s));
    }

-- a byte that is neither a digit nor an underscore stands in no number
pub number_ends : (top : ℕ) (text : List ℕ) (i value : ℕ) → i < length text → NumberSoFar top text (drop i text) value
    → (IsDigit (get_or text i 0) → ⊥) → (get_or text i 0 ≡ 95 → ⊥) → (m : ℕ) → SpellsNumber text m → ⊥
number_ends top text i value within so digit mark m s =
    ⊎_elim (λ d. digit d.0) (λ u. mark u.0) (subst (λ r. SpellsDigits so.told r m) (drop_more text i 0 within) (so.only m s))

-- all bytes are read
pub number_all : (top : ℕ) (text : List ℕ) (i value : ℕ) → length text ≤ i → NumberSoFar top text (drop i text) value
    → (m : ℕ) × SpellsNumber text m × (value ≡ min m top)
number_all top text i value past so =
    (so.told, so.spells so.told (subst (λ r. SpellsDigits so.told r so.told) (sym (drop_all i text past)) refl), so.capped)

-- the units of one letter
pub unit_letter : (unit : List ℕ) → 1 ≤ length unit → length unit < 2
    → (((get_or unit 0 0 ≡ 107) ⊎ (get_or unit 0 0 ≡ 75)) → SpellsUnit unit 3)
    × (((get_or unit 0 0 ≡ 109) ⊎ (get_or unit 0 0 ≡ 77)) → SpellsUnit unit 6)
unit_letter [] some one = absurd (omega arith)
unit_letter (b ∷ []) some one = (λ k. inl (k, refl, refl), λ m. inr (inl (m, refl, refl)))
unit_letter (b ∷ c ∷ bytes) some one = absurd (omega arith)

-- so many bytes of a text may stand in a number, and the next may not
pub record NumberLen (text : List ℕ) (n : ℕ) : Type 0 where
  pub within : n ≤ length text
  pub number : (k : ℕ) → k < n → IsNumberByte (get_or text k 0)
  pub unit : n < length text → IsNumberByte (get_or text n 0) → ⊥

-- each byte of digits may stand in a number
digits_bytes : (before : ℕ) (bytes : List ℕ) (m k : ℕ) → SpellsDigits before bytes m → k < length bytes → IsNumberByte (get_or bytes k 0)
digits_bytes before [] m k s within = absurd (omega arith)
digits_bytes before (b ∷ bytes) m zero s within = ⊎_elim (λ d. inl d.0) (λ u. inr u.0) s
digits_bytes before (b ∷ bytes) m (suc k) s within = ⊎_elim
    (λ d. digits_bytes (10 * before + (b - 48)) bytes m k d.1 (omega arith))
    (λ u. digits_bytes before bytes m k u.1 (omega arith)) s

number_bytes : (number : List ℕ) (m k : ℕ) → SpellsNumber number m → k < length number → IsNumberByte (get_or number k 0)
number_bytes [] m k s within = absurd (omega arith)
number_bytes (b ∷ bytes) m zero s within = inl s.0
number_bytes (b ∷ bytes) m (suc k) s within = digits_bytes (b - 48) bytes m k s.1 (omega arith)

-- a letter is no byte of a number
no_letter : (b upper lower : ℕ) → IsNumberByte b → 57 < upper → upper < 95 → 95 < lower → (b ≡ lower) ⊎ (b ≡ upper) → ⊥
no_letter b upper lower n one two three is = grind arith

-- a unit begins with no byte of a number
unit_begins : (b : ℕ) (bytes : List ℕ) (noughts : ℕ) → SpellsUnit (b ∷ bytes) noughts → IsNumberByte b → ⊥
unit_begins b bytes noughts s n = ⊎_elim (λ k. no_letter b 75 107 n (omega arith) (omega arith) (omega arith) k.0)
    (⊎_elim (λ k. no_letter b 77 109 n (omega arith) (omega arith) (omega arith) k.0)
    (λ k. no_letter b 69 101 n (omega arith) (omega arith) (omega arith) k.0)) s

-- the number of a count has as many bytes as may stand in one, no more and no fewer
too_long : (text : List ℕ) (n : ℕ) (number unit : List ℕ) (m : ℕ) → NumberLen text n → text ≡ number ++ unit
    → SpellsNumber number m → n < length number → ⊥
too_long text n number unit m len e s more =
    let same = ap (λ t. get_or t n 0) e ∙ get_or_append_left number unit 0 n more in
    len.unit (omega (arith, ap length e, length-append number unit)) (subst IsNumberByte (sym same) (number_bytes number m n s more))

too_short : (text : List ℕ) (n : ℕ) (number unit : List ℕ) (noughts : ℕ) → NumberLen text n → text ≡ number ++ unit
    → SpellsUnit unit noughts → length number < n → ⊥
too_short text n number [] noughts len e u less = omega (arith, len.within, ap length e, length-append number [])
too_short text n number (b ∷ bytes) noughts len e u less =
    let same = ap (λ t. get_or t (length number) 0) e ∙ get_or_at number b bytes 0 (length number) refl in
    unit_begins b bytes noughts u (subst IsNumberByte same (len.number (length number) less))

-- a text that spells a count has one number and one unit
count_parts : (text : List ℕ) (n : ℕ) (number unit : List ℕ) (m noughts : ℕ) → NumberLen text n → text ≡ number ++ unit
    → SpellsNumber number m → SpellsUnit unit noughts → length number ≡ n
count_parts text n number unit m noughts len e s u = ⊎_elim (λ same. same)
    (⊎_elim (λ less. absurd (too_short text n number unit noughts len e u less)) (λ more. absurd (too_long text n number unit m len e s more)))
    (cases_order (length number) n)

-- where the front of a text is no number, the text is no count
pub no_number : (text front : List ℕ) (n : ℕ) → NumberLen text n → front ≡ take n text → ((m : ℕ) → SpellsNumber front m → ⊥)
    → (m : ℕ) → SpellsTypedCount text m → ⊥
no_number text front n len e none m (number, unit, value, noughts, parts, s, u, same) =
    let one = count_parts text n number unit value noughts len parts s u in
    let is : number ≡ front = sym (take_at number unit n one) ∙ ap (take n) (sym parts) ∙ sym e in
    none value (subst (λ x. SpellsNumber x value) is s)

-- where the back of a text is no unit, the text is no count
pub no_unit : (text back : List ℕ) (n : ℕ) → NumberLen text n → back ≡ drop n text → ((m : ℕ) → SpellsUnit back m → ⊥)
    → (m : ℕ) → SpellsTypedCount text m → ⊥
no_unit text back n len e none m (number, unit, value, noughts, parts, s, u, same) =
    let one = count_parts text n number unit value noughts len parts s u in
    let is : unit ≡ back = sym (drop_at number unit n one) ∙ ap (drop n) (sym parts) ∙ sym e in
    none noughts (subst (λ x. SpellsUnit x noughts) is u)

-- a text is its front and its back
pub front_back : (text front back : List ℕ) (n : ℕ) → front ≡ take n text → back ≡ drop n text → text ≡ front ++ back
front_back text front back n f b =
    sym (take-append-drop n text) ∙ ap (λ x. x ++ drop n text) (sym f) ∙ ap (λ x. front ++ x) (sym b)
