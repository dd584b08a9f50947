-- Cards and tests as bits: what the bits of cards tell, and which bits the higher cards of a suit have.
use Rattle.std.proofs.Common.{◌≡◌, ◌↔◌, ◌⊎◌, ℕ, ◌+◌, ◌-◌, ◌*◌, ◌/◌, ◌%◌, ◌^◌, ◌<◌, ◌≤◌, min, max, bit_and, bit_or, Bool, true, false, cond, Some, List, [], ◌∷◌, ◌++◌, length, get_or, inl, inr, refl, sym, ◌∙◌, ap, ⊎_elim, add-zero, w64, arith}
use Rattle.std.specs.Prelude.{◌==◌, ◌&&◌, ◌||◌, nat_lt}
use Rattle.std.specs.Int.{bit_at, bit_not, trailing_zeros}
use Rattle.std.specs.List.{list_any}
use Rattle.std.proofs.lemmas.Bool.{cases_eq, cases_lt, agree_below, agree_below_at, eqb-true, eqb-false}
use Rattle.std.proofs.lemmas.Bool.Decides.{nat_tests}
use Rattle.std.proofs.lemmas.List.{get_or_push, length_push}
use Rattle.std.proofs.lemmas.List.Folds.{list_any_at, Any-from_list_any}
use Rattle.std.proofs.lemmas.Option.{slice_get-get_or}
use Rattle.std.proofs.lemmas.Nat.{and_le_l, and_mask, one_shl, pow_pos}
use Rattle.std.proofs.lemmas.Nat.Bits.{bit_at_and, bit_at_or, bit_at_ones, bit_at_above, bit_at_cat_low, bit_at_cat_high, bit_at_clear_same, bit_at_clear_other, bit_at-lt, bit_at-zero, bit_at-pow_same, bit_at-pow_other, bit_at-trailing_zeros}
use Rattle.fc_cards.specs.Card.{rank, suit}
use Rattle.fc_position.specs.Board.{last_of}
use Rattle.fc_bound.specs.Bound.{is_lower, stands_in}
use Rattle.fc_bound.specs.Rows.{AreBits, stands_among}
use Rattle.fc_bound.specs.inner.Rows.{HasLower}
use Rattle.fc_bound.proofs.AboveLemmas.{contains-stands, stands-contains}
use Rattle.fc_bound.proofs.HeldLemmas.{found}

-- a table of the bits of the higher cards of each card's suit, looked through bit by bit
abbrev is_right : List ℕ → ℕ → Bool
is_right table c = agree_below (λ x. bit_at (get_or table c 0) x == 1) (λ x. is_lower x c) 52

pub told : (n : ℕ) (t : Bool) → n < 2 → (n == 1) ≡ t → n ≡ cond t 1 0
told n true small is = eqb-true n 1 is
told n false small is = let other : n ≡ 1 → ⊥ = eqb-false n 1 is in omega (arith, small, other)

pub higher_bits : (table : List ℕ) (c : ℕ) → agree_below (is_right table) (λ c. true) 52 ≡ true → c < 52
    → (x : ℕ) → x < 52 → bit_at (get_or table c 0) x ≡ cond (is_lower x c) 1 0
higher_bits table c right below x under =
    let here : is_right table c ≡ true = agree_below_at (is_right table) (λ c. true) 52 c right below in
    told (bit_at (get_or table c 0) x) (is_lower x c) (bit_at-lt (get_or table c 0) x)
    (agree_below_at (λ y. bit_at (get_or table c 0) y == 1) (λ y. is_lower y c) 52 x here under)

-- the last card after a push
pub last_of-push : (cards : List ℕ) (y : ℕ) → last_of (cards ++ y ∷ []) ≡ Some y
last_of-push cards y =
    let more = length_push cards y in
    let inside : length (cards ++ y ∷ []) - 1 < length (cards ++ y ∷ []) = omega (arith, more) in
    slice_get-get_or (cards ++ y ∷ []) (length (cards ++ y ∷ []) - 1) 0 inside
    ∙ ap (λ (n : ℕ). Some n) (get_or_push cards y 0 (length (cards ++ y ∷ []) - 1) (omega (arith, more)))

-- a bit of a number that is cut, and of one that is shifted
pub min_one : (m : ℕ) → m < 2 → min m 1 ≡ m
min_one m small = omega arith

cut_bit : (w n i : ℕ) → i < w → bit_at (n % 2 ^ w) i ≡ bit_at n i
cut_bit w n i below =
    ap (λ m. bit_at m i) (sym (and_mask n w)) ∙ bit_at_and n (2 ^ w - 1) i ∙ ap (min (bit_at n i)) (bit_at_ones w i below)
    ∙ min_one (bit_at n i) (bit_at-lt n i)

shl_bit : (w a k i : ℕ) → i < w → k ≤ i → bit_at (a * 2 ^ k % 2 ^ w) i ≡ bit_at a (i - k)
shl_bit w a k i below from =
    cut_bit w (a * 2 ^ k) i below ∙ ap (λ n. bit_at n i) (sym (add-zero (a * 2 ^ k))) ∙ bit_at_cat_high a k 0 i (pow_pos k) from

shl_low : (w a k i : ℕ) → i < w → i < k → bit_at (a * 2 ^ k % 2 ^ w) i ≡ 0
shl_low w a k i below less =
    cut_bit w (a * 2 ^ k) i below ∙ ap (λ n. bit_at n i) (sym (add-zero (a * 2 ^ k))) ∙ bit_at_cat_low a k 0 i less ∙ bit_at-zero i

-- a number that is less by so many fours at most has its bit set
abbrev Reach : ℕ → ℕ → ℕ → Type 0
Reach a n i = (k : ℕ) × (0 < k) × (k ≤ n) × (4 * k ≤ i) × (bit_at a (i - 4 * k) ≡ 1)

abbrev Reaches : ℕ → ℕ → ℕ → Type 0
Reaches s a n = (i : ℕ) → i < 64 → (bit_at s i ≡ 1) ↔ Reach a n i

zero_one : (m : ℕ) → m ≡ 0 → m ≡ 1 → ⊥
zero_one m none one = omega arith

either_one : (x y : ℕ) → max x y ≡ 1 → x < 2 → (x ≡ 1 → ⊥) → y ≡ 1
either_one x y one small other = omega arith

one_either : (x y : ℕ) → x < 2 → y < 2 → (x ≡ 1) ⊎ (y ≡ 1) → max x y ≡ 1
one_either x y small little (inl e) = omega arith
one_either x y small little (inr e) = omega arith

reach_first : (w a : ℕ) → w ≡ 64 → Reaches (a * 2 ^ 4 % 2 ^ w) a 1
reach_first w a is i below = (
  λ one. ⊎_elim (λ less. absurd (zero_one (bit_at (a * 2 ^ 4 % 2 ^ w) i) (shl_low w a 4 i (omega arith) less) one))
      (λ from. (1, omega arith, omega arith, omega arith, sym (shl_bit w a 4 i (omega arith) from) ∙ one)) (cases_lt i 4),
  λ (k, pos, most, from, set).
      let e : k ≡ 1 = omega arith in
      shl_bit w a 4 i (omega arith) (omega arith) ∙ ap (λ j. bit_at a (i - 4 * j)) (sym e) ∙ set,
)

reach_twice : (w s a n m : ℕ) → w ≡ 64 → m ≡ 4 * n → Reaches s a n → Reaches (bit_or s (s * 2 ^ m % 2 ^ w)) a (2 * n)
reach_twice w s a n m is four reaches i below = (
  λ one. ⊎_elim
      (λ here. let (k, pos, most, from, set) = (reaches i below).0 here in (k, pos, omega arith, from, set))
      (λ not_here.
      let there : bit_at (s * 2 ^ m % 2 ^ w) i ≡ 1 =
      either_one (bit_at s i) (bit_at (s * 2 ^ m % 2 ^ w) i) (sym (bit_at_or s (s * 2 ^ m % 2 ^ w) i) ∙ one) (bit_at-lt s i) not_here in
      ⊎_elim (λ less. absurd (zero_one (bit_at (s * 2 ^ m % 2 ^ w) i) (shl_low w s m i (omega arith) less) there))
      (λ above.
      let (k, pos, most, from, set) = (reaches (i - m) (omega arith)).0 (sym (shl_bit w s m i (omega arith) above) ∙ there) in
      let place : i - 4 * (k + n) ≡ i - m - 4 * k = omega arith in
      (k + n, omega arith, omega arith, omega arith, ap (bit_at a) place ∙ set))
      (cases_lt i m))
      (cases_eq (bit_at s i) 1),
  λ (k, pos, most, from, set).
      bit_at_or s (s * 2 ^ m % 2 ^ w) i ∙ one_either (bit_at s i) (bit_at (s * 2 ^ m % 2 ^ w) i) (bit_at-lt s i) (bit_at-lt (s * 2 ^ m % 2 ^ w) i)
      (⊎_elim
      (λ more.
      let place : i - m - 4 * (k - n) ≡ i - 4 * k = omega arith in
      inr (shl_bit w s m i (omega arith) (omega arith)
      ∙ (reaches (i - m) (omega arith)).1 (k - n, omega arith, omega arith, omega arith, ap (bit_at a) place ∙ set)))
      (λ few. inl ((reaches i below).1 (k, pos, few, from, set)))
      (cases_lt n k)),
)

reach_all : (bits r : ℕ) → Reaches r bits 16 → (c : ℕ) → c < 64 → (bit_at r c ≡ 1) ↔ HasLower bits c
reach_all bits r reaches c below = (
  λ one. let (k, pos, most, from, set) = (reaches c below).0 one in (k, pos, from, set),
  λ (k, pos, from, set). (reaches c below).1 (k, pos, omega arith, from, set),
)

abbrev spread : ℕ → ℕ → ℕ
spread s m = bit_or s (s * 2 ^ m % 2 ^ 64)

pub above_is : (bits : ℕ) (c : ℕ) → c < 64
    → (bit_at (spread (spread (spread (spread (bits * 2 ^ 4 % 2 ^ 64) 4) 8) 16) 32) c ≡ 1) ↔ HasLower bits c
above_is bits =
    let one = reach_first 64 bits refl in
    let two = reach_twice 64 (bits * 2 ^ 4 % 2 ^ 64) bits 1 4 refl refl one in
    let four = reach_twice 64 (spread (bits * 2 ^ 4 % 2 ^ 64) 4) bits 2 8 refl refl two in
    let eight = reach_twice 64 (spread (spread (bits * 2 ^ 4 % 2 ^ 64) 4) 8) bits 4 16 refl refl four in
    reach_all bits (spread (spread (spread (spread (bits * 2 ^ 4 % 2 ^ 64) 4) 8) 16) 32)
    (reach_twice 64 (spread (spread (spread (bits * 2 ^ 4 % 2 ^ 64) 4) 8) 16) bits 8 32 refl refl eight)

-- the cards that have a lower card of their suit in some column are those above a bit of its suit
pub is_one : (t : Bool) → ◌≡◌ {A = ℕ} (cond t 1 0) 1 → t ≡ true
is_one true e = refl
is_one false e = absurd (omega arith)

pub lower_parts : (c d : ℕ) → is_lower c d ≡ true → (suit d ≡ suit c) × (rank d < rank c)
lower_parts c d low = go (suit d) (suit c) (rank d) (rank c) low
  where
    go : (s t q r : ℕ) → ((s == t) && nat_lt q r) ≡ true → (s ≡ t) × (q < r)
    go s t q r low = (grind (arith, nat_tests), grind (arith, nat_tests))

pub lower_from : (c d : ℕ) → suit d ≡ suit c → rank d < rank c → is_lower c d ≡ true
lower_from c d suits ranks = go (suit d) (suit c) (rank d) (rank c) suits ranks
  where
    go : (s t q r : ℕ) → s ≡ t → q < r → ((s == t) && nat_lt q r) ≡ true
    go s t q r suits ranks = grind (arith, nat_tests)

pub waits_bits : (all : ℕ) (columns : List (List ℕ)) (u : ℕ) → AreBits all (stands_among columns)
    → HasLower all u ↔ (list_any (list_any (is_lower u)) columns ≡ true)
waits_bits all columns u are = (
  λ (k, pos, from, set).
      let d : ℕ = u - 4 * k in
      let low : is_lower u d ≡ true = lower_from u d (omega arith) (omega arith) in
      let f = found (λ column. stands_in column d) columns (is_one (stands_among columns d) (sym (are d) ∙ set)) in
      let (j, below, e) = stands-contains (get_or columns f.place []) d f.passes in
      list_any_at (list_any (is_lower u)) columns f.place [] f.inside
      (list_any_at (is_lower u) (get_or columns f.place []) j d below (ap (is_lower u) e ∙ low)),
  λ waiting.
      let f = found (list_any (is_lower u)) columns waiting in
      let (j, d, below, e, low) = Any-from_list_any (is_lower u) (get_or columns f.place []) f.passes in
      let parts = lower_parts u d low in
      let stands = list_any_at (λ column. stands_in column d) columns f.place [] f.inside
      (contains-stands (get_or columns f.place []) d (j, below, e)) in
      let k : ℕ = u / 4 - d / 4 in
      let place : u - 4 * (u / 4 - d / 4) ≡ d = lower_place u d parts.0 parts.1 in
      (k, omega (arith, parts.1), lower_fits u d parts.0 parts.1, ap (bit_at all) place ∙ are d ∙ ap (λ t. cond t 1 0) stands),
)
  where
    lower_place : (u d : ℕ) → suit d ≡ suit u → rank d < rank u → u - 4 * (u / 4 - d / 4) ≡ d
    lower_place u d suits ranks = omega arith

    lower_fits : (u d : ℕ) → suit d ≡ suit u → rank d < rank u → 4 * (u / 4 - d / 4) ≤ u
    lower_fits u d suits ranks = omega arith

-- one bit less
pub bit_removed : (n k : ℕ) → n < 2 ^ 64 → k < 64 → (d : ℕ)
    → bit_at (bit_and n (bit_not w64 (1 * 2 ^ k % 2 ^ 64))) d ≡ cond (d == k) 0 (bit_at n d)
bit_removed n k small below d =
    ⊎_elim
    (λ e. let test : (d == k) ≡ true = grind (arith, nat_tests) in
    ap (bit_at (bit_and n (bit_not w64 (1 * 2 ^ k % 2 ^ 64)))) e ∙ bit_at_clear_same w64 n k below ∙ sym (ap (λ t. cond t 0 (bit_at n d)) test))
    (λ ne. let test : (d == k) ≡ false = grind (arith, nat_tests) in
    let kept : bit_at (bit_and n (bit_not w64 (1 * 2 ^ k % 2 ^ 64))) d ≡ bit_at n d =
    ⊎_elim (λ inside. bit_at_clear_other w64 n k below d inside ne)
    (λ past. let less = and_le_l n (bit_not w64 (1 * 2 ^ k % 2 ^ 64)) in
    bit_at_above (bit_and n (bit_not w64 (1 * 2 ^ k % 2 ^ 64))) 64 d (le_lt (bit_and n (bit_not w64 (1 * 2 ^ k % 2 ^ 64))) n (2 ^ 64) less small) past
    ∙ sym (bit_at_above n 64 d small past)) (cases_lt d 64) in
    kept ∙ sym (ap (λ t. cond t 0 (bit_at n d)) test))
    (cases_eq d k)
  where
    le_lt : (a b c : ℕ) → a ≤ b → b < c → a < c
    le_lt a b c le lt = omega arith

pub less_removed : (n m k : ℕ) → m ≤ n → bit_at n k ≡ 1 → bit_at m k ≡ 0 → m < n
less_removed n m k most set gone =
    ⊎_elim (λ e. absurd (zero_one (bit_at m k) gone (ap (λ x. bit_at x k) e ∙ set)))
    (λ ne. omega (arith, most, ne)) (cases_eq m n)

pub gone : (n m k : ℕ) → ((d : ℕ) → bit_at m d ≡ cond (d == k) 0 (bit_at n d)) → bit_at m k ≡ 0
gone n m k is = let test : (k == k) ≡ true = grind (arith, nat_tests) in is k ∙ ap (λ t. cond t 0 (bit_at n k)) test

-- the bit of one number
pub one_bit_is : (n c : ℕ) → n < 64 → bit_at (1 * 2 ^ n % 2 ^ 64) c ≡ cond (n == c) 1 0
one_bit_is n c below =
    ap (λ m. bit_at m c) (one_shl n 64 below) ∙ ⊎_elim
    (λ e. let test : (n == c) ≡ true = grind (arith, nat_tests) in
    ap (bit_at (2 ^ n)) e ∙ bit_at-pow_same n ∙ sym (ap (λ t. cond t 1 0) test))
    (λ ne. let test : (n == c) ≡ false = grind (arith, nat_tests) in
    bit_at-pow_other n c ne ∙ sym (ap (λ t. cond t 1 0) test))
    (cases_eq c n)

-- bits with those of two tests
pub either_bits : (p q r : Bool) → r ≡ (p || q) → ◌≡◌ {A = ℕ} (max (cond p 1 0) (cond q 1 0)) (cond r 1 0)
either_bits true true r is = ap (λ t. cond t 1 0) (sym is)
either_bits true false r is = ap (λ t. cond t 1 0) (sym is)
either_bits false true r is = ap (λ t. cond t 1 0) (sym is)
either_bits false false r is = ap (λ t. cond t 1 0) (sym is)

pub bits_or : (a b : ℕ) (p q r : ℕ → Bool) → AreBits a p → AreBits b q → ((c : ℕ) → r c ≡ (p c || q c)) → AreBits (bit_or a b) r
bits_or a b p q r one two is c =
    bit_at_or a b c ∙ ap (λ n. max n (bit_at b c)) (one c) ∙ ap (max (cond (p c) 1 0)) (two c) ∙ either_bits (p c) (q c) (r c) (is c)

-- a number that is not 0 has a bit
pub record Set (bits : ℕ) : Type 0 where
  pub place : ℕ
  pub set : bit_at bits place ≡ 1

pub some_bit : (bits : ℕ) → 0 < bits → bits < 2 ^ 64 → Set bits
some_bit bits some fits =
    let lowest = bit_at-trailing_zeros w64 bits some fits in record { place = trailing_zeros w64 bits; set = lowest.1 }

pub no_bits : (bits c : ℕ) → bits ≡ 0 → bit_at bits c ≡ 1 → ⊥
no_bits bits c none set = zero_one (bit_at bits c) (ap (λ n. bit_at n c) none ∙ bit_at-zero c) set
