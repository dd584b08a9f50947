-- Cards of a set that wait beneath one another.
use Rattle.std.proofs.Common.{◌≡◌, ◌≢◌, ℕ, ◌*◌, ◌%◌, ◌^◌, ◌<◌, ◌≤◌, min, max, bit_and, bit_or, true, cond, List, get_or, sym, ◌∙◌, ap, subst, ⊎_elim, w64, arith}
use Rattle.std.specs.Prelude.{◌==◌}
use Rattle.std.specs.Int.{bit_at, bit_not}
use Rattle.std.proofs.lemmas.Bool.{cases_eq, cases_lt, eqb-true}
use Rattle.std.proofs.lemmas.Bool.Decides.{nat_tests}
use Rattle.std.proofs.lemmas.Nat.{and_le_r}
use Rattle.std.proofs.lemmas.Nat.Bits.{bit_at_and, bit_at_or, bit_at_above, bit_at_not, bit_at_ones, bit_at-lt, same_from_bits}
use Rattle.fc_bound.specs.declared.waiting_rows.Row.{Row}
use Rattle.fc_bound.specs.Rings.{IsAmong}
use Rattle.fc_bound.specs.Rows.{no_row}
use Rattle.fc_bound.specs.inner.Tied.{WaitsBy, IsTied, AreTiedBy, AreTiedIn, IsWithin}
use Rattle.fc_bound.proofs.BitLemmas.{some_bit, one_bit_is, is_one}

-- a card of a set beneath which one of it waits
pub record IsHost (rows : List Row) (cards e : ℕ) : Type 0 where
  pub own : bit_at cards e ≡ 1
  pub guest : ℕ
  pub guest_own : bit_at cards guest ≡ 1
  pub awaited : WaitsBy rows guest e

-- a card of a set that waits beneath one of it
pub record IsGuest (rows : List Row) (cards c : ℕ) : Type 0 where
  pub own : bit_at cards c ≡ 1
  pub host : ℕ
  pub host_own : bit_at cards host ≡ 1
  pub waits : WaitsBy rows c host

-- bits of two numbers, and of one of them
both : (m n : ℕ) → m ≡ 1 → n ≡ 1 → min m n ≡ 1
both m n one two = omega arith

first : (m n : ℕ) → min m n ≡ 1 → m < 2 → m ≡ 1
first m n is small = omega arith

second : (m n : ℕ) → min m n ≡ 1 → n < 2 → n ≡ 1
second m n is small = omega arith

pub in_both : (a b c : ℕ) → bit_at a c ≡ 1 → bit_at b c ≡ 1 → bit_at (bit_and a b) c ≡ 1
in_both a b c one two = bit_at_and a b c ∙ both (bit_at a c) (bit_at b c) one two

pub in_first : (a b c : ℕ) → bit_at (bit_and a b) c ≡ 1 → bit_at a c ≡ 1
in_first a b c is = first (bit_at a c) (bit_at b c) (sym (bit_at_and a b c) ∙ is) (bit_at-lt a c)

pub in_second : (a b c : ℕ) → bit_at (bit_and a b) c ≡ 1 → bit_at b c ≡ 1
in_second a b c is = second (bit_at a c) (bit_at b c) (sym (bit_at_and a b c) ∙ is) (bit_at-lt b c)

most_first : (m n : ℕ) → m ≡ 1 → n < 2 → max m n ≡ 1
most_first m n one small = omega arith

most_second : (m n : ℕ) → n ≡ 1 → m < 2 → max m n ≡ 1
most_second m n one small = omega arith

most_other : (m n : ℕ) → max m n ≡ 1 → m < 2 → m ≢ 1 → n ≡ 1
most_other m n is small ne = omega arith

pub or_first : (a b c : ℕ) → bit_at a c ≡ 1 → bit_at (bit_or a b) c ≡ 1
or_first a b c one = bit_at_or a b c ∙ most_first (bit_at a c) (bit_at b c) one (bit_at-lt b c)

pub or_second : (a b c : ℕ) → bit_at b c ≡ 1 → bit_at (bit_or a b) c ≡ 1
or_second a b c one = bit_at_or a b c ∙ most_second (bit_at a c) (bit_at b c) one (bit_at-lt a c)

-- a bit of two numbers is one of one of them
pub or_either : (A : Type 0) (a b c : ℕ) → bit_at (bit_or a b) c ≡ 1 → (bit_at a c ≡ 1 → A) → (bit_at b c ≡ 1 → A) → A
or_either A a b c is one two =
    ⊎_elim one
    (λ ne. two (most_other (bit_at a c) (bit_at b c) (sym (bit_at_or a b c) ∙ is) (bit_at-lt a c) ne))
    (cases_eq (bit_at a c) 1)

-- the bit of one number
pub own_bit : (n : ℕ) → n < 64 → bit_at (1 * 2 ^ n % 2 ^ 64) n ≡ 1
own_bit n below =
    let test : (n == n) ≡ true = grind (arith, nat_tests) in one_bit_is n n below ∙ ap (λ t. cond t 1 0) test

pub only_bit : (n c : ℕ) → n < 64 → bit_at (1 * 2 ^ n % 2 ^ 64) c ≡ 1 → n ≡ c
only_bit n c below is = eqb-true n c (is_one (n == c) (sym (one_bit_is n c below) ∙ is))

-- the guests of a card among a set, and its row
pub guest_waits : (rows : List Row) (cards e c : ℕ) → bit_at (bit_and (get_or rows e no_row).waiting cards) c ≡ 1
    → (bit_at cards c ≡ 1) × WaitsBy rows c e
guest_waits rows cards e c is =
    (in_second (get_or rows e no_row).waiting cards c is, in_first (get_or rows e no_row).waiting cards c is)

-- where one of the rest has a guest, it is a host
pub host_here : (rows : List Row) (cards e : ℕ) → bit_at cards e ≡ 1 → 0 < bit_and (get_or rows e no_row).waiting cards
    → bit_and (get_or rows e no_row).waiting cards < 2 ^ 64 → IsHost rows cards e
host_here rows cards e own some fits =
    let one = some_bit (bit_and (get_or rows e no_row).waiting cards) some fits in
    let is = guest_waits rows cards e one.place one.set in
    record { own = own; guest = one.place; guest_own = is.0; awaited = is.1 }

-- cards that are a host and a guest are tied
pub tied_by : (rows : List Row) (cards c : ℕ) → IsHost rows cards c → IsGuest rows cards c → IsTied rows cards c
tied_by rows cards c host guest = record {
  own = host.own;
  host = guest.host;
  host_own = guest.host_own;
  waits = guest.waits;
  guest = host.guest;
  guest_own = host.guest_own;
  awaited = host.awaited;
}

-- two cards, each of which waits beneath the other
pub two_tied : (rows : List Row) (c e : ℕ) → c < 64 → e < 64 → WaitsBy rows c e → WaitsBy rows e c
    → AreTiedIn rows (bit_or (1 * 2 ^ c % 2 ^ 64) (1 * 2 ^ e % 2 ^ 64))
two_tied rows c e below under waits awaited d set =
    let one : ℕ = 1 * 2 ^ c % 2 ^ 64 in
    let two : ℕ = 1 * 2 ^ e % 2 ^ 64 in
    let first_own = or_first one two c (own_bit c below) in
    let second_own = or_second one two e (own_bit e under) in
    or_either (IsTied rows (bit_or one two) d) one two d set
    (λ here. subst (IsTied rows (bit_or one two)) (only_bit c d below here) (record {
      own = first_own;
      host = e;
      host_own = second_own;
      waits = waits;
      guest = e;
      guest_own = second_own;
      awaited = awaited;
    }))
    (λ here. subst (IsTied rows (bit_or one two)) (only_bit e d under here) (record {
      own = second_own;
      host = c;
      host_own = first_own;
      waits = awaited;
      guest = c;
      guest_own = first_own;
      awaited = waits;
    }))

pub two_within : (others c e : ℕ) → c < 64 → e < 64 → bit_at others e ≡ 1 → (d : ℕ)
    → bit_at (bit_or (1 * 2 ^ c % 2 ^ 64) (1 * 2 ^ e % 2 ^ 64)) d ≡ 1 → d ≢ c → bit_at others d ≡ 1
two_within others c e below under own d set ne =
    or_either (bit_at others d ≡ 1) (1 * 2 ^ c % 2 ^ 64) (1 * 2 ^ e % 2 ^ 64) d set
    (λ here. absurd (ne (sym (only_bit c d below here))))
    (λ here. ap (bit_at others) (sym (only_bit e d under here)) ∙ own)

-- a card of a set of cards is below 52, and so is a bit below 64
pub card_below : (bits c : ℕ) → bits < 2 ^ 52 → bit_at bits c ≡ 1 → c < 52
card_below bits c small set =
    ⊎_elim (λ lt. lt) (λ past. absurd (omega (arith, bit_at_above bits 52 c small past, set))) (cases_lt c 52)

pub lt64 : {n : ℕ} → n < 52 → n < 64
lt64 below = omega (arith, below)

-- a set that is within another is no greater a number
pub within_least : (a b : ℕ) → IsWithin a b → a ≤ b
within_least a b within =
    subst (λ n. n ≤ b) (same_from_bits (bit_and a b) a (λ i. bit_at_and a b i ∙ least (bit_at a i) (bit_at b i) (bit_at-lt a i) (within i))) (and_le_r a b)
  where
    least : (m n : ℕ) → m < 2 → (m ≡ 1 → n ≡ 1) → min m n ≡ m
    least m n small then =
        ⊎_elim (λ one. omega (arith, one, then one)) (λ ne. omega (arith, ne, small)) (cases_eq m 1)

-- a ring of cards of a set is left where those go that aren't tied
pub ring_tied : (rows : List Row) (left next : ℕ) (ring : List ℕ) → ((c : ℕ) → IsTied rows left c → bit_at next c ≡ 1) → AreTiedBy rows ring
    → IsAmong left ring → IsAmong next ring
ring_tied rows left next ring tells ties among c here =
    let (e, there, waits) = ties.waits c here in
    let (d, also, awaited) = ties.awaited c here in
    tells c (record {
      own = among c here;
      host = e;
      host_own = among e there;
      waits = waits;
      guest = d;
      guest_own = among d also;
      awaited = awaited;
    })

-- what is within a set stays so
pub and_twice : (a b : ℕ) → bit_and (bit_and a b) b ≡ bit_and a b
and_twice a b =
    same_from_bits (bit_and (bit_and a b) b) (bit_and a b)
    (λ i. bit_at_and (bit_and a b) b i ∙ ap (λ n. min n (bit_at b i)) (bit_at_and a b i) ∙ again (bit_at a i) (bit_at b i) ∙ sym (bit_at_and a b i))
  where
    again : (m n : ℕ) → min (min m n) n ≡ min m n
    again m n = omega arith

-- numbers all of whose bits are below
bit_none : (n c : ℕ) → bit_at n c ≢ 1 → bit_at n c ≡ 0
bit_none n c ne = omega (arith, bit_at-lt n c, ne)

pub none_set : (n c : ℕ) → (bit_at n c ≡ 1 → ⊥) → bit_at n c ≡ 0
none_set n c not_set = bit_none n c not_set

pub bits_small : (n : ℕ) → ((c : ℕ) → bit_at n c ≡ 1 → c < 52) → n < 2 ^ 52
bits_small n below =
    omega (arith, within_least n 4503599627370495 (λ c set. bit_at_ones 52 c (below c set)))

-- the bits of all other numbers
pub not_in : (n c : ℕ) → n < 2 ^ 64 → c < 64 → bit_at (bit_not w64 n) c ≡ 1 → bit_at n c ≡ 0
not_in n c fits below set = omega (arith, bit_at_not w64 n c fits below, set, bit_at-lt n c)

pub in_not : (n c : ℕ) → n < 2 ^ 64 → c < 64 → bit_at n c ≡ 0 → bit_at (bit_not w64 n) c ≡ 1
in_not n c fits below none = omega (arith, bit_at_not w64 n c fits below, none)

-- where none of two is set
pub or_none_first : (a b c : ℕ) → bit_at (bit_or a b) c ≡ 0 → bit_at a c ≡ 0
or_none_first a b c none = omega (arith, bit_at_or a b c, none)

pub or_none_second : (a b c : ℕ) → bit_at (bit_or a b) c ≡ 0 → bit_at b c ≡ 0
or_none_second a b c none = omega (arith, bit_at_or a b c, none)
