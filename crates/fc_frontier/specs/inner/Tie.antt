-- Queues of pairs with ties, within the crate.
use Rattle.std.specs.Prelude.{ℕ, ◌-◌, ◌/◌, ◌%◌, ◌^◌, Bool, List, All, nat_eq}
use Rattle.std.specs.BinaryHeap.{IsHeap}
use Rattle.std.specs.declared.cmp.Ordering.{Ordering}
use Rattle.std.specs.Ordering.{eq_of_both, flip_args, nat_cmp, on, then_cmp}
use Rattle.fc_frontier.specs.Place.{place_of}
use Rattle.fc_frontier.specs.Tie.{Entry, IsOlder}

-- the entry for which a number stands, of 32 bits for each of the four, where the lesser of two numbers comes first
abbrev pub entry_of : ℕ → Entry
entry_of n = record {
  f = n / 2 ^ 96;
  tie = n / 2 ^ 64 % 2 ^ 32;
  stamp = 2 ^ 32 - 1 - n / 2 ^ 32 % 2 ^ 32;
  node = n % 2 ^ 32;
}

-- the place and the node of an entry
abbrev pub placed_of : Entry → ℕ × ℕ
placed_of entry = (place_of entry.f entry.tie, entry.node)

-- how entries compare: the greater one has a lesser f, or the same f and a lesser tie, or the same f and tie and a greater stamp;
-- of equal stamps, a lesser node
abbrev pub entry_cmp : Entry → Entry → Ordering
entry_cmp = then_cmp (flip_args (on (λ entry. entry.f) nat_cmp))
    (then_cmp (flip_args (on (λ entry. entry.tie) nat_cmp))
    (then_cmp (on (λ entry. entry.stamp) nat_cmp) (flip_args (on (λ entry. entry.node) nat_cmp))))

-- which entries compare as equal: those that have the same four numbers
abbrev pub entry_eq : Entry → Entry → Bool
entry_eq = eq_of_both (eq_of_both (on (λ entry. entry.f) nat_eq) (on (λ entry. entry.tie) nat_eq))
    (eq_of_both (on (λ entry. entry.stamp) nat_eq) (on (λ entry. entry.node) nat_eq))

-- the entries stand as a heap of that order has them, and were pushed before the next one
pub record IsTiedHeap (entries : List Entry) (pushes : ℕ) : Type 0 where
  pub ordered : IsHeap entry_cmp entries
  pub older : All (IsOlder pushes) entries
