-- Bytes told to be a key, column by column from the front.
use Rattle.std.proofs.Common.{◌≡◌, ℕ, zero, suc, ◌+◌, ◌-◌, ◌<◌, ◌≤◌, ◌↔◌, List, [], ◌∷◌, ◌++◌, length, false, IsTrue, refl, sym, ◌∙◌, ap, subst, arith}
use Rattle.std.specs.Prelude.{All, sum_by}
use Rattle.std.specs.List.{flat_map}
use Rattle.std.specs.List.Sorted.{IsNonDecreasingBy}
use Rattle.std.proofs.lemmas.Bool.{false≢true}
use Rattle.std.proofs.lemmas.List.Elements.{All-cons, All-head}
use Rattle.std.proofs.lemmas.List.Sums.{sum_by-cons}
use Rattle.fc_position.specs.Board.{count_in_column}
use Rattle.fc_canonical.specs.Key.{column_bytes}
use Rattle.fc_canonical.specs.Order.{column_order}
use Rattle.fc_canonical.specs.inner.Parts.{times_due, AreColumns}
use Rattle.fc_canonical.proofs.KeyLemmas.{column_once}

-- the order of a list is that of its first element and the others
rising_first : (x : List ℕ) (xs : List (List ℕ)) → IsNonDecreasingBy column_order (x ∷ xs)
    → All (λ y. column_order x ≤ column_order y) xs
rising_first x xs up k d inside = up 0 (suc k) d (omega arith) (omega arith)

rising_tail : (x : List ℕ) (xs : List (List ℕ)) → IsNonDecreasingBy column_order (x ∷ xs) → IsNonDecreasingBy column_order xs
rising_tail x xs up i j d le inside = up (suc i) (suc j) d (omega arith) (omega arith)

rising_cons : (x : List ℕ) (xs : List (List ℕ)) → All (λ y. column_order x ≤ column_order y) xs
    → IsNonDecreasingBy column_order xs → IsNonDecreasingBy column_order (x ∷ xs)
rising_cons x xs all up zero zero d le inside = omega arith
rising_cons x xs all up zero (suc j) d le inside = all j d (omega arith)
rising_cons x xs all up (suc i) zero d le inside = absurd (omega arith)
rising_cons x xs all up (suc i) (suc j) d le inside = up i j d (omega arith) (omega arith)

-- the first column
pub record FirstColumn (read : ℕ → ℕ) (order count : ℕ) (rest : List ℕ) : Type 0 where
  pub cards : List ℕ
  pub after : List ℕ
  pub bytes : rest ≡ column_bytes cards ++ after
  pub from : order ≤ column_order cards
  pub most : (c : ℕ) → read c + count_in_column c cards ≤ times_due c
  pub others : (new : ℕ → ℕ) → ((c : ℕ) → new c ≡ read c + count_in_column c cards)
      → AreColumns new (column_order cards) count after

first_of : (read : ℕ → ℕ) (order count : ℕ) (rest : List ℕ) (columns : List (List ℕ)) → length columns ≡ count + 1
    → All (λ cards. order ≤ column_order cards) columns → IsNonDecreasingBy column_order columns
    → ((c : ℕ) → read c + sum_by (count_in_column c) columns ≡ times_due c) → rest ≡ flat_map column_bytes columns
    → FirstColumn read order count rest
first_of read order count rest [] many from rising each bytes = absurd (omega arith)
first_of read order count rest (x ∷ xs) many from rising each bytes = record {
  cards = x;
  after = flat_map column_bytes xs;
  bytes = bytes;
  from = All-head (λ cards. order ≤ column_order cards) x xs from;
  most = λ c. omega (arith, each c, sum_by-cons (count_in_column c) x xs);
  others = λ new added. record {
    columns = xs;
    many = omega arith;
    from = rising_first x xs rising;
    rising = rising_tail x xs rising;
    each = λ c. omega (arith, added c, each c, sum_by-cons (count_in_column c) x xs);
    bytes = refl;
  };
}

pub first_column : (read : ℕ → ℕ) (order n m : ℕ) (rest : List ℕ) → n ≡ m + 1 → AreColumns read order n rest
    → FirstColumn read order m rest
first_column read order n m rest e a =
    first_of read order m rest a.columns (a.many ∙ e) a.from a.rising a.each a.bytes

-- where no column stands first, or not one in order, or not one whose cards may be added, there are no such columns
pub none_first : (read : ℕ → ℕ) (order n : ℕ) (rest : List ℕ) → 0 < n
    → ((cards after : List ℕ) → rest ≡ column_bytes cards ++ after → ⊥) → AreColumns read order n rest → ⊥
none_first read order n rest some none a =
    let f = first_column read order n (n - 1) rest (omega arith) a in none f.cards f.after f.bytes

pub early_first : (read : ℕ → ℕ) (order n : ℕ) (rest cards after : List ℕ) → 0 < n → rest ≡ column_bytes cards ++ after
    → column_order cards < order → AreColumns read order n rest → ⊥
early_first read order n rest cards after some e early a =
    let f = first_column read order n (n - 1) rest (omega arith) a in
    let same = ap column_order (column_once f.cards cards f.after after (sym f.bytes ∙ e)).0 in
    omega (arith, f.from, same)

pub over_first : (read : ℕ → ℕ) (order n : ℕ) (rest cards after : List ℕ) → 0 < n → rest ≡ column_bytes cards ++ after
    → ((c : ℕ) × (times_due c < read c + count_in_column c cards)) → AreColumns read order n rest → ⊥
over_first read order n rest cards after some e (c, over) a =
    let f = first_column read order n (n - 1) rest (omega arith) a in
    let same = ap (count_in_column c) (column_once f.cards cards f.after after (sym f.bytes ∙ e)).0 in
    omega (arith, f.most c, same, over)

-- and else there are where the others are behind it
columns_step : (read new : ℕ → ℕ) (order n m : ℕ) (rest cards after : List ℕ) → n ≡ m + 1
    → rest ≡ column_bytes cards ++ after → order ≤ column_order cards
    → ((c : ℕ) → new c ≡ read c + count_in_column c cards)
    → AreColumns read order n rest ↔ AreColumns new (column_order cards) m after
columns_step read new order n m rest cards after count e from added = (
  λ a. let f = first_column read order n m rest count a in
      let once = column_once f.cards cards f.after after (sym f.bytes ∙ e) in
      let others = f.others new (λ c. added c ∙ ap (λ x. read c + count_in_column c x) (sym once.0)) in
      subst (λ l. AreColumns new (column_order cards) m l) once.1
      (subst (λ x. AreColumns new (column_order x) m f.after) once.0 others),
  λ a. record {
    columns = cards ∷ a.columns;
    many = omega (arith, a.many, count);
    from = All-cons (λ x. order ≤ column_order x) cards a.columns from (λ k d inside. omega (arith, a.from k d inside));
    rising = rising_cons cards a.columns a.from a.rising;
    each = λ c. omega (arith, added c, a.each c, sum_by-cons (count_in_column c) cards a.columns);
    bytes = e ∙ ap (λ l. column_bytes cards ++ l) a.bytes;
  },
)

pub columns_more : {P : Type 0} (read new : ℕ → ℕ) (order n m next : ℕ) (rest cards after : List ℕ)
    → P ↔ AreColumns read order n rest → n ≡ m + 1 → rest ≡ column_bytes cards ++ after → next ≡ column_order cards
    → order ≤ next → ((c : ℕ) → new c ≡ read c + count_in_column c cards) → P ↔ AreColumns new next m after
columns_more read new order n m next rest cards after (there, back) count e here from added =
    let step = columns_step read new order n m rest cards after count e (omega (arith, here, from)) added in (
      λ p. subst (λ k. AreColumns new k m after) (sym here) (step.0 (there p)),
      λ a. back (step.1 (subst (λ k. AreColumns new k m after) here a)),
    )

-- what comes with something that doesn't hold is told by a test that fails
pub refused : {P Q : Type 0} → (P → Q) → (Q → ⊥) → (IsTrue false → P) × (P → IsTrue false)
refused there none = (λ yes. absurd (false≢true yes), λ p. absurd (none (there p)))
