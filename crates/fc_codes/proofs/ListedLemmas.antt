-- A list in rising order of keys below 52, with empty elements after them, is what its keys make.
use Rattle.std.proofs.Common.{◌≡◌, ◌≢◌, ℕ, zero, suc, ◌+◌, ◌-◌, ◌<◌, ◌≤◌, Bool, true, false, List, [], ◌∷◌, ◌++◌, length, map, replicate, get_or, cond, refl, sym, ◌∙◌, ap, arith}
use Rattle.std.specs.Prelude.{filter}
use Rattle.std.specs.List.{range_with_len}
use Rattle.std.proofs.lemmas.List.{same_lists, length-replicate, get_or-replicate, length-map}
use Rattle.fc_cards.specs.Card.{all_cards}
use Rattle.fc_codes.specs.Spelled.{with_padding}

-- keys rise, those below 52 are apart and not below a; the elements are made of their keys, which are those that pass; the
-- others are empty
pub record IsListed {X : Type 0} (key : X → ℕ) (p : ℕ → Bool) (make : ℕ → X) (e : X) (a : ℕ) (xs : List X) : Type 0 where
  pub rises : (i j : ℕ) (d : X) → i < j → j < length xs → key (get_or xs i d) ≤ key (get_or xs j d)
  pub apart : (i j : ℕ) (d : X) → i < j → j < length xs → key (get_or xs i d) < 52 → key (get_or xs i d) ≢ key (get_or xs j d)
  pub from : (i : ℕ) (d : X) → i < length xs → a ≤ key (get_or xs i d)
  pub passes : (i : ℕ) (d : X) → i < length xs → key (get_or xs i d) < 52 → p (key (get_or xs i d)) ≡ true
  pub made : (i : ℕ) (d : X) → i < length xs → key (get_or xs i d) < 52 → make (key (get_or xs i d)) ≡ get_or xs i d
  pub empty : (i : ℕ) (d : X) → i < length xs → 52 ≤ key (get_or xs i d) → get_or xs i d ≡ e
  pub complete : (c : ℕ) → a ≤ c → c < 52 → p c ≡ true → (i : ℕ) × (i < length xs) × ((d : X) → key (get_or xs i d) ≡ c)

-- the first element's key is the least
first_key : {X : Type 0} (key : X → ℕ) (x : X) (xs : List X) (a i : ℕ)
    → ((j : ℕ) (d : X) → 0 < j → j < length (x ∷ xs) → key x ≤ key (get_or (x ∷ xs) j d)) → a ≤ key x → i < length (x ∷ xs)
    → ((d : X) → key (get_or (x ∷ xs) i d) ≡ a) → key x ≡ a
first_key key x xs a zero rises from inside at = at x
first_key key x xs a (suc i) rises from inside at =
    let le = rises (suc i) x (omega arith) inside in let here = at x in omega (arith, le, here, from)

listed_rest : {X : Type 0} (key : X → ℕ) (p : ℕ → Bool) (make : ℕ → X) (e x : X) (a : ℕ) (xs : List X) → a < 52
    → IsListed key p make e a (x ∷ xs) → key x ≡ a → IsListed key p make e (a + 1) xs
listed_rest {X = X} key p make e x a xs below l first = record {
  rises = λ i j d lt inside. l.rises (suc i) (suc j) d (omega arith) (omega arith);
  apart = λ i j d lt inside. l.apart (suc i) (suc j) d (omega arith) (omega arith);
  from = λ i d inside. let le = l.from (suc i) d (omega arith) in
      let ne = l.apart 0 (suc i) d (omega arith) (omega arith) (omega (arith, first, below)) in
      omega (arith, le, ne, first);
  passes = λ i d inside. l.passes (suc i) d (omega arith);
  made = λ i d inside. l.made (suc i) d (omega arith);
  empty = λ i d inside. l.empty (suc i) d (omega arith);
  complete = later;
} where
  pick : (c i : ℕ) → a + 1 ≤ c → i < length (x ∷ xs) → ((d : X) → key (get_or (x ∷ xs) i d) ≡ c)
      → (k : ℕ) × (k < length xs) × ((d : X) → key (get_or xs k d) ≡ c)
  pick c zero past inside at = absurd (let here = at x in omega (arith, here, first, past))
  pick c (suc i) past inside at = (i, omega arith, at)

  later : (c : ℕ) → a + 1 ≤ c → c < 52 → p c ≡ true → (i : ℕ) × (i < length xs) × ((d : X) → key (get_or xs i d) ≡ c)
  later c past lt yes_ = let at = l.complete c (omega arith) lt yes_ in pick c at.0 past at.1 at.2

listed_first : {X : Type 0} (key : X → ℕ) (p : ℕ → Bool) (make : ℕ → X) (e : X) (a : ℕ) (xs : List X) → a < 52 → p a ≡ true
    → IsListed key p make e a xs → (rest : List X) × (xs ≡ make a ∷ rest) × IsListed key p make e (a + 1) rest
listed_first key p make e a [] below passes l =
    let at = l.complete a (omega arith) below passes in absurd (let inside = at.1 in omega arith)
listed_first key p make e a (x ∷ xs) below passes l =
    let at = l.complete a (omega arith) below passes in
    let first : key x ≡ a =
    first_key key x xs a at.0 (λ j d lt inside. l.rises 0 j d lt inside) (l.from 0 x (omega arith)) at.1 at.2 in
    let made = l.made 0 x (omega arith) (omega (arith, first, below)) in
    (xs, ap (λ y. y ∷ xs) (sym made ∙ ap make first), listed_rest key p make e x a xs below l first)

-- a key that doesn't pass isn't there
listed_past : {X : Type 0} (key : X → ℕ) (p : ℕ → Bool) (make : ℕ → X) (e : X) (a : ℕ) (xs : List X) → a < 52 → p a ≡ false
    → IsListed key p make e a xs → IsListed key p make e (a + 1) xs
listed_past key p make e a xs below fails l = record {
  rises = l.rises;
  apart = l.apart;
  from = λ i d inside. let le = l.from i d inside in
      let ne : key (get_or xs i d) ≢ a = λ same.
      let yes_ = l.passes i d inside (omega (arith, same, below)) in let no_ = ap p same in cc (yes_, no_, fails) in
      omega (arith, le, ne);
  passes = l.passes;
  made = l.made;
  empty = l.empty;
  complete = λ c past. l.complete c (omega arith);
}

pub listed_is : {X : Type 0} (key : X → ℕ) (p : ℕ → Bool) (make : ℕ → X) (e : X) (n a : ℕ) (xs : List X) → a + n ≡ 52
    → IsListed key p make e a xs
    → xs ≡ map make (filter p (range_with_len a n)) ++ replicate (length xs - length (filter p (range_with_len a n))) e
listed_is key p make e zero a xs whole l =
    let all : xs ≡ replicate (length xs) e =
    same_lists xs (replicate (length xs) e) (sym (length-replicate (length xs) e))
    (λ k d inside. l.empty k d inside (let le = l.from k d inside in omega (arith, le, whole))
    ∙ sym (get_or-replicate (length xs) k e d inside)) in
    let size : length xs ≡ length xs - 0 = omega arith in
    all ∙ ap (λ m. replicate m e) size
listed_is {X = X} key p make e (suc n) a xs whole l =
    let later = filter p (range_with_len (a + 1) n) in
    elim (p a) as (λ t. p a ≡ t → xs ≡ map make (cond t (a ∷ later) later)
    ++ replicate (length xs - length (cond t (a ∷ later) later)) e) [
      | true ↦ λ passes.
          let front = listed_first key p make e a xs (omega arith) passes l in
          let rest = listed_is key p make e n (a + 1) front.0 (omega arith) front.2 in
          let long = ap length front.1 in
          let size : length front.0 - length later ≡ length xs - length (a ∷ later) = omega (arith, long) in
          front.1 ∙ ap (λ y. make a ∷ y) rest ∙ ap (λ m. make a ∷ (map make later ++ replicate m e)) size
      | false ↦ λ fails. listed_is key p make e n (a + 1) xs (omega arith) (listed_past key p make e a xs (omega arith) fails l)
    ] refl

-- so a list of n elements is that of its keys, filled up
pub listed_filled : {X : Type 0} (key : X → ℕ) (p : ℕ → Bool) (make : ℕ → X) (e : X) (n : ℕ) (xs : List X) → length xs ≡ n
    → IsListed key p make e 0 xs → xs ≡ with_padding n e (map make (filter p all_cards))
unfolding all_cards
listed_filled key p make e n xs long l =
    let cards = filter p (range_with_len 0 52) in
    let size : length xs - length cards ≡ n - length (map make cards) = omega (arith, long, length-map cards make) in
    listed_is key p make e 52 0 xs (omega arith) l ∙ ap (λ m. map make cards ++ replicate m e) size
