-- Lists that are filled up with empty elements, one place after the other.
use Rattle.std.proofs.Common.{◌≡◌, ℕ, suc, ◌+◌, ◌-◌, ◌<◌, Option, Some, None, List, [], ◌∷◌, ◌++◌, length, replicate, set, sym, ◌∙◌, ap, arith}
use Rattle.std.proofs.lemmas.List.{set_at, append_assoc, append-nil, length_push}
use Rattle.fc_codes.specs.Spelled.{with_padding, chain_from}
use Rattle.fc_codes.proofs.GrownLemmas.{grown_none}

one_more : (n k : ℕ) → k < n → n - k ≡ suc (n - (k + 1))
one_more n k lt = omega arith

-- to write in the first place that is filled up is to have one element more
pub filled_push : {X : Type 0} (n : ℕ) (e : X) (xs : List X) (y : X) (i : ℕ) → length xs ≡ i → i < n
    → set (with_padding n e xs) i y ≡ with_padding n e (xs ++ y ∷ [])
filled_push n e xs y i at few =
    let size : n - length xs ≡ suc (n - (length xs + 1)) = one_more n (length xs) (omega (arith, at, few)) in
    let rest = replicate (n - (length xs + 1)) e in
    let after : n - (length xs + 1) ≡ n - length (xs ++ y ∷ []) = ap (λ m. n - m) (sym (length_push xs y)) in
    ap (λ m. set (xs ++ replicate m e) i y) size ∙ set_at xs e rest y i at ∙ sym (append_assoc xs (y ∷ []) rest)
    ∙ ap (λ m. (xs ++ y ∷ []) ++ replicate m e) after

-- a column that grows: a card, and the rest
grown_some : (next : ℕ → Option ℕ) (n m c : ℕ) (front : List ℕ) → n ≡ suc m
    → (front ++ c ∷ []) ++ chain_from next m (next c) ≡ front ++ chain_from next n (Some c)
unfolding chain_from
grown_some next n m c front e =
    append_assoc front (c ∷ []) (chain_from next m (next c)) ∙ ap (λ k. front ++ chain_from next k (Some c)) (sym e)

pub grown_next : (next : ℕ → Option ℕ) (c : ℕ) (front cards : List ℕ) (o : Option ℕ) → cards ≡ front ++ c ∷ [] → length front < 52
    → o ≡ next c → cards ++ chain_from next (52 - length cards) o ≡ front ++ chain_from next (52 - length front) (Some c)
grown_next next c front cards o more inside told =
    let long = ap length more in
    let left : 52 - length front ≡ suc (52 - length cards) = omega (arith, long, length_push front c, inside) in
    ap (λ l. l ++ chain_from next (52 - length cards) o) more
    ∙ ap (λ p. (front ++ c ∷ []) ++ chain_from next (52 - length cards) p) told
    ∙ grown_some next (52 - length front) (52 - length cards) c front left

pub grown_end : (next : ℕ → Option ℕ) (n : ℕ) (card : Option ℕ) (front : List ℕ) → n ≡ 0 → front ++ chain_from next n card ≡ front
unfolding chain_from
grown_end next n card front e = ap (λ k. front ++ chain_from next k card) e ∙ append-nil front

pub grown_stop : (next : ℕ → Option ℕ) (n : ℕ) (card : Option ℕ) (front : List ℕ) → card ≡ None → front ++ chain_from next n card ≡ front
grown_stop next n card front e =
    ap (λ o. front ++ chain_from next n o) e ∙ ap (λ l. front ++ l) (grown_none next n) ∙ append-nil front
