-- What comparing a key with a row's tells of whether it is listed.
use Rattle.std.proofs.Common.{◌≡◌, ◌≢◌, ℕ, Bool, true, false, Some, List, sym, ◌∙◌, subst}
use Rattle.std.specs.Prelude.{Contains, slice_get}
use Rattle.std.specs.Cmp.Lexicographic.{slice_cmp, texts_ties, bytes_decides}
use Rattle.std.specs.Ordering.{nat_cmp, is_eq}
use Rattle.std.proofs.lemmas.Option.{get_or_from_slice_get, slice_get_within}

-- a row with the key lists it
pub key_found : (rows : List (List ℕ × ℕ)) (key : List ℕ) (i : ℕ) (other : List ℕ) (cost : ℕ) → slice_get rows i ≡ Some (other, cost)
    → is_eq (slice_cmp nat_cmp key other) ≡ true → Contains rows (key, cost)
key_found rows key i other cost there equal =
    let same : key ≡ other = (bytes_decides key other).0 (texts_ties key other ∙ equal) in
    let at = subst (λ k. slice_get rows i ≡ Some (k, cost)) (sym same) there in
    (i, slice_get_within rows i (key, cost) at, get_or_from_slice_get rows i (key, cost) (key, cost) at)

-- and one with another key doesn't
pub key_differs : (key other : List ℕ) → is_eq (slice_cmp nat_cmp key other) ≡ false → key ≢ other
key_differs key other differs same =
    let equal : true ≡ is_eq (slice_cmp nat_cmp key other) = sym ((bytes_decides key other).1 same) ∙ texts_ties key other in
    let e : ◌≡◌ {A = Bool} true false = equal ∙ differs in absurd (cc)
