-- A key sought by halves among rows that rise.
use Rattle.std.proofs.Common.{◌≡◌, ℕ, ◌+◌, ◌<◌, ◌≤◌, Some, List, length, get_or, refl, sym, ◌∙◌, ap, subst, ⊎_elim, arith}
use Rattle.std.specs.Prelude.{Contains, slice_get}
use Rattle.std.specs.Cmp.Lexicographic.{slice_cmp, texts_ties, bytes_decides, nat_list_cmp_total}
use Rattle.std.specs.declared.cmp.Ordering.TheVariants.{Less, Equal, Greater}
use Rattle.std.specs.Ordering.{nat_cmp, is_eq, ordering_reverse}
use Rattle.std.proofs.lemmas.Bool.{cases_lt}
use Rattle.std.proofs.lemmas.Option.{get_or_from_slice_get, slice_get_read, slice_get_within}
use Rattle.fc_canonical.specs.KeyOrder.{IsBefore}
use Rattle.fc_answers.specs.Table.{IsRising}
use Rattle.fc_answers.proofs.RisingLemmas.{rising_far}

-- no key comes before itself
not_before_itself : (key : List ℕ) → IsBefore key key → ⊥
not_before_itself key before =
    let other = sym before ∙ nat_list_cmp_total.antisymm key key ∙ ap ordering_reverse before in
    absurd (cc)

module _ (rows : List (List ℕ × ℕ)) (up : IsRising rows) (key : List ℕ) where
  -- of two rows the key of the first comes before the other's
  rows_rise : (i j : ℕ) (x y : List ℕ × ℕ) → i < j → slice_get rows i ≡ Some x → slice_get rows j ≡ Some y → IsBefore x.0 y.0
  rows_rise i j x y lt here there =
      subst (λ r. IsBefore r.0 y.0) (get_or_from_slice_get rows i x x here)
      (subst (λ r. IsBefore (get_or rows i x).0 r.0) (get_or_from_slice_get rows j y x there)
      (rising_far rows up i j x lt (slice_get_within rows j y there)))

  -- what stands at one place is one row
  same_row : (i k : ℕ) (x y : List ℕ × ℕ) → i ≡ k → slice_get rows i ≡ Some x → slice_get rows k ≡ Some y → x ≡ y
  same_row i k x y same here there =
      sym (get_or_from_slice_get rows i x x here) ∙ ap (λ n. get_or rows n x) same ∙ get_or_from_slice_get rows k y x there

  -- where the key is greater than a row's, so it is than those before
  pub below_more : (middle : ℕ) (row : List ℕ × ℕ) → slice_get rows middle ≡ Some row → slice_cmp nat_cmp key row.0 ≡ Greater
      → (k : ℕ) (other : List ℕ × ℕ) → k < middle + 1 → slice_get rows k ≡ Some other → IsBefore other.0 key
  below_more middle row there greater k other lt at =
      let less : IsBefore row.0 key = nat_list_cmp_total.antisymm row.0 key ∙ ap ordering_reverse greater in
      ⊎_elim
      (λ below. nat_list_cmp_total.trans other.0 row.0 key (rows_rise k middle other row below at there) less)
      (λ le. subst (λ r. IsBefore r.0 key) (same_row middle k row other (omega (arith, le, lt)) there at) less)
      (cases_lt k middle)

  -- and where it is less, so it is than those after
  pub above_more : (middle : ℕ) (row : List ℕ × ℕ) → slice_get rows middle ≡ Some row → slice_cmp nat_cmp key row.0 ≡ Less
      → (k : ℕ) (other : List ℕ × ℕ) → middle ≤ k → slice_get rows k ≡ Some other → IsBefore key other.0
  above_more middle row there less k other ge at =
      ⊎_elim
      (λ above. nat_list_cmp_total.trans key row.0 other.0 less (rows_rise middle k row other above there at))
      (λ le. subst (λ r. IsBefore key r.0) (same_row middle k row other (omega (arith, le, ge)) there at) less)
      (cases_lt middle k)

  -- a row with the key lists it
  pub key_found : (middle : ℕ) (other : List ℕ) (cost : ℕ) → slice_get rows middle ≡ Some (other, cost)
      → slice_cmp nat_cmp key other ≡ Equal → Contains rows (key, cost)
  key_found middle other cost there equal =
      let same : key ≡ other = (bytes_decides key other).0 (texts_ties key other ∙ ap is_eq equal) in
      let at = subst (λ k. slice_get rows middle ≡ Some (k, cost)) (sym same) there in
      (middle, slice_get_within rows middle (key, cost) at, get_or_from_slice_get rows middle (key, cost) (key, cost) at)

  -- a key that all come before or after isn't listed
  pub none_found : (low high : ℕ) → high ≤ low
      → ((k : ℕ) (row : List ℕ × ℕ) → k < low → slice_get rows k ≡ Some row → IsBefore row.0 key)
      → ((k : ℕ) (row : List ℕ × ℕ) → high ≤ k → slice_get rows k ≡ Some row → IsBefore key row.0)
      → (cost : ℕ) → Contains rows (key, cost) → ⊥
  none_found low high le below above cost (k, lt, e) =
      let there = slice_get_read rows (length rows) k (key, cost) refl lt (sym e) in
      ⊎_elim
      (λ under. not_before_itself key (below k (key, cost) under there))
      (λ over. not_before_itself key (above k (key, cost) (omega (arith, over, le)) there))
      (cases_lt k low)
