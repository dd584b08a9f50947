-- Rows chained by the places of their keys, and a key that is looked for along a chain.
use Rattle.std.proofs.Common.{◌≡◌, ◌≢◌, ℕ, ◌+◌, ◌*◌, ◌<◌, ◌≤◌, Some, List, [], length, set, slice_index, refl, sym, ◌∙◌, ap, subst, ⊎_elim, arith}
use Rattle.std.specs.Prelude.{Contains, slice_get}
use Rattle.std.proofs.lemmas.Bool.{cases_lt}
use Rattle.std.proofs.lemmas.List.{get_or-set_same, get_or-set_other, length-set}
use Rattle.std.proofs.lemmas.Option.{get_or_from_slice_get, slice_get_read, slice_get_within}
use Rattle.fc_cert.specs.declared.chains.TheConstants.{WINDOW}
use Rattle.fc_cert.specs.inner.Chains.{AreChained, IsLast, place_of, places_of}

-- before the first row there is none
pub none_last : (places : ℕ → ℕ) (place k link : ℕ) → k ≡ 0 → link ≡ 0 → IsLast places place k link
none_last places place k link none zero = record {
  before = omega (arith, none, zero);
  there = λ i e. absurd (omega (arith, zero, e));
  none_after = λ i le lt e. absurd (omega (arith, none, lt));
}

-- where no row is chained, each link tells that there is none
pub none_chained : (rows : List (List ℕ × ℕ)) (links : List ℕ) → length links ≡ 2 * length rows + WINDOW
    → ((i : ℕ) → i < length links → slice_index links i ≡ 0) → AreChained rows 0 links
none_chained rows links count none = record {
  count = count;
  rows_linked = λ i lt. absurd (omega (arith, lt));
  places_linked = λ place lt.
      none_last (places_of rows) place 0 (slice_index links (length rows + place)) refl (none (length rows + place) (omega (arith, lt, count)));
}

-- the last one before the next row, at a place that isn't the row's
last_past : (places : ℕ → ℕ) (place k link : ℕ) → places k ≢ place → IsLast places place k link → IsLast places place (k + 1) link
last_past places place k link other last = record {
  before = let le = last.before in omega (arith, le);
  there = last.there;
  none_after = λ i le lt.
      ⊎_elim (λ below. last.none_after i le below)
      (λ above e. other (ap places (let same : k ≡ i = omega (arith, above, lt) in same) ∙ e)) (cases_lt i k);
}

-- and at the row's own
last_here : (places : ℕ → ℕ) (k : ℕ) → IsLast places (places k) (k + 1) (k + 1)
last_here places k = record {
  before = omega arith;
  there = λ i e. ap places (let same : i ≡ k = omega (arith, e) in same);
  none_after = λ i le lt e. absurd (omega (arith, le, lt));
}

module _ (rows : List (List ℕ × ℕ)) (k head : ℕ) (links once twice : List ℕ) (chained : AreChained rows k links) (within : k < length rows)
    (below : places_of rows k < length rows + WINDOW) (at : head ≡ length rows + places_of rows k)
    (first : once ≡ set links k (slice_index links head)) (second : twice ≡ set once head (k + 1)) where
  -- a link that isn't written stays
  kept : (i : ℕ) → i ≢ k → i ≢ head → slice_index links i ≡ slice_index twice i
  kept i other elsewhere =
      sym (ap (λ l. slice_index l i) second ∙ get_or-set_other once head i (k + 1) 0 elsewhere
      ∙ ap (λ l. slice_index l i) first ∙ get_or-set_other links k i (slice_index links head) 0 other)

  -- the row's tells what its place's told
  of_row : slice_index links head ≡ slice_index twice k
  of_row =
      let apart : k ≢ head = λ e. absurd (omega (arith, e, at, within)) in
      sym (ap (λ l. slice_index l k) second ∙ get_or-set_other once head k (k + 1) 0 apart
      ∙ ap (λ l. slice_index l k) first
      ∙ get_or-set_same links k (slice_index links head) 0 (let count = chained.count in omega (arith, count, within)))

  -- and its place's tells the row
  of_place : k + 1 ≡ slice_index twice head
  of_place =
      let long = ap length first ∙ length-set links k (slice_index links head) in
      sym (ap (λ l. slice_index l head) second
      ∙ get_or-set_same once head (k + 1) 0 (let count = chained.count in omega (arith, count, long, at, below)))

  rows_more : (i : ℕ) → i < k + 1 → IsLast (places_of rows) (places_of rows i) i (slice_index twice i)
  rows_more i lt =
      ⊎_elim
      (λ under. subst (IsLast (places_of rows) (places_of rows i) i)
      (kept i (λ e. absurd (omega (arith, e, under))) (λ e. absurd (omega (arith, e, under, at, within)))) (chained.rows_linked i under))
      (λ over. subst (λ n. IsLast (places_of rows) (places_of rows n) n (slice_index twice n)) (let same : k ≡ i = omega (arith, over, lt) in same)
      (subst (IsLast (places_of rows) (places_of rows k) k) of_row
      (subst (λ n. IsLast (places_of rows) (places_of rows k) k (slice_index links n)) (sym at) (chained.places_linked (places_of rows k) below))))
      (cases_lt i k)

  places_more : (place : ℕ) → place < length rows + WINDOW → IsLast (places_of rows) place (k + 1) (slice_index twice (length rows + place))
  places_more place lt =
      ⊎_elim
      (λ under. elsewhere (λ e. absurd (omega (arith, e, under))))
      (λ over. ⊎_elim
      (λ above. elsewhere (λ e. absurd (omega (arith, e, above))))
      (λ le.
      let same : places_of rows k ≡ place = omega (arith, over, le) in
      subst (λ p. IsLast (places_of rows) p (k + 1) (slice_index twice (length rows + p))) same
      (subst (IsLast (places_of rows) (places_of rows k) (k + 1)) (of_place ∙ ap (slice_index twice) at) (last_here (places_of rows) k)))
      (cases_lt (places_of rows k) place)) (cases_lt place (places_of rows k))
    where
      elsewhere : places_of rows k ≢ place → IsLast (places_of rows) place (k + 1) (slice_index twice (length rows + place))
      elsewhere other =
          last_past (places_of rows) place k _ other
          (subst (IsLast (places_of rows) place k)
          (kept (length rows + place) (λ e. absurd (omega (arith, e, within))) (λ e. other (omega (arith, e, at))))
          (chained.places_linked place lt))

  -- so one more row is chained
  pub one_more_chained : AreChained rows (k + 1) twice
  one_more_chained = record {
    count =
        ap length second ∙ length-set once head (k + 1) ∙ ap length first ∙ length-set links k (slice_index links head) ∙ chained.count;
    rows_linked = rows_more;
    places_linked = places_more;
  }

-- ---- looking along a chain

-- a key that is looked for along the chain of its place: no row from the link on has it
pub record IsSought (rows : List (List ℕ × ℕ)) (key : List ℕ) (link : ℕ) : Type 0 where
  pub within : link ≤ length rows
  pub there : (i : ℕ) → link ≡ i + 1 → places_of rows i ≡ place_of (length rows) key
  pub none_from : (i cost : ℕ) → link ≤ i → slice_get rows i ≡ Some (key, cost) → ⊥

module _ (rows : List (List ℕ × ℕ)) (key : List ℕ) where
  -- a row with the key has the key's place
  own_place : (i cost : ℕ) → slice_get rows i ≡ Some (key, cost) → places_of rows i ≡ place_of (length rows) key
  own_place i cost at = ap (λ (row : List ℕ × ℕ). place_of (length rows) row.0) (get_or_from_slice_get rows i (key, cost) ([], 0) at)

  pub sought_first : (link : ℕ) → IsLast (places_of rows) (place_of (length rows) key) (length rows) link → IsSought rows key link
  sought_first link last = record {
    within = last.before;
    there = last.there;
    none_from = λ i cost le at. last.none_after i le (slice_get_within rows i (key, cost) at) (own_place i cost at);
  }

  -- past a row with another key
  pub sought_next : (link i next cost : ℕ) (other : List ℕ) → IsSought rows key link → link ≡ i + 1 → slice_get rows i ≡ Some (other, cost)
      → key ≢ other → IsLast (places_of rows) (places_of rows i) i next → IsSought rows key next
  sought_next link i next cost other sought is at differs last = record {
    within = let le = last.before in let few = sought.within in omega (arith, le, few, is);
    there = λ j e. last.there j e ∙ sought.there i is;
    none_from = λ j price le there.
        ⊎_elim
        (λ below. last.none_after j le below (own_place j price there ∙ sym (sought.there i is)))
        (λ above. ⊎_elim
        (λ after. sought.none_from j price (omega (arith, is, after)) there)
        (λ upto.
        let same : j ≡ i = omega (arith, above, upto) in
        let one = sym (get_or_from_slice_get rows i (key, price) ([], 0) (subst (λ n. slice_get rows n ≡ Some (key, price)) same there))
        ∙ get_or_from_slice_get rows i (other, cost) ([], 0) at in
        differs (ap (λ (row : List ℕ × ℕ). row.0) one))
        (cases_lt i j)) (cases_lt j i);
  }

  -- at the chain's end no row has it
  pub sought_in_vain : (link : ℕ) → IsSought rows key link → link ≡ 0 → (cost : ℕ) → Contains rows (key, cost) → ⊥
  sought_in_vain link sought none cost (k, lt, e) =
      sought.none_from k cost (omega (arith, none)) (slice_get_read rows (length rows) k (key, cost) refl lt (sym e))
