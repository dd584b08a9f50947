-- Lemmas on stored keys: which is found, which is new, and what stands after one is put in.
use Rattle.std.proofs.Common.{◌≡◌, ℕ, ◌+◌, ◌<◌, Bool, true, false, not, suc, zero, Some, None, List, [], ◌∷◌, ◌++◌, length, cond, refl, sym, ◌∙◌, ap, subst, arith, nat_lt}
use Rattle.std.specs.Prelude.{slice_get, slice_set, position}
use Rattle.std.specs.List.{position_or_len}
use Rattle.std.specs.Map.{keys_of, lookup}
use Rattle.std.proofs.lemmas.Option.{none-some, cond_some, slice_get_within, some_pair_parts}
use Rattle.indexmap.specs.IndexMap.{set_value_at}
use Rattle.fc_frontier.specs.Queue.{Adds}
use Rattle.fc_best_first.specs.declared.books.Mark.{Mark}
use Rattle.fc_best_first.specs.Store.{Store, IsStored}

module _ {K X : Type 0} where
  -- a key that passes the test stands under the number
  abbrev pub Sees : (K → Bool) → List (K × X) → ℕ → Type 0
  Sees t es i = (x : K) × (v : X) × (slice_get es i ≡ Some (x, v)) × (t x ≡ true)

  sees_next : (t : K → Bool) (e : K × X) (es : List (K × X)) (i : ℕ) → Sees t es i → Sees t (e ∷ es) (1 + i)
  sees_next t e es i h =
      let next : suc i ≡ 1 + i = omega arith in
      subst (Sees t (e ∷ es)) next h

  -- the first key that passes the test passes it
  first_passes : (t : K → Bool) (es : List (K × X)) → position_or_len t (keys_of es) < length es
      → Sees t es (position_or_len t (keys_of es))
  first_passes t [] h = absurd (omega (arith, h))
  first_passes t (e ∷ es) h = by (t e.0) refl (λ lt. first_passes t es lt) h
    where
      by : (b : Bool) → t e.0 ≡ b
          → (position_or_len t (keys_of es) < length es → Sees t es (position_or_len t (keys_of es)))
          → cond (not (t e.0)) (1 + position_or_len t (keys_of es)) 0 < suc (length es)
          → Sees t (e ∷ es) (cond (not (t e.0)) (1 + position_or_len t (keys_of es)) 0)
      by true q rest lt = subst (λ b. Sees t (e ∷ es) (cond (not b) (1 + position_or_len t (keys_of es)) 0)) (sym q)
          (e.0, e.1, refl, q)
      by false q rest lt =
          let below : 1 + position_or_len t (keys_of es) < suc (length es) =
          subst (λ b. cond (not b) (1 + position_or_len t (keys_of es)) 0 < suc (length es)) q lt in
          subst (λ b. Sees t (e ∷ es) (cond (not b) (1 + position_or_len t (keys_of es)) 0)) (sym q)
          (sees_next t e es (position_or_len t (keys_of es)) (rest (omega (arith, below))))

  pub found_passes : (t : K → Bool) (es : List (K × X)) (i : ℕ) → Some i ≡ position t (keys_of es) → i < length es
      → Sees t es i
  found_passes t es i at lt =
      let parts = cond_some (nat_lt (position_or_len t (keys_of es)) (length (keys_of es))) (position_or_len t (keys_of es)) i (sym at) in
      subst (Sees t es) parts.1 (first_passes t es (subst (λ n. n < length es) (sym parts.1) lt))

  -- where none is found, none passes
  pub none_passes : (t : K → Bool) (es : List (K × X)) (i : ℕ) (x : K) (v : X) → lookup t es ≡ None
      → slice_get es i ≡ Some (x, v) → t x ≡ true → ⊥
  none_passes t [] i x v none at q = none-some (x, v) at
  none_passes t (e ∷ es) zero x v none at q =
      let same : e ≡ (x, v) = cc in
      let head : t e.0 ≡ true = ap (λ p. t p.0) same ∙ q in
      none-some e.1 (sym none ∙ ap (λ b. cond b (Some e.1) (lookup t es)) head)
  none_passes t (e ∷ es) (suc i) x v none at q = by (t e.0) refl (λ rest. none_passes t es i x v rest at q)
    where
      by : (b : Bool) → t e.0 ≡ b → (lookup t es ≡ None → ⊥) → ⊥
      by true h rest = none-some e.1 (sym none ∙ ap (λ b. cond b (Some e.1) (lookup t es)) h)
      by false h rest = rest (ap (λ b. cond b (Some e.1) (lookup t es)) (sym h) ∙ none)

  -- and where none passes, none is found
  pub none_found : (t : K → Bool) (es : List (K × X))
      → ((i : ℕ) (x : K) (v : X) → slice_get es i ≡ Some (x, v) → t x ≡ true → ⊥) → lookup t es ≡ None
  none_found t [] h = refl
  none_found t (e ∷ es) h = by (t e.0) refl (none_found t es (λ i x v at. h (suc i) x v at))
    where
      by : (b : Bool) → t e.0 ≡ b → lookup t es ≡ None → cond (t e.0) (Some e.1) (lookup t es) ≡ None
      by true q rest = absurd (h 0 e.0 e.1 refl q)
      by false q rest = ap (λ b. cond b (Some e.1) (lookup t es)) q ∙ rest

  -- after a mark was set
  pub set_here : (es : List (K × X)) (i : ℕ) (x : K) (v w : X) → slice_get es i ≡ Some (x, v)
      → slice_get (set_value_at es i w) i ≡ Some (x, w)
  set_here [] i x v w at = absurd (none-some (x, v) at)
  set_here (e ∷ es) zero x v w at =
      let same : e ≡ (x, v) = cc in
      ap (λ p. Some (p.0, w)) same
  set_here (e ∷ es) (suc i) x v w at = set_here es i x v w at

  pub set_elsewhere : (es : List (K × X)) (i j : ℕ) (w : X) → (j ≡ i → ⊥)
      → slice_get (set_value_at es i w) j ≡ slice_get es j
  set_elsewhere [] i j w ne = refl
  set_elsewhere (e ∷ es) zero zero w ne = absurd (ne refl)
  set_elsewhere (e ∷ es) zero (suc j) w ne = refl
  set_elsewhere (e ∷ es) (suc i) zero w ne = refl
  set_elsewhere (e ∷ es) (suc i) (suc j) w ne = set_elsewhere es i j w (λ q. ne (ap suc q))

module _ {E : Type 0} where
  -- after one was added
  pub push_here : (es : List E) (e : E) → slice_get (es ++ e ∷ []) (length es) ≡ Some e
  push_here [] e = refl
  push_here (d ∷ es) e = push_here es e

  pub push_elsewhere : (es : List E) (e : E) (j : ℕ) → (j ≡ length es → ⊥) → slice_get (es ++ e ∷ []) j ≡ slice_get es j
  push_elsewhere [] e zero ne = absurd (ne refl)
  push_elsewhere [] e (suc j) ne = refl
  push_elsewhere (d ∷ es) e zero ne = refl
  push_elsewhere (d ∷ es) e (suc j) ne = push_elsewhere es e j (λ q. ne (ap suc q))

  -- after one took the place of another
  pub slot_here : (es : List E) (i : ℕ) (e : E) → i < length es → slice_get (slice_set es i e) i ≡ Some e
  slot_here [] i e lt = absurd (omega (arith, lt))
  slot_here (d ∷ es) zero e lt = refl
  slot_here (d ∷ es) (suc i) e lt = slot_here es i e (omega (arith, lt))

  pub slot_elsewhere : (es : List E) (i j : ℕ) (e : E) → (j ≡ i → ⊥) → slice_get (slice_set es i e) j ≡ slice_get es j
  slot_elsewhere [] i j e ne = refl
  slot_elsewhere (d ∷ es) zero zero e ne = absurd (ne refl)
  slot_elsewhere (d ∷ es) zero (suc j) e ne = refl
  slot_elsewhere (d ∷ es) (suc i) zero e ne = refl
  slot_elsewhere (d ∷ es) (suc i) (suc j) e ne = slot_elsewhere es i j e (λ q. ne (ap suc q))

  pub length-slot : (es : List E) (i : ℕ) (e : E) → length (slice_set es i e) ≡ length es
  length-slot [] i e = refl
  length-slot (d ∷ es) zero e = refl
  length-slot (d ∷ es) (suc i) e = ap suc (length-slot es i e)

module _ {K : Type 0} where
  -- the entry that a look-up finds is of the key that was sought
  pub found_stands : (eq : K → K → Bool) → ((x y : K) → eq x y ≡ true → x ≡ y) → (es : List (K × Mark)) (s : Store K)
      → es ≡ s.stored → (x y : K) (m : Mark) (i : ℕ) → Some i ≡ position (eq x) (keys_of es) → slice_get es i ≡ Some (y, m)
      → IsStored s i x m
  found_stands eq exact es s same x y m i at entry =
      let seen = found_passes (eq x) es i at (slice_get_within es i (y, m) entry) in
      let both = some_pair_parts seen.0 y seen.1 m (sym seen.2 ∙ entry) in
      let own = exact x y (subst (λ k. eq x k ≡ true) both.0 seen.3) in
      subst (λ fs. slice_get fs i ≡ Some (x, m)) same (subst (λ k. slice_get es i ≡ Some (k, m)) (sym own) entry)

pub adds_along : (old was new : List (ℕ × ℕ)) (f i j : ℕ) → old ≡ was → i ≡ j → Adds old new (f, i) → Adds was new (f, j)
adds_along old was new f i j same e h = subst (λ k. Adds was new (f, k)) e (subst (λ ps. Adds ps new (f, i)) same h)
