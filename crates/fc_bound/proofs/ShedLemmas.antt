-- How columns shed their last cards one after another, by bits of these cards.
use Rattle.std.proofs.Common.{◌≡◌, ℕ, ◌+◌, ◌^◌, ◌<◌, ◌≤◌, zero, suc, Bool, true, false, cond, Option, Some, None, List, [], ◌∷◌, length, get_or, set, refl, sym, ◌∙◌, ap, ⊎_elim, arith}
use Rattle.std.specs.Prelude.{◌==◌, ◌&&◌, ◌||◌, not, count_by}
use Rattle.std.specs.Int.{bit_at}
use Rattle.std.specs.List.{list_any}
use Rattle.std.proofs.lemmas.Bool.{cases_eq, and_parts, eq-eqb, eqb-true}
use Rattle.std.proofs.lemmas.Bool.Decides.{nat_tests}
use Rattle.std.proofs.lemmas.List.{get_or-map, get_or-set_same, get_or-set_other, length-set, length-map}
use Rattle.std.proofs.lemmas.List.Folds.{list_any_at}
use Rattle.std.proofs.lemmas.List.Sums.{sum_by-cons, count_by-le-length}
use Rattle.std.proofs.lemmas.Nat.Bits.{bit_at-zero}
use Rattle.fc_position.specs.Board.{last_of, front_of}
use Rattle.fc_bound.specs.Clearing.{without, waits}
use Rattle.fc_bound.specs.inner.Rows.{AreApart, Mark, ends_in}
use Rattle.fc_bound.specs.Knots.{has_last, waits_above, is_loose, without_last_where}
use Rattle.fc_bound.proofs.AboveLemmas.{and-true, not_true}
use Rattle.fc_bound.proofs.BitLemmas.{some_bit, no_bits}
use Rattle.fc_bound.proofs.HeldLemmas.{found}
use Rattle.fc_bound.proofs.LeftLemmas.{ends_at, shed_all, same_test, last_is}
use Rattle.fc_bound.proofs.KnotSteps.{above_loose}

-- the last card's bit is among these, and no more among the rest
abbrev pub is_gone : ℕ → ℕ → List ℕ → Bool
is_gone bits rest x = ends_in bits (last_of x) && not (ends_in rest (last_of x))

-- counts of tests that agree, everywhere and but for one place
pub count_each : (p q : List ℕ → Bool) (xs : List (List ℕ)) → ((k : ℕ) → k < length xs → p (get_or xs k []) ≡ q (get_or xs k []))
    → count_by p xs ≡ count_by q xs
count_each p q [] agree = refl
count_each p q (x ∷ xs) agree =
    let here : ◌≡◌ {A = ℕ} (cond (p x) 1 0) (cond (q x) 1 0) = ap (λ t. cond t 1 0) (agree 0 (omega arith)) in
    omega (
      arith,
      sum_by-cons (λ x. cond (p x) 1 0) x xs,
      sum_by-cons (λ x. cond (q x) 1 0) x xs,
      here,
      count_each p q xs (λ k inside. agree (suc k) (omega (arith, inside))),
    )

count_but_one : (p q : List ℕ → Bool) (xs : List (List ℕ)) (i : ℕ) → i < length xs
    → ((k : ℕ) → k < length xs → (k ≡ i → ⊥) → p (get_or xs k []) ≡ q (get_or xs k []))
    → count_by p xs + cond (q (get_or xs i [])) 1 0 ≡ count_by q xs + cond (p (get_or xs i [])) 1 0
count_but_one p q [] i inside agree = absurd (omega (arith, inside))
count_but_one p q (x ∷ xs) zero inside agree =
    let rest = count_each p q xs (λ k below. agree (suc k) (omega (arith, below)) (λ e. omega (arith, e))) in
    omega (arith, sum_by-cons (λ x. cond (p x) 1 0) x xs, sum_by-cons (λ x. cond (q x) 1 0) x xs, rest)
count_but_one p q (x ∷ xs) (suc i) inside agree =
    let here : ◌≡◌ {A = ℕ} (cond (p x) 1 0) (cond (q x) 1 0) = ap (λ t. cond t 1 0) (agree 0 (omega arith) (λ e. omega (arith, e))) in
    let rest = count_but_one p q xs i (omega (arith, inside)) (λ k below ne. agree (suc k) (omega (arith, below)) (λ e. ne (omega (arith, e)))) in
    omega (arith, sum_by-cons (λ x. cond (p x) 1 0) x xs, sum_by-cons (λ x. cond (q x) 1 0) x xs, here, rest)

-- one more of them is gone
pub record Goes (columns now : List (List ℕ)) (bits rest less u : ℕ) : Type 0 where
  pub is : now ≡ without_last_where (is_gone bits rest) columns
  pub set : bit_at rest u ≡ 1
  pub among : bit_at bits u ≡ 1
  pub removed : (d : ℕ) → bit_at less d ≡ cond (d == u) 0 (bit_at rest d)
  pub apart : AreApart now

now_at : (columns now : List (List ℕ)) (bits rest k : ℕ) → now ≡ without_last_where (is_gone bits rest) columns → k < length columns
    → get_or now k [] ≡ cond (is_gone bits rest (get_or columns k [])) (front_of (get_or columns k [])) (get_or columns k [])
now_at columns now bits rest k is inside =
    ap (λ v. get_or v k []) is ∙ get_or-map (λ x. cond (is_gone bits rest x) (front_of x) x) columns k [] [] inside

-- a last card that is still among the rest stays
pub stays : (columns now : List (List ℕ)) (bits rest k u : ℕ) → now ≡ without_last_where (is_gone bits rest) columns → k < length columns
    → bit_at rest u ≡ 1 → last_of (get_or columns k []) ≡ Some u → get_or now k [] ≡ get_or columns k []
stays columns now bits rest k u is inside set last =
    let x : List ℕ = get_or columns k [] in
    let kept : is_gone bits rest x ≡ false =
    ap (λ o. ends_in bits o && not (ends_in rest o)) last ∙ ap (λ (n : ℕ). (bit_at bits u == 1) && not (n == 1)) set ∙ and_none (bit_at bits u == 1) in
    now_at columns now bits rest k is inside ∙ ap (λ t. cond t (front_of x) x) kept
  where
    and_none : (t : Bool) → (t && not true) ≡ false
    and_none true = refl
    and_none false = refl

ends_less : (rest less u : ℕ) (o : Option ℕ) → ((d : ℕ) → bit_at less d ≡ cond (d == u) 0 (bit_at rest d)) → (o ≡ Some u → ⊥)
    → ends_in less o ≡ ends_in rest o
ends_less rest less u None removed other = refl
ends_less rest less u (Some v) removed other =
    let test : (v == u) ≡ false = not_equal v u (λ e. other (ap Some e)) in
    ap (λ (n : ℕ). n == 1) (removed v ∙ ap (λ t. cond t 0 (bit_at rest v)) test)
  where
    not_equal : (v u : ℕ) → (v ≡ u → ⊥) → (v == u) ≡ false
    not_equal v u ne = grind (arith, nat_tests)

others_same : (columns now : List (List ℕ)) (bits rest less u i k : ℕ) → Goes columns now bits rest less u → i < length columns
    → last_of (get_or columns i []) ≡ Some u → k < length columns → (k ≡ i → ⊥)
    → is_gone bits less (get_or columns k []) ≡ is_gone bits rest (get_or columns k [])
others_same columns now bits rest less u i k g inside last below ne =
    let other : last_of (get_or columns k []) ≡ Some u → ⊥ = λ same.
    let here = ap last_of (stays columns now bits rest i u g.is inside g.set last) ∙ last in
    let there = ap last_of (stays columns now bits rest k u g.is below g.set same) ∙ same in
    ne (g.apart k i u there here) in
    ap (λ t. ends_in bits (last_of (get_or columns k [])) && not t) (ends_less rest less u (last_of (get_or columns k [])) g.removed other)

gone_now : (columns now : List (List ℕ)) (bits rest less u i : ℕ) → Goes columns now bits rest less u
    → last_of (get_or columns i []) ≡ Some u → is_gone bits less (get_or columns i []) ≡ true
gone_now columns now bits rest less u i g last =
    let test : (u == u) ≡ true = eq-eqb u u refl in
    ap (λ o. ends_in bits o && not (ends_in less o)) last
    ∙ ap (λ (n : ℕ). (n == 1) && not (bit_at less u == 1)) g.among
    ∙ ap (λ (n : ℕ). true && not (n == 1)) (g.removed u ∙ ap (λ t. cond t 0 (bit_at rest u)) test)

pub one_gone : (columns now : List (List ℕ)) (bits rest less u i : ℕ) → Goes columns now bits rest less u → i < length columns
    → last_of (get_or columns i []) ≡ Some u → without now i ≡ without_last_where (is_gone bits less) columns
one_gone columns now bits rest less u i g inside last =
    let lost : List ℕ = front_of (get_or now i []) in
    let long : length now ≡ length columns = ap (λ (v : List (List ℕ)). length v) g.is ∙ length-map columns (λ x. cond (is_gone bits rest x) (front_of x) x) in
    shed_all (is_gone bits less) columns (set now i lost) (length-set now i lost ∙ long) (λ k below. ⊎_elim
    (λ e. ap (λ j. get_or (set now i lost) j []) e ∙ get_or-set_same now i lost [] (omega (arith, long, inside))
    ∙ ap front_of (stays columns now bits rest i u g.is inside g.set last)
    ∙ sym (ap (λ j. cond (is_gone bits less (get_or columns j [])) (front_of (get_or columns j [])) (get_or columns j [])) e
    ∙ ap (λ t. cond t (front_of (get_or columns i [])) (get_or columns i [])) (gone_now columns now bits rest less u i g last)))
    (λ ne. get_or-set_other now i k lost [] ne ∙ now_at columns now bits rest k g.is below
    ∙ ap (λ t. cond t (front_of (get_or columns k [])) (get_or columns k [])) (sym (others_same columns now bits rest less u i k g inside last below ne)))
    (cases_eq k i))

pub one_met : (columns now : List (List ℕ)) (bits rest less u i : ℕ) → Goes columns now bits rest less u → i < length columns
    → last_of (get_or columns i []) ≡ Some u
    → count_by (λ x. is_gone bits less x && waits_above x) columns
    ≡ count_by (λ x. is_gone bits rest x && waits_above x) columns + cond (waits_above (get_or columns i [])) 1 0
one_met columns now bits rest less u i g inside last =
    let x : List ℕ = get_or columns i [] in
    let many = count_but_one (λ x. is_gone bits less x && waits_above x) (λ x. is_gone bits rest x && waits_above x) columns i inside
    (λ k below ne. ap (λ t. t && waits_above (get_or columns k [])) (others_same columns now bits rest less u i k g inside last below ne)) in
    let after : ◌≡◌ {A = ℕ} (cond (is_gone bits less x && waits_above x) 1 0) (cond (waits_above x) 1 0) =
    ap (λ t. cond (t && waits_above x) 1 0) (gone_now columns now bits rest less u i g last) in
    let before : ◌≡◌ {A = ℕ} (cond (is_gone bits rest x && waits_above x) 1 0) 0 =
    ap (λ o. cond ((ends_in bits o && not (ends_in rest o)) && waits_above x) 1 0) last
    ∙ ap (λ (n : ℕ). cond (((bit_at bits u == 1) && not (n == 1)) && waits_above x) 1 0) g.set ∙ none (bit_at bits u == 1) (waits_above x) in
    omega (arith, many, after, before)
  where
    none : (s t : Bool) → ◌≡◌ {A = ℕ} (cond ((s && not true) && t) 1 0) 0
    none true t = refl
    none false t = refl

-- at first none is gone, and at the end all are
none_gone : (bits : ℕ) (x : List ℕ) → is_gone bits bits x ≡ false
none_gone bits x = go (ends_in bits (last_of x))
  where
    go : (t : Bool) → (t && not t) ≡ false
    go true = refl
    go false = refl

pub first_gone : (columns : List (List ℕ)) (bits : ℕ) → columns ≡ without_last_where (is_gone bits bits) columns
first_gone columns bits =
    shed_all (is_gone bits bits) columns columns refl
    (λ k below. sym (ap (λ t. cond t (front_of (get_or columns k [])) (get_or columns k [])) (none_gone bits (get_or columns k []))))

pub first_met : (columns : List (List ℕ)) (bits : ℕ) → count_by (λ x. is_gone bits bits x && waits_above x) columns ≡ 0
first_met columns bits =
    count_each (λ x. is_gone bits bits x && waits_above x) (λ x. false) columns
    (λ k below. ap (λ t. t && waits_above (get_or columns k [])) (none_gone bits (get_or columns k []))) ∙ none columns
  where
    none : (xs : List (List ℕ)) → count_by (λ x. false) xs ≡ 0
    none [] = refl
    none (x ∷ xs) = omega (arith, sum_by-cons (λ (x : List ℕ). 0) x xs, none xs)

all_gone : (bits rest : ℕ) (o : Option ℕ) → rest ≡ 0 → (ends_in bits o && not (ends_in rest o)) ≡ ends_in bits o
all_gone bits rest None none = refl
all_gone bits rest (Some u) none =
    ap (λ (n : ℕ). (bit_at bits u == 1) && not (n == 1)) (ap (λ n. bit_at n u) none ∙ bit_at-zero u) ∙ and-true (bit_at bits u == 1)

pub last_gone : (columns : List (List ℕ)) (bits rest : ℕ) → rest ≡ 0
    → without_last_where (is_gone bits rest) columns ≡ without_last_where (λ x. ends_in bits (last_of x)) columns
last_gone columns bits rest none = ap (λ test. without_last_where test columns) (λ i x. all_gone bits rest (last_of x) none i)

pub last_met : (columns : List (List ℕ)) (bits rest : ℕ) → rest ≡ 0
    → count_by (λ x. is_gone bits rest x && waits_above x) columns ≡ count_by (λ x. ends_in bits (last_of x) && waits_above x) columns
last_met columns bits rest none = ap (λ (test : List ℕ → Bool). count_by (λ x. test x && waits_above x) columns) (λ i x. all_gone bits rest (last_of x) none i)

pub met_most : (columns : List (List ℕ)) (test : List ℕ → Bool) → count_by test columns ≤ length columns
met_most columns test = count_by-le-length test columns

-- of the cards that leave at once, those that wait for a card beneath them are all that do
pub loose_met : (columns : List (List ℕ)) (bits : ℕ) → Mark bits columns (is_loose columns)
    → count_by (λ x. ends_in bits (last_of x) && waits_above x) columns ≡ count_by waits_above columns
loose_met columns bits mark =
    count_each (λ x. ends_in bits (last_of x) && waits_above x) waits_above columns (λ k below.
    let x : List ℕ = get_or columns k [] in
    same_test (ends_in bits (last_of x) && waits_above x) (waits_above x)
    (λ both. (and_parts (ends_in bits (last_of x)) (waits_above x) both).1)
    (λ above.
    let loose = above_loose columns x above in
    let has = (and_parts (has_last (last_of x)) (not (waits columns (last_of x)) || waits_above x) loose).0 in
    ap (λ t. t && waits_above x) (mark.each k below ∙ ap (λ t. t && has_last (last_of x)) loose ∙ has) ∙ above))

-- a bit that is still set was set before
pub still : (rest less u w : ℕ) → ((d : ℕ) → bit_at less d ≡ cond (d == u) 0 (bit_at rest d)) → bit_at less w ≡ 1 → bit_at rest w ≡ 1
still rest less u w removed set =
    ⊎_elim
    (λ e. absurd (no_one (sym (removed u ∙ ap (λ t. cond t 0 (bit_at rest u)) (eq-eqb u u refl)) ∙ ap (bit_at less) (sym e) ∙ set)))
    (λ ne. sym (removed w ∙ ap (λ t. cond t 0 (bit_at rest w)) (other w u ne)) ∙ set)
    (cases_eq w u)
  where
    no_one : ◌≡◌ {A = ℕ} 0 1 → ⊥
    no_one e = omega (arith, e)

    other : (w u : ℕ) → (w ≡ u → ⊥) → (w == u) ≡ false
    other w u ne = grind (arith, nat_tests)

pub kept : (rest less u w : ℕ) → ((d : ℕ) → bit_at less d ≡ cond (d == u) 0 (bit_at rest d)) → (w ≡ u → ⊥) → bit_at rest w ≡ 1 → bit_at less w ≡ 1
kept rest less u w removed ne set = removed w ∙ ap (λ t. cond t 0 (bit_at rest w)) (other w u ne) ∙ set
  where
    other : (w u : ℕ) → (w ≡ u → ⊥) → (w == u) ≡ false
    other w u ne = grind (arith, nat_tests)

-- where no card may leave at once no bit is set, and where some bit is, one may
pub mark_none : (columns : List (List ℕ)) (bits : ℕ) → Mark bits columns (is_loose columns) → bits ≡ 0
    → list_any (is_loose columns) columns ≡ false
mark_none columns bits mark none = not_true (list_any (is_loose columns) columns) (λ any.
    let f = found (is_loose columns) columns any in
    let x : List ℕ = get_or columns f.place [] in
    let has = (and_parts (has_last (last_of x)) (not (waits columns (last_of x)) || waits_above x) f.passes).0 in
    let u = last_is (last_of x) has in
    let ends = mark.each f.place f.inside ∙ ap (λ t. t && has_last (last_of x)) f.passes ∙ has in
    no_bits bits u.0 none (eqb-true (bit_at bits u.0) 1 (ap (ends_in bits) (sym u.1) ∙ ends)))

pub mark_some : (columns : List (List ℕ)) (bits : ℕ) → Mark bits columns (is_loose columns) → 0 < bits → bits < 2 ^ 64
    → list_any (is_loose columns) columns ≡ true
mark_some columns bits mark some fits =
    let s = some_bit bits some fits in
    let e = ends_at columns s.place (mark.lasts s.place s.set) in
    let x : List ℕ = get_or columns e.place [] in
    let ends : ends_in bits (last_of x) ≡ true = ap (ends_in bits) e.last ∙ ap (λ (n : ℕ). n == 1) s.set in
    list_any_at (is_loose columns) columns e.place [] e.inside
    (and_parts (is_loose columns x) (has_last (last_of x)) (sym (mark.each e.place e.inside) ∙ ends)).0
