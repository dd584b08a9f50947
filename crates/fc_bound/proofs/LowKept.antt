-- Which cards wait for none is the same without last cards that wait.
use Rattle.std.proofs.Common.{◌≡◌, ℕ, ◌-◌, ◌<◌, zero, suc, Bool, true, false, cond, Some, List, [], ◌∷◌, length, get_or, sym, ◌∙◌, ap, ⊎_elim, true≢false, arith}
use Rattle.std.specs.Prelude.{◌==◌, ◌||◌, nat_lt, not}
use Rattle.std.specs.List.{list_any}
use Rattle.std.proofs.lemmas.Bool.{cases_Bool, or_cases, eqb-true}
use Rattle.std.proofs.lemmas.Bool.Decides.{nat_tests}
use Rattle.std.proofs.lemmas.List.{get_or-map, length-map}
use Rattle.std.proofs.lemmas.List.Folds.{list_any_at, Any-from_list_any}
use Rattle.fc_cards.specs.Card.{rank}
use Rattle.fc_position.specs.Board.{last_of, front_of}
use Rattle.fc_position.proofs.BoardLemmas.{front_last}
use Rattle.fc_bound.specs.Bound.{is_lower, stands_in}
use Rattle.fc_bound.specs.Clearing.{waits}
use Rattle.fc_bound.specs.Knots.{has_last, is_loose, without_last_where}
use Rattle.fc_bound.specs.Rows.{stands_among}
use Rattle.fc_bound.specs.inner.Rows.{AreLow}
use Rattle.fc_bound.proofs.AboveLemmas.{contains-stands, stands-contains, stands-more}
use Rattle.fc_bound.proofs.BitLemmas.{lower_parts, lower_from}
use Rattle.fc_bound.proofs.ClearingOrders.{fronts-wait}
use Rattle.fc_bound.proofs.FillLemmas.{stands_take}
use Rattle.fc_bound.proofs.HeldLemmas.{found}
use Rattle.fc_bound.proofs.KnotLemmas.{tight-waits}
use Rattle.fc_bound.proofs.KnotShed.{shed-fronts}
use Rattle.fc_bound.proofs.LeftLemmas.{last_is, has_last_is, same_test}

-- of the cards that a card waits for, one waits for none
record Idle (v : List (List ℕ)) (c : ℕ) : Type 0 where
  card : ℕ
  lower : is_lower c card ≡ true
  place : ℕ
  inside : place < length v
  stands : stands_in (get_or v place []) card ≡ true
  idle : waits v (Some card) ≡ false

idle : (n c : ℕ) (v : List (List ℕ)) → c < n → waits v (Some c) ≡ true → Idle v c
idle zero c v few waiting = absurd (omega (arith, few))
idle (suc n) c v few waiting =
    let f = found (list_any (is_lower c)) v waiting in
    let (j, d, below, e, low) = Any-from_list_any (is_lower c) (get_or v f.place []) f.passes in
    let parts = lower_parts c d low in
    ⊎_elim
    (λ more.
    let i = idle n d v (less c d n parts.1 few) more in
    let next = lower_parts d i.card i.lower in
    record {
      card = i.card;
      lower = lower_from c i.card (next.0 ∙ parts.0) (omega (arith, next.1, parts.1));
      place = i.place;
      inside = i.inside;
      stands = i.stands;
      idle = i.idle;
    })
    (λ none. record {
      card = d;
      lower = low;
      place = f.place;
      inside = f.inside;
      stands = contains-stands (get_or v f.place []) d (j, below, e);
      idle = none;
    })
    (cases_Bool (waits v (Some d)))
  where
    less : (c d n : ℕ) → rank d < rank c → c < suc n → d < n
    less c d n ranks few = omega (arith, ranks, few)

-- a card that isn't the last one stays where last cards are shed
stays_in : (flag : Bool) (x : List ℕ) (d : ℕ) → stands_in x d ≡ true → (last_of x ≡ Some d → ⊥) → stands_in (cond flag (front_of x) x) d ≡ true
stays_in false x d stands other = stands
stays_in true [] d stands other = absurd (true≢false (sym stands))
stays_in true (c ∷ cards) d stands other =
    let x : List ℕ = c ∷ cards in
    let (u, last) = last_is (last_of x) (has_some c cards) in
    let whole : (stands_in (front_of x) d || (u == d)) ≡ true =
    sym (ap (λ y. stands_in y d) (front_last x u last) ∙ stands-more (front_of x) u d) ∙ stands in
    ⊎_elim (λ front. front) (λ same. absurd (other (last ∙ ap (λ (k : ℕ). Some k) (eqb-true u d same))))
    (or_cases (stands_in (front_of x) d) (u == d) whole)
  where
    more : (c : ℕ) (cards : List ℕ) → nat_lt 0 (length (c ∷ cards)) ≡ true
    more c cards = grind (arith, nat_tests)

    has_some : (c : ℕ) (cards : List ℕ) → has_last (last_of (c ∷ cards)) ≡ true
    has_some c cards = has_last_is (c ∷ cards) ∙ more c cards

-- where no card may leave at once, those that wait wait where some last cards are shed
still_waits : (v : List (List ℕ)) (test : List ℕ → Bool) (c : ℕ) → list_any (is_loose v) v ≡ false → waits v (Some c) ≡ true
    → waits (without_last_where test v) (Some c) ≡ true
still_waits v test c tight waiting =
    let i = idle (suc c) c v (omega arith) waiting in
    let x : List ℕ = get_or v i.place [] in
    let other : last_of x ≡ Some i.card → ⊥ = λ last.
    true≢false (sym (tight-waits v i.place tight (ap has_last last)) ∙ ap (waits v) last ∙ i.idle) in
    let at : get_or (without_last_where test v) i.place [] ≡ cond (test x) (front_of x) x =
    get_or-map (λ y. cond (test y) (front_of y) y) v i.place [] [] i.inside in
    let stands : stands_in (get_or (without_last_where test v) i.place []) i.card ≡ true =
    ap (λ y. stands_in y i.card) at ∙ stays_in (test x) x i.card i.stands other in
    let (j, below, e) = stands-contains (get_or (without_last_where test v) i.place []) i.card stands in
    list_any_at (list_any (is_lower c)) (without_last_where test v) i.place [] (omega (arith, i.inside, length-map v (λ y. cond (test y) (front_of y) y)))
    (list_any_at (is_lower c) (get_or (without_last_where test v) i.place []) j i.card below (ap (is_lower c) e ∙ i.lower))

stands_before : (v : List (List ℕ)) (test : List ℕ → Bool) (c : ℕ) → stands_among (without_last_where test v) c ≡ true → stands_among v c ≡ true
stands_before v test c among =
    let f = found (λ column. stands_in column c) (without_last_where test v) among in
    let long = length-map v (λ y. cond (test y) (front_of y) y) in
    let x : List ℕ = get_or v f.place [] in
    let inside : f.place < length v = omega (arith, f.inside, long) in
    let at = get_or-map (λ y. cond (test y) (front_of y) y) v f.place [] [] inside in
    list_any_at (λ column. stands_in column c) v f.place [] inside
    (was (test x) x c (sym (ap (λ y. stands_in y c) at) ∙ f.passes))
  where
    was : (flag : Bool) (x : List ℕ) (c : ℕ) → stands_in (cond flag (front_of x) x) c ≡ true → stands_in x c ≡ true
    was false x c stands = stands
    was true x c stands = stands_take (length x - 1) x c stands

pub low_kept : (v : List (List ℕ)) (lows : ℕ) (test : List ℕ → Bool) → list_any (is_loose v) v ≡ false → AreLow lows v
    → AreLow lows (without_last_where test v)
low_kept v lows test tight are c among =
    let now = without_last_where test v in
    are c (stands_before v test c among) ∙ ap (λ t. cond (not t) 1 0)
    (same_test (waits v (Some c)) (waits now (Some c)) (still_waits v test c tight) (fronts-wait now v (Some c) (shed-fronts test v)))
