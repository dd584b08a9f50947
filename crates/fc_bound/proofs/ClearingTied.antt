-- Tied columns: in a best order one of their last cards goes first, at a cost of one.
use Rattle.std.proofs.Common.{◌≡◌, ◌≢◌, ℕ, ◌+◌, ◌≤◌, Bool, true, false, cond, Option, Some, None, List, [], ◌∷◌, get_or, set, refl, sym, ◌∙◌, ap, ⊎_elim, true≢false, arith, length}
use Rattle.std.specs.Prelude.{◌==◌}
use Rattle.std.specs.List.{list_any}
use Rattle.std.proofs.lemmas.Bool.{cases_lt, eq-eqb, eqb-true}
use Rattle.std.proofs.lemmas.List.{get_or_past, get_or-set_other, set_comm}
use Rattle.std.proofs.lemmas.List.Folds.{list_any_at}
use Rattle.fc_position.specs.Board.{last_of, front_of}
use Rattle.fc_bound.specs.Bound.{is_lower, stands_in}
use Rattle.fc_bound.specs.Clearing.{waits, fee, without, order_cost, clearing_cost}
use Rattle.fc_bound.specs.Laws.{AreTied, OneOfTheTiedGoesFirst}
use Rattle.fc_bound.proofs.AboveLemmas.{or-false, contains-stands, stands-contains}
use Rattle.fc_bound.proofs.ClearingLemmas.{cases_last, cards_without, clearing_least, clearing_order}
use Rattle.fc_bound.proofs.ClearingOrders.{bits_more, fronts-wait, without-front, cost-taken}

-- columns that are tied, told by a test of their places
pub record TiedBy (columns : List (List ℕ)) (tied : ℕ → Bool) : Type 0 where
  pub one : ℕ
  pub one_tied : tied one ≡ true
  pub wait : (i : ℕ) → tied i ≡ true → (j : ℕ) × (tied j ≡ true)
      × (waits (get_or columns j [] ∷ []) (last_of (get_or columns i [])) ≡ true)

-- a card that waits for one of a column waits for one of the columns
pub waits-one : (columns : List (List ℕ)) (j : ℕ) (o : Option ℕ) → waits (get_or columns j [] ∷ []) o ≡ true → waits columns o ≡ true
waits-one columns j None waiting = waiting
waits-one columns j (Some u) waiting =
    ⊎_elim
    (λ inside. list_any_at (list_any (is_lower u)) columns j [] inside
    (sym (or-false (list_any (is_lower u) (get_or columns j []))) ∙ waiting))
    (λ past. let none : waits (get_or columns j [] ∷ []) (Some u) ≡ false =
    ap (λ cards. waits (cards ∷ []) (Some u)) (get_or_past columns j [] past) in
    absurd (true≢false (sym waiting ∙ none)))
    (cases_lt j (length columns))

-- a tied column has a last card, at a fee of one
tied-last : (columns : List (List ℕ)) (tied : ℕ → Bool) (i : ℕ) → TiedBy columns tied → tied i ≡ true
    → (u : ℕ) × (last_of (get_or columns i []) ≡ Some u)
tied-last columns tied i t here =
    let w = t.wait i here in
    ⊎_elim
    (λ none. let idle : waits (get_or columns w.0 [] ∷ []) (last_of (get_or columns i [])) ≡ false =
    ap (waits (get_or columns w.0 [] ∷ [])) none in
    absurd (true≢false (sym w.2 ∙ idle)))
    (λ some_last. some_last)
    (cases_last columns i)

tied-fee : (columns : List (List ℕ)) (tied : ℕ → Bool) (i : ℕ) → TiedBy columns tied → tied i ≡ true → fee columns i ≡ 1
tied-fee columns tied i t here =
    let w = t.wait i here in ap (λ t. cond t 1 0) (waits-one columns w.0 (last_of (get_or columns i [])) w.2)

-- a column without its last card leaves the others as they are
without-other : (columns : List (List ℕ)) (i k : ℕ) → k ≢ i → get_or (without columns i) k [] ≡ get_or columns k []
without-other columns i k other = get_or-set_other columns i k (front_of (get_or columns i [])) [] other

without-both : (columns : List (List ℕ)) (i k : ℕ) → k ≢ i → without (without columns i) k ≡ without (without columns k) i
without-both columns i k other =
    ap (λ cards. set (without columns i) k (front_of cards)) (without-other columns i k other)
    ∙ set_comm columns i k (front_of (get_or columns i [])) (front_of (get_or columns k [])) (λ e. other (sym e))
    ∙ sym (ap (λ cards. set (without columns k) i (front_of cards)) (without-other columns k i (λ e. other (sym e))))

-- without one column's last card another's costs no more
without-fee : (columns : List (List ℕ)) (i k : ℕ) → k ≢ i → fee (without columns i) k ≤ fee columns k
without-fee columns i k other =
    let same = without-other columns i k other in
    bits_more (waits (without columns i) (last_of (get_or (without columns i) k []))) (waits columns (last_of (get_or columns k [])))
    (λ waiting. fronts-wait (without columns i) columns (last_of (get_or columns k [])) (without-front columns i)
    (ap (λ cards. waits (without columns i) (last_of cards)) (sym same) ∙ waiting))

-- columns stay tied where another one loses its last card
tied-without : (columns : List (List ℕ)) (tied : ℕ → Bool) (k : ℕ) → TiedBy columns tied → tied k ≡ false
    → TiedBy (without columns k) tied
tied-without columns tied k t loose = record {
  one = t.one;
  one_tied = t.one_tied;
  wait = λ i here.
      let w = t.wait i here in (
        w.0,
        w.1,
        ap (λ cards. waits (cards ∷ []) (last_of (get_or (without columns k) i []))) (same w.0 w.1)
            ∙ ap (λ cards. waits (get_or columns w.0 [] ∷ []) (last_of cards)) (same i here) ∙ w.2,
      );
}
  where
    same : (i : ℕ) → tied i ≡ true → get_or (without columns k) i [] ≡ get_or columns i []
    same i here = without-other columns k i (λ e. true≢false (sym here ∙ ap tied e ∙ loose))

-- a tied column whose last card may go first, within a cost
record FirstWithin (columns : List (List ℕ)) (tied : ℕ → Bool) (cost : ℕ) : Type 0 where
  place : ℕ
  is_tied : tied place ≡ true
  less : 1 + clearing_cost (without columns place) ≤ cost

-- what is first after another card of a best order is first before it
first-before : (columns : List (List ℕ)) (tied : ℕ → Bool) (k cost : ℕ) → tied k ≡ false
    → FirstWithin (without columns k) tied cost → FirstWithin columns tied (fee columns k + cost)
first-before columns tied k cost loose later = record {
  place = later.place;
  is_tied = later.is_tied;
  less =
      let i = later.place in
      let other : k ≢ i = λ e. true≢false (sym later.is_tied ∙ ap tied (sym e) ∙ loose) in
      let both : clearing_cost (without (without columns i) k) ≡ clearing_cost (without (without columns k) i) =
      ap clearing_cost (without-both columns i k other) in
      omega (arith, later.less, both, without-fee columns i k other, cost-taken (without columns i) k);
}

tied-order : (order : List ℕ) (columns : List (List ℕ)) (tied : ℕ → Bool) → TiedBy columns tied
    → FirstWithin columns tied (order_cost columns order)
tied-order [] columns tied t = record {
  place = t.one;
  is_tied = t.one_tied;
  less =
      let some_last = tied-last columns tied t.one t t.one_tied in
      omega (arith, clearing_least (without columns t.one) [], cards_without columns t.one some_last.0 some_last.1);
}
tied-order (k ∷ order) columns tied t =
    elim (tied k) as (λ b. tied k ≡ b → FirstWithin columns tied (order_cost columns (k ∷ order))) [
      | true ↦ λ here. record {
        place = k;
        is_tied = here;
        less = omega (arith, tied-fee columns tied k t here, clearing_least (without columns k) order);
      }
      | false ↦ λ loose. first-before columns tied k (order_cost (without columns k) order) loose
          (tied-order order (without columns k) tied (tied-without columns tied k t loose))
    ] refl

-- of tied columns, some one's last card goes first
pub tied-best : (columns : List (List ℕ)) (tied : ℕ → Bool) → TiedBy columns tied
    → (i : ℕ) × (tied i ≡ true) × (clearing_cost columns ≡ 1 + clearing_cost (without columns i))
tied-best columns tied t =
    let best = clearing_order columns in
    let f = tied-order best.0 columns tied t in (
      f.place,
      f.is_tied,
      omega (arith, f.less, best.1, tied-fee columns tied f.place t f.is_tied, cost-taken columns f.place),
    )

-- a column whose last card waits for one beneath it is tied alone
pub tied-alone : (columns : List (List ℕ)) (i : ℕ) → waits (get_or columns i [] ∷ []) (last_of (get_or columns i [])) ≡ true
    → clearing_cost columns ≡ 1 + clearing_cost (without columns i)
tied-alone columns i waiting =
    let itself : (i == i) ≡ true = eq-eqb i i refl in
    let alone = tied-best columns (λ k. k == i) (record {
      one = i;
      one_tied = itself;
      wait = λ k here. (
        i,
        itself,
        ap (λ j. waits (get_or columns i [] ∷ []) (last_of (get_or columns j []))) (eqb-true k i here) ∙ waiting,
      );
    }) in
    alone.2 ∙ ap (λ j. 1 + clearing_cost (without columns j)) (eqb-true alone.0 i alone.1)

-- the same of a list of columns
tied-by : (columns : List (List ℕ)) (tied : List ℕ) → AreTied columns tied → TiedBy columns (stands_in tied)
tied-by columns [] t = absurd (t.some_column refl)
tied-by columns (x ∷ xs) t = record {
  one = x;
  one_tied = contains-stands (x ∷ xs) x (0, omega arith, refl);
  wait = λ i here.
      let w = t.wait i (stands-contains (x ∷ xs) i here) in (w.0, contains-stands (x ∷ xs) w.0 w.1, w.2);
}

pub tied_first : OneOfTheTiedGoesFirst
tied_first columns tied t =
    let best = tied-best columns (stands_in tied) (tied-by columns tied t) in (best.0, stands-contains tied best.0 best.1, best.2)
