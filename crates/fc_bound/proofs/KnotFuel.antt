-- More steps than there are cards change no count of knots.
use Rattle.std.proofs.Common.{◌≡◌, ℕ, ◌+◌, ◌-◌, ◌≤◌, zero, suc, List, ◌∙◌, sym, ap, ⊎_elim, arith}
use Rattle.std.specs.Prelude.{count_by}
use Rattle.std.specs.List.{list_any}
use Rattle.std.proofs.lemmas.Bool.{cases_Bool}
use Rattle.fc_position.specs.Board.{last_of}
use Rattle.fc_bound.specs.Clearing.{cards_in}
use Rattle.fc_bound.specs.Knots.{has_last, is_loose, is_in_knot, waits_above, without_last_where, knots, knot_count}
use Rattle.fc_bound.proofs.ClearingSearch.{loose_fewer}
use Rattle.fc_bound.proofs.KnotSteps.{knots_loose, knots_knot, knots_none, shed_knot, count_is}

enough : (steps : ℕ) (columns : List (List ℕ)) → cards_in columns ≤ steps → knots (suc steps) columns ≡ knots steps columns
enough zero columns few =
    ⊎_elim (λ loose. absurd (omega (arith, few, loose_fewer columns loose)))
    (λ tight. ⊎_elim (λ some_last. absurd (omega (arith, few, shed_knot columns some_last)))
    (λ none. knots_none columns tight none 1 ∙ sym (knots_none columns tight none 0))
    (cases_Bool (list_any (λ column. has_last (last_of column)) columns)))
    (cases_Bool (list_any (is_loose columns) columns))
enough (suc steps) columns few =
    ⊎_elim
    (λ loose. knots_loose columns loose (suc steps)
    ∙ ap (λ n. count_by waits_above columns + n) (enough steps (without_last_where (is_loose columns) columns) (omega (arith, few, loose_fewer columns loose)))
    ∙ sym (knots_loose columns loose steps))
    (λ tight. ⊎_elim
    (λ some_last. knots_knot columns tight some_last (suc steps)
    ∙ ap (λ n. 1 + n) (enough steps (without_last_where (is_in_knot columns) columns) (omega (arith, few, shed_knot columns some_last)))
    ∙ sym (knots_knot columns tight some_last steps))
    (λ none. knots_none columns tight none (suc (suc steps)) ∙ sym (knots_none columns tight none (suc steps)))
    (cases_Bool (list_any (λ column. has_last (last_of column)) columns)))
    (cases_Bool (list_any (is_loose columns) columns))

more : (extra : ℕ) (columns : List (List ℕ)) → knots (extra + cards_in columns) columns ≡ knot_count columns
more zero columns = ap (λ n. knots n columns) (omega arith) ∙ sym (count_is columns)
more (suc extra) columns =
    let next : suc extra + cards_in columns ≡ suc (extra + cards_in columns) = omega arith in
    ap (λ n. knots n columns) next ∙ enough (extra + cards_in columns) columns (omega arith) ∙ more extra columns

pub knots_count : (steps : ℕ) (columns : List (List ℕ)) → cards_in columns ≤ steps → knots steps columns ≡ knot_count columns
knots_count steps columns few =
    let split : steps ≡ (steps - cards_in columns) + cards_in columns = omega arith in
    ap (λ n. knots n columns) split ∙ more (steps - cards_in columns) columns
