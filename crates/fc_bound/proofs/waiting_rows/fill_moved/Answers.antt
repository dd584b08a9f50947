use Rattle.std.proofs.Common.{◌≡◌, ◌<◌, ◌≤◌, ◌+◌, ℕ, [], Some, List, length, get_or, take, sym, ◌∙◌, ap, subst, ⊎_elim, true≢false, arith}
use Rattle.std.specs.Prelude.{◌&&◌}
use Rattle.std.specs.List.{list_any}
use Rattle.std.proofs.lemmas.Bool.{cases_eq, cases_lt}
use Rattle.std.proofs.lemmas.List.{get_or_past, take_all}
use Rattle.std.proofs.lemmas.List.Folds.{list_any_more}
use Rattle.fc_position.specs.Board.{column, count_in_column, last_of}
use Rattle.fc_bound.specs.Bound.{is_above_lower, stands_in}
use Rattle.fc_bound.specs.Knots.{ends_with, ends_among}
use Rattle.fc_bound.specs.Rows.{AreBits, AreRowsOf, IsRow, MoveAbove, no_row, stands_among}
use Rattle.fc_bound.specs.inner.Rows.{is_set}
use Rattle.fc_bound.proofs.AboveLemmas.{not_true}
use Rattle.fc_bound.proofs.BitLemmas.{bits_or}
use Rattle.fc_bound.proofs.FillLemmas.{stands_take}
use Rattle.fc_bound.proofs.HeldLemmas.{column_once}
use Rattle.fc_bound.proofs.LeftLemmas.{last_stands, same_column}
use Rattle.fc_bound.proofs.OverLemmas.{both_more}
use Rattle.fc_bound.proofs.waiting_rows.fill_moved.Goals as goal

pub fill_column-marks-requires : goal.fill_column-marks-requires
fill_column-marks-requires c =
    let is = sym c.column.ensures.value in
    record {
      once = λ x. subst (λ cards. count_in_column x cards ≤ 1) is (column_once c.args.position.now c.loop-i.i x c.requires.whole);
      above = subst (MoveAbove c.args.moved) is (c.requires.above c.loop-i.i);
      others = subst (λ cards. AreRowsOf c.args.moved cards c.loop-i.rows) is (c.loop-i.invariant.later c.loop-i.i (omega arith));
      long = c.loop-i.invariant.long;
    }

pub loop-i-preserved : goal.loop-i-preserved
loop-i-preserved c =
    let b = c.args.position.now in
    let i = c.loop-i.i in
    let kept = c.loop-i.invariant in
    let now = c.fill_column-marks.ensures in
    let rows = c.fill_column-marks.new.rows in
    let is : c.column.result.now ≡ column b i = c.column.ensures.value in
    let inside : i < length b.columns = omega (arith, c.requires.whole.columns, c.loop-i-test.true) in
    let here : (h u : ℕ) → last_of (take h (column b i)) ≡ Some u → IsRow (get_or rows u no_row) (take h (column b i)) =
    subst (λ (x : List ℕ). (h u : ℕ) → last_of (take h x) ≡ Some u → IsRow (get_or rows u no_row) (take h x)) is now.rows in
    let same : (j h u : ℕ) → (j ≡ i → ⊥) → last_of (take h (column b j)) ≡ Some u → get_or rows u no_row ≡ get_or c.loop-i.rows u no_row =
    λ j h u ne last. now.others u (not_true (stands_in c.column.result.now u) (λ stands.
    ne (same_column b j i u c.requires.whole (stands_take h (column b j) u (last_stands (take h (column b j)) u last))
    (ap (λ x. stands_in x u) (sym is) ∙ stands)))) in
    record {
      long = now.long;
      each = λ j h u below last. ⊎_elim
          (λ e. subst (λ k. IsRow (get_or rows u no_row) (take h (column b k))) (sym e) (here h u (ap (λ k. last_of (take h (column b k))) (sym e) ∙ last)))
          (λ ne. subst (λ r. IsRow r (take h (column b j))) (sym (same j h u ne last)) (kept.each j h u (omega (arith, ne, below)) last))
          (cases_eq j i);
      later = λ j from h u last still.
          subst (λ r. IsRow r (take h (column b j))) (sym (same j h u (λ e. omega (arith, e, from)) last)) (kept.later j (omega (arith, from)) h u last still);
      stand = bits_or c.loop-i.all c.fill_column-marks.result.all (λ d. stands_among (take i b.columns) d && is_set c.args.moved d)
          (λ d. stands_in (column b i) d && is_set c.args.moved d) (λ d. stands_among (take (i + 1) b.columns) d && is_set c.args.moved d)
          kept.stand (subst (λ x. AreBits c.fill_column-marks.result.all (λ d. stands_in x d && is_set c.args.moved d)) is now.all)
          (λ d. both_more (stands_among (take (i + 1) b.columns) d) (stands_among (take i b.columns) d) (stands_in (column b i) d) (is_set c.args.moved d)
          (list_any_more (λ x. stands_in x d) b.columns i [] inside));
      ends = bits_or c.loop-i.lasts c.fill_column-marks.result.lasts (ends_among (take i b.columns)) (λ d. ends_with d (last_of (column b i)))
          (ends_among (take (i + 1) b.columns)) kept.ends
          (subst (λ x. AreBits c.fill_column-marks.result.lasts (λ d. ends_with d (last_of x))) is now.lasts)
          (λ d. list_any_more (λ x. ends_with d (last_of x)) b.columns i [] inside);
      above = bits_or c.loop-i.held c.fill_column-marks.result.held (λ d. list_any (is_above_lower d) (take i b.columns) && is_set c.args.moved d)
          (λ d. is_above_lower d (column b i) && is_set c.args.moved d) (λ d. list_any (is_above_lower d) (take (i + 1) b.columns) && is_set c.args.moved d)
          kept.above (subst (λ x. AreBits c.fill_column-marks.result.held (λ d. is_above_lower d x && is_set c.args.moved d)) is now.held)
          (λ d. both_more (list_any (is_above_lower d) (take (i + 1) b.columns)) (list_any (is_above_lower d) (take i b.columns))
          (is_above_lower d (column b i)) (is_set c.args.moved d) (list_any_more (is_above_lower d) b.columns i [] inside));
    }

pub returns-clause-rows : goal.returns-clause-rows
returns-clause-rows c = λ i h u last.
    let b = c.args.position.now in
    ⊎_elim
    (λ below. c.loop-i.invariant.each i h u (omega (arith, below, c.loop-i-test.false)) last)
    (λ past. absurd (true≢false (sym (stands_take h (column b i) u (last_stands (take h (column b i)) u last))
    ∙ ap (λ x. stands_in x u) (get_or_past b.columns i [] (omega (arith, past, c.requires.whole.columns))))))
    (cases_lt i 8)

pub returns-clause-all : goal.returns-clause-all
returns-clause-all c =
    let columns = c.args.position.now.columns in
    subst (λ v. AreBits c.loop-i.all (λ d. stands_among v d && is_set c.args.moved d))
    (take_all c.loop-i.i columns (omega (arith, c.loop-i-test.false, c.requires.whole.columns))) c.loop-i.invariant.stand

pub returns-clause-lasts : goal.returns-clause-lasts
returns-clause-lasts c =
    let columns = c.args.position.now.columns in
    subst (λ v. AreBits c.loop-i.lasts (ends_among v)) (take_all c.loop-i.i columns (omega (arith, c.loop-i-test.false, c.requires.whole.columns)))
    c.loop-i.invariant.ends

pub returns-clause-held : goal.returns-clause-held
returns-clause-held c =
    let columns = c.args.position.now.columns in
    subst (λ v. AreBits c.loop-i.held (λ d. list_any (is_above_lower d) v && is_set c.args.moved d))
    (take_all c.loop-i.i columns (omega (arith, c.loop-i-test.false, c.requires.whole.columns))) c.loop-i.invariant.above
