use Rattle.std.proofs.Common.{◌≡◌, ℕ, List, length, map, sym, ap, subst, arith}
use Rattle.std.specs.Prelude.{All}
use Rattle.std.specs.List.Sorted.{IsPermutation}
use Rattle.std.proofs.lemmas.List.Sorted.{All-permutation, IsPermutation-map, length_permutation}
use Rattle.fc_answers.specs.declared.table_rows.Row.{Row}
use Rattle.fc_answers.specs.Table.{IsRising, IsRowOf, key_by, pairs_by}
use Rattle.fc_answers.proofs.RowLemmas.{written_back}
use Rattle.fc_answers.proofs.closed_tables.Table.sorted.Goals as goal

pub invariant_of-result : goal.invariant_of-result
invariant_of-result c =
    let start = c.args.layout in
    let was = c.args.rows.items in
    let new = c.put_in_order.new.rows in
    let moved : IsPermutation was new = subst (λ l. IsPermutation l new) c.as_mut_slice.ensures.value c.put_in_order.ensures.permutation in
    let same = length_permutation was new moved in
    let long : c.args.rows.len ≡ length was = omega (arith, c.as_mut_slice.ensures.len, ap length c.as_mut_slice.ensures.value) in
    let back = sym (written_back c.args.rows.len new was same long) in (
      omega (arith, c.get.ensures.value, c.get.ensures.known),
      omega (arith, ap length back, same, c.requires.few),
      subst (λ l. IsRising (pairs_by start l)) back c.in_ok-put_in_order.ensures.rising,
      subst (All (IsRowOf start)) back (All-permutation (IsRowOf start) was new moved c.requires.rows),
    )

pub returns-clause-rows : goal.returns-clause-rows
returns-clause-rows c =
    let pair : Row → List ℕ × ℕ = λ r. (key_by c.args.layout r.code, r.cost) in
    let was = c.args.rows.items in
    let new = c.put_in_order.new.rows in
    let moved : IsPermutation was new = subst (λ l. IsPermutation l new) c.as_mut_slice.ensures.value c.put_in_order.ensures.permutation in
    let long : c.args.rows.len ≡ length was = omega (arith, c.as_mut_slice.ensures.len, ap length c.as_mut_slice.ensures.value) in
    let back = sym (written_back c.args.rows.len new was (length_permutation was new moved) long) in
    subst (λ l. IsPermutation (map pair was) (map pair l)) back (IsPermutation-map pair was new moved)
