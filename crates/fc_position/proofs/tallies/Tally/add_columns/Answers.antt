use Rattle.std.proofs.Common.{◌<◌, ℕ, [], length, map, sym, ◌∙◌, subst, arith}
use Rattle.std.specs.Prelude.{All}
use Rattle.std.proofs.lemmas.List.{take_all, get_or-map, length-map}
use Rattle.std.proofs.lemmas.List.Elements.{All-more}
use Rattle.arrayvec.specs.ArrayVec.{ArrayVec}
use Rattle.fc_position.specs.Board.{count_in_column}
use Rattle.fc_position.specs.Tally.{Adds, AllCards}
use Rattle.fc_position.proofs.TallyLemmas.{adds_next}
use Rattle.fc_position.proofs.tallies.Tally.add_columns.Goals as goal

pub loop-column-preserved : goal.loop-column-preserved
loop-column-preserved c =
    let columns = map (λ (v : ArrayVec ℕ). v.items) c.args.columns.now in
    let within : c.loop-column.column-index < length columns = rw length-map (omega (arith, c.type_inv.columns)) in
    let inside : c.loop-column.column-index < length c.args.columns.now = omega (arith, c.type_inv.columns) in
    let here =
    c.as_slice.ensures.value
    ∙ sym (get_or-map (λ (v : ArrayVec ℕ). v.items) c.args.columns.now c.loop-column.column-index c.column-item.result [] inside) in
    record {
      added =
          adds_next count_in_column columns c.loop-column.column-index [] c.args.self.now c.loop-column.self c.add_column.new.self within c.loop-column.invariant.added
          (subst (λ x. Adds (λ k. count_in_column k x) c.loop-column.self c.add_column.new.self) here c.add_column.ensures.added);
      below =
          All-more AllCards columns c.loop-column.column-index [] within c.loop-column.invariant.below
          (subst AllCards here c.add_column.ensures.below);
    }

pub returns-clause-below : goal.returns-clause-below
returns-clause-below c =
    let columns = map (λ (v : ArrayVec ℕ). v.items) c.args.columns.now in
    subst (All AllCards)
    (take_all c.loop-column.column-index columns (rw length-map (omega (arith, c.type_inv.columns))))
    c.loop-column.invariant.below
