use Rattle.std.proofs.Common.{ℕ, ◌++◌, map, sym, ◌∙◌, ap, arith}
use Rattle.std.specs.List.{flat_map}
use Rattle.std.proofs.lemmas.List.{length-map}
use Rattle.arrayvec.specs.ArrayVec.{ArrayVec}
use Rattle.fc_canonical.specs.Key.{column_bytes}
use Rattle.fc_canonical.proofs.KeyLemmas.{columns_once}
use Rattle.fc_canonical.proofs.readers.read_columns.Goals as goal

pub returns-clause-read : goal.returns-clause-read
returns-clause-read c =
    let tested = c.in_ok-rest.ensures.read in
    let filled = c.fill_columns.ensures.parts in
    let columns = map (λ (v : ArrayVec ℕ). v.items) c.fill_columns.new.columns in
    let once = columns_once tested.0 columns c.in_ok-rest.rest.now filled.0 (sym tested.3 ∙ filled.1)
    (omega (arith, tested.1, length-map c.fill_columns.new.columns (λ (v : ArrayVec ℕ). v.items), c.fill_columns.ensures.count)) in
    (c.fill_columns.ensures.count, filled.1 ∙ ap (λ r. flat_map column_bytes columns ++ r) (sym once.1))
