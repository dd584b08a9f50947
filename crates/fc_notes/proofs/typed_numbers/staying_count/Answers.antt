use Rattle.std.proofs.Common.{◌≡◌, ℕ, List, [], ◌∷◌, ◌++◌, ◌∙◌, ap}
use Rattle.fc_typed.specs.Tidy.{tidy}
use Rattle.fc_notes.specs.FileLine.{first_lines}
use Rattle.fc_notes.proofs.TypedNumbers.{staying_is}
use Rattle.fc_notes.proofs.typed_numbers.staying_count.Goals as goal

pub returns-in-Some-of : goal.returns-in-Some-of
returns-in-Some-of c = record {
  value = λ short plainly.
      let front : List ℕ = first_lines c.args.count c.args.typed.now ++ 45 ∷ [] in
      let pushed : c.as_slice.result.now ≡ front =
      c.as_slice.ensures.value ∙ c.in-Some.ensures.some ∙ ap (λ x. x ++ 45 ∷ []) c.first_lines.ensures.value in
      staying_is c.args.typed.now _ c.args.count c.end_count.result plainly
      (c.bytes.ensures.value ∙ c.in-Some-of.ensures.value ∙ ap tidy pushed) c.end_count.ensures.value;
}
