use Rattle.std.proofs.Common.{◌≡◌, length, refl, sym, ◌∙◌, arith}
use Rattle.std.proofs.lemmas.List.{nil_from_length}
use Rattle.std.proofs.lemmas.Bool.Decides.{nat_tests}
use Rattle.fc_notes.proofs.FileLemmas.{part_at, part_last, passes_more}
use Rattle.fc_notes.proofs.file_lines.split_part.Goals as goal

pub returns-then-is_rule-clause-parts : goal.returns-then-is_rule-clause-parts
returns-then-is_rule-clause-parts c = λ above.
    part_at c.args.text.now c.loop-line.rest.now c.split_line.result.0.now c.split_line.result.1.now _ c.loop-line.lines _ above
    c.loop-line.invariant.passed c.split_line.ensures.line (sym c.is_rule.ensures.value ∙ c.if-is_rule.true) refl refl

pub loop-line-preserved : goal.loop-line-preserved
loop-line-preserved c = record {
  passed =
      passes_more c.args.text.now c.loop-line.rest.now c.split_line.result.0.now c.split_line.result.1.now c.loop-line.lines _
      c.loop-line.invariant.passed c.split_line.ensures.line c.split_line.ensures.joined
      (sym c.is_rule.ensures.value ∙ c.if-is_rule.false) refl;
  within = omega (arith, c.loop-line.invariant.within, c.split_line.ensures.shorter);
}

pub returns-clause-parts : goal.returns-clause-parts
returns-clause-parts c =
    let empty : length c.loop-line.rest.now ≡ 0 = grind (arith, nat_tests) in
    λ above.
    part_last c.args.text.now c.loop-line.rest.now c.loop-line.lines above c.loop-line.invariant.passed
    (nil_from_length c.loop-line.rest.now empty)
