use Rattle.std.proofs.Common.{length, sym, ◌∙◌, arith}
use Rattle.std.proofs.lemmas.List.{nil_from_length, take_all}
use Rattle.fc_notes.proofs.FileLemmas.{line_cut, line_uncut}
use Rattle.fc_notes.proofs.file_lines.split_line.Goals as goal

pub returns-in-Some-clause-line : goal.returns-in-Some-clause-line
returns-in-Some-clause-line c =
    line_cut c.args.text.now c.split_at.result.0.now c.split_at.result.1.now c.in-Some.len
    (sym c.line_len.ensures.value ∙ c.in-Some.is) c.split_at.ensures.front c.split_at.ensures.back

pub returns-in-None-clause-line : goal.returns-in-None-clause-line
returns-in-None-clause-line c =
    line_uncut c.args.text.now c.split_at-in-None.result.0.now c.split_at-in-None.result.1.now c.requires.some
    (sym c.line_len.ensures.value ∙ c.in-None.is)
    (c.split_at-in-None.ensures.front ∙ take_all (length c.args.text.now) c.args.text.now (omega arith))
    (nil_from_length c.split_at-in-None.result.1.now (omega arith))
