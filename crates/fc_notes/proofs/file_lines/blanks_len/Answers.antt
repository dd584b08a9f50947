use Rattle.std.proofs.Common.{not, length, sym, ◌∙◌, ap, arith}
use Rattle.std.specs.Char.{is_ascii_whitespace}
use Rattle.std.proofs.lemmas.List.Sums.{position_or_len_is}
use Rattle.fc_notes.proofs.file_lines.blanks_len.Goals as goal

pub returns-clause-value : goal.returns-clause-value
returns-clause-value c =
    sym (position_or_len_is (λ b. not (is_ascii_whitespace b)) c.args.line.now (length c.args.line.now) 0 (omega arith)
    (λ k h. ap not (c.loop-i.invariant k (omega arith))) (λ h. absurd (omega arith)))

pub returns-then-not-is_ascii_whitespace-clause-value : goal.returns-then-not-is_ascii_whitespace-clause-value
returns-then-not-is_ascii_whitespace-clause-value c =
    sym (position_or_len_is (λ b. not (is_ascii_whitespace b)) c.args.line.now c.loop-i.i 0 (omega arith)
    (λ k h. ap not (c.loop-i.invariant k h)) (λ _. ap not (sym c.is_ascii_whitespace.ensures.value ∙ c.if-not-is_ascii_whitespace.true)))
