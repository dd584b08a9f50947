use Rattle.std.proofs.Common.{not, length, sym, ap, arith}
use Rattle.std.proofs.lemmas.List.Sums.{position_or_len_is}
use Rattle.std.proofs.lemmas.Bool.Decides.{nat_tests}
use Rattle.fc_notes.specs.File.{is_dash}
use Rattle.fc_notes.proofs.file_lines.dashes_len.Goals as goal

pub returns-clause-value : goal.returns-clause-value
returns-clause-value c =
    sym (position_or_len_is (λ b. not (is_dash b)) c.args.text.now (length c.args.text.now) 0 (omega arith)
    (λ k h. ap not (c.loop-i.invariant k (omega arith))) (λ h. absurd (omega arith)))

pub returns-then-byte-ne45-clause-value : goal.returns-then-byte-ne45-clause-value
returns-then-byte-ne45-clause-value c =
    sym (position_or_len_is (λ b. not (is_dash b)) c.args.text.now c.loop-i.i 0 (omega arith)
    (λ k h. ap not (c.loop-i.invariant k h)) (λ _. grind (arith, nat_tests)))
