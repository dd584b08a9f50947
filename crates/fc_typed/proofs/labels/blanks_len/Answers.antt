use Rattle.std.proofs.Common.{not, length, sym, ap, arith}
use Rattle.std.proofs.lemmas.List.Sums.{position_or_len_is}
use Rattle.std.proofs.lemmas.Bool.Decides.{nat_tests}
use Rattle.fc_text.specs.Line.{is_blank}
use Rattle.fc_typed.proofs.labels.blanks_len.Goals as goal

pub returns-then-byte-ne9-clause-value : goal.returns-then-byte-ne9-clause-value
returns-then-byte-ne9-clause-value c =
    sym (position_or_len_is (λ b. not (is_blank b)) c.args.line.now c.loop-i.i 0 (omega arith)
    (λ k h. ap not (c.loop-i.invariant k h)) (λ _. grind (arith, nat_tests)))

pub returns-clause-value : goal.returns-clause-value
returns-clause-value c =
    sym (position_or_len_is (λ b. not (is_blank b)) c.args.line.now (length c.args.line.now) 0 (omega arith)
    (λ k h. ap not (c.loop-i.invariant k (omega arith))) (λ h. absurd (omega arith)))
