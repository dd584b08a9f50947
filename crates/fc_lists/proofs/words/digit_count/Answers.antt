use Rattle.std.proofs.Common.{not, length, ap, sym, ◌∙◌, arith}
use Rattle.std.proofs.lemmas.List.Sums.{position_or_len_is}
use Rattle.std.specs.Char.{is_ascii_digit}
use Rattle.fc_lists.proofs.words.digit_count.Goals as goal

pub returns-then-not-is_ascii_digit-clause-value : goal.returns-then-not-is_ascii_digit-clause-value
returns-then-not-is_ascii_digit-clause-value c =
    sym (position_or_len_is (λ b. not (is_ascii_digit b)) c.args.text.now c.loop-i.i 0 (omega arith) (λ k h. ap not (c.loop-i.invariant k h))
    (λ _. ap not (sym c.is_ascii_digit.ensures.value ∙ c.if-not-is_ascii_digit.true)))

pub returns-clause-value : goal.returns-clause-value
returns-clause-value c =
    sym (position_or_len_is (λ b. not (is_ascii_digit b)) c.args.text.now (length c.args.text.now) 0 (omega arith) (λ k h. ap not (c.loop-i.invariant k (omega arith))) (λ h. absurd (omega arith)))
