use Rattle.std.proofs.Common.{not, length, ap, sym, ◌∙◌, arith}
use Rattle.std.proofs.lemmas.List.Sums.{position_or_len_is}
use Rattle.fc_text.proofs.pieces.gap_len.Goals as goal

pub returns-then-not-is_gap-clause-value : goal.returns-then-not-is_gap-clause-value
returns-then-not-is_gap-clause-value g c =
    sym (position_or_len_is (λ b. not (g.G.Gaps.gap b)) c.args.text.now c.loop-i.i 0 (omega arith) (λ k h. ap not (c.loop-i.invariant k h))
    (λ _. ap not (sym c.is_gap.ensures.value ∙ c.if-not-is_gap.true)))

pub returns-clause-value : goal.returns-clause-value
returns-clause-value g c =
    sym (position_or_len_is (λ b. not (g.G.Gaps.gap b)) c.args.text.now (length c.args.text.now) 0 (omega arith) (λ k h. ap not (c.loop-i.invariant k (omega arith))) (λ h. absurd (omega arith)))
