use Rattle.std.proofs.Common.{length, sym, ◌∙◌, arith}
use Rattle.std.proofs.lemmas.List.Sums.{position_or_len_is}
use Rattle.fc_text.proofs.pieces.token_len.Goals as goal

pub returns-then-is_gap-clause-value : goal.returns-then-is_gap-clause-value
returns-then-is_gap-clause-value g c =
    sym (position_or_len_is g.G.Gaps.gap c.args.text.now c.loop-i.i 0 (omega arith) c.loop-i.invariant
    (λ _. sym c.is_gap.ensures.value ∙ c.if-is_gap.true))

pub returns-clause-value : goal.returns-clause-value
returns-clause-value g c =
    sym (position_or_len_is g.G.Gaps.gap c.args.text.now (length c.args.text.now) 0 (omega arith) (λ k h. c.loop-i.invariant k (omega arith)) (λ h. absurd (omega arith)))
