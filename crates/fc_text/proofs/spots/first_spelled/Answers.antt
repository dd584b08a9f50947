use Rattle.std.proofs.Common.{sym, ◌∙◌, arith}
use Rattle.fc_text.specs.Line.{is_blank}
use Rattle.fc_text.proofs.PartLemmas.{length-tokens_between}
use Rattle.fc_text.proofs.PassLemmas.{pass_next, pass_room}
use Rattle.fc_text.proofs.SpotLemmas.{first_here, spelled_push}
use Rattle.fc_text.proofs.spots.first_spelled.Goals as goal

pub overflow_add-place : goal.overflow_add-place
overflow_add-place c =
    let most = pass_room _ _ _ _ _ _ c.loop-token.invariant c.in-Some.ensures.steps in
    let few = length-tokens_between is_blank c.args.piece.now in
    omega (arith, most, few)

pub returns-then-spells-clause-first : goal.returns-then-spells-clause-first
returns-then-spells-clause-first c =
    first_here c.args.card _ _ _ _ _ c.loop-token.invariant c.in-Some.ensures.steps (c.spells.ensures.0 c.if-spells.true)

pub loop-token-preserved : goal.loop-token-preserved
loop-token-preserved c =
    pass_next _ _ _ _ _ _ _ c.loop-token.invariant c.in-Some.ensures.steps
    (λ front size so. spelled_push c.args.card front c.in-Some.token.now so (λ s. absurd (cc (sym (c.spells.ensures.1 s) ∙ c.if-spells.false))))
