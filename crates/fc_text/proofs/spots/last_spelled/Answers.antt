use Rattle.std.proofs.Common.{◌∷◌, ◌++◌, [], sym, ◌∙◌, arith}
use Rattle.fc_text.specs.Line.{is_blank}
use Rattle.fc_text.specs.Spot.{HasSpelled, IsLastSpelled}
use Rattle.fc_text.proofs.PartLemmas.{length-tokens_between}
use Rattle.fc_text.proofs.PassLemmas.{cases_then, pass_all, pass_next, pass_room, some_case}
use Rattle.fc_text.proofs.SpotLemmas.{last_here, last_push, spelled_push}
use Rattle.fc_text.proofs.spots.last_spelled.Goals as goal

pub overflow_add-place : goal.overflow_add-place
overflow_add-place c =
    let most = pass_room _ _ _ _ _ _ c.loop-token.invariant c.in-Some.ensures.steps in
    let few = length-tokens_between is_blank c.args.piece.now in
    omega (arith, most, few)

pub loop-token-preserved-then-spells : goal.loop-token-preserved-then-spells
loop-token-preserved-then-spells c =
    pass_next _ _ _ _ _ _ _ c.loop-token.invariant c.in-Some.ensures.steps
    (λ front size so. last_here c.args.card front c.in-Some.token.now c.loop-token.place size (c.spells.ensures.0 c.if-spells.true))

pub loop-token-preserved : goal.loop-token-preserved
loop-token-preserved c =
    let token = c.in-Some.token.now in
    pass_next _ _ _ _ _ _ _ c.loop-token.invariant c.in-Some.ensures.steps
    (λ front size so. cases_then c.loop-token.last (HasSpelled c.args.card front → ⊥) (HasSpelled c.args.card (front ++ token ∷ []) → ⊥)
    (λ found. IsLastSpelled c.args.card front found.0 found.1.now) (λ found. IsLastSpelled c.args.card (front ++ token ∷ []) found.0 found.1.now) so
    (λ none. spelled_push c.args.card front token none (λ s. absurd (cc (sym (c.spells.ensures.1 s) ∙ c.if-spells.false))))
    (λ found p. last_push c.args.card front token found.1.now found.0 p (λ s. absurd (cc (sym (c.spells.ensures.1 s) ∙ c.if-spells.false)))))

pub returns-clause-last : goal.returns-clause-last
returns-clause-last c =
    some_case c.loop-token.last _ _ (pass_all _ _ _ _ c.loop-token.invariant c.in-None.ensures.steps.0).0
