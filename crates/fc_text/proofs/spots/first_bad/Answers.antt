use Rattle.std.proofs.Common.{sym, ◌∙◌, ap, refl, arith}
use Rattle.fc_text.specs.Line.{is_blank, tokens_of}
use Rattle.fc_text.proofs.PartLemmas.{length-tokens_between}
use Rattle.fc_text.proofs.PassLemmas.{pass_next, pass_none, pass_room}
use Rattle.fc_text.proofs.SpotLemmas.{bad_here, none_bad, none_named, none_push}
use Rattle.fc_text.proofs.spots.first_bad.Goals as goal

pub loop-token-init : goal.loop-token-init
loop-token-init c =
    pass_none _ _ _ (ap tokens_of (ap (λ i. i.rest.now) c.into_iter-token-iterator.ensures.into_iter_gives ∙ c.new-token-items.ensures.rest))
    (none_bad c.args.cells c.args.fault c.args.kind, λ _ _. none_named _ refl)

pub overflow_add-result : goal.overflow_add-result
overflow_add-result c =
    let most = pass_room _ _ _ _ _ _ c.loop-token.invariant c.in-Some.ensures.steps in
    let few = length-tokens_between is_blank c.args.piece.now in
    omega (arith, most, few)

pub overflow_add-place : goal.overflow_add-place
overflow_add-place c =
    let most = pass_room _ _ _ _ _ _ c.loop-token.invariant c.in-Some.ensures.steps in
    let few = length-tokens_between is_blank c.args.piece.now in
    omega (arith, most, few)

pub returns-then-is_bad-clause-bad : goal.returns-then-is_bad-clause-bad
returns-then-is_bad-clause-bad c =
    bad_here c.args.cells c.args.fault c.args.kind c.loop-token.named _ _ _ _ _ c.loop-token.invariant c.in-Some.ensures.steps
    (λ before size noted. (c.is_bad.ensures.bad before size noted).0 c.if-is_bad.true)

pub loop-token-preserved : goal.loop-token-preserved
loop-token-preserved c =
    pass_next _ _ _ _ _ _ _ c.loop-token.invariant c.in-Some.ensures.steps
    (λ front size so. (
      none_push c.args.cells c.args.fault c.args.kind front c.in-Some.token.now so.0
          (λ bad. absurd (cc (sym ((c.is_bad.ensures.bad front size so.1).1 bad) ∙ c.if-is_bad.false))),
      c.is_bad.ensures.noted front so.1 (λ t. absurd (cc (sym t ∙ c.if-is_bad.false))),
    ))
