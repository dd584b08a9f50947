use Rattle.std.proofs.Common.{◌∙◌, ◌-◌, ◌+◌, ◌≡◌, length, take, ap, subst, arith}
use Rattle.fc_moves.specs.Run.{Run}
use Rattle.fc_best.specs.inner.Attempt.{IsAttempt}
use Rattle.fc_best.proofs.TailLemmas.{front_told, is_tail}
use Rattle.fc_best.proofs.tails.Tail.of.Goals as goal

pub position_after-middle-requires-clause-run : goal.position_after-middle-requires-clause-run
position_after-middle-requires-clause-run g c =
    front_told _ _ _ _ _ _ _ c.game.ensures.value c.as_slice.ensures.value c.requires.good.wins c.split_at.ensures.front

pub returns-clause-right : goal.returns-clause-right
returns-clause-right g c =
    let q = c.args.question.now in
    let b = c.args.position.now in
    let all = c.args.rest.list.now in
    let n = c.len.result - c.args.rest.last in
    let long : n + c.args.rest.last ≡ length all = let size = c.len.ensures.value in let within = c.requires.within in omega (arith, size, within) in
    is_tail q b c.position_after-middle.result n c.args.rest.last all c.split_at.result.0.now c.in_ok-attempt.attempt c.in_ok-list.list
    c.requires.good (c.split_at.ensures.front ∙ ap (λ l. take n l) c.as_slice.ensures.value) long
    (subst (λ x. Run x b c.split_at.result.0.now c.position_after-middle.result) c.game.ensures.value c.position_after-middle.ensures.there)
    (subst (λ l. IsAttempt q q.method.bound c.position_after-middle.result l c.in_ok-attempt.attempt) c.below-aim.ensures.limit c.in_ok-attempt.ensures.right) c.in_ok-list.ensures.value _ _
