use Rattle.std.proofs.Common.{◌≡◌, [], sym, ◌∙◌, subst, get_or, ⊎_elim, arith}
use Rattle.std.specs.Prelude.{vec_len}
use Rattle.std.proofs.lemmas.Bool.{cases_lt}
use Rattle.std.proofs.lemmas.Bool.Decides.{nat_tests}
use Rattle.fc_frontier.specs.Stack.{nodes_of}
use Rattle.fc_frontier.proofs.StackLemmas.{nodes_at-empty}
use Rattle.fc_frontier.proofs.stacks.first_full.Goals as goal

pub loop-place-preserved : goal.loop-place-preserved
loop-place-preserved c =
    let test = sym c.is_empty.ensures ∙ c.if-not-is_empty.false in
    let none : vec_len c.index-stacks-place.result ≡ 0 = grind (arith, nat_tests) in
    let here = nodes_at-empty c.args.stacks.now c.loop-place.place c.index-stacks-place.result c.loop-place-test.true
    c.index-stacks-place.is none in
    λ k from below. ⊎_elim (c.loop-place.invariant k from)
    (λ past. let same : c.loop-place.place ≡ k = omega arith in
    subst (λ j. get_or (nodes_of c.args.stacks.now) j [] ≡ []) same here)
    (cases_lt k c.loop-place.place)
