use Rattle.std.proofs.Common.{rules, ◌≡◌, ◌+◌, ◌∷◌, [], arith, length, length-append, sym, ap, subst}
use Rattle.std.specs.Prelude.{take}
use Rattle.fc_replay.specs.Token.{move_tokens}
use Rattle.fc_lists.specs.Plays.{IsFirstNoPair, IsUnread}
use Rattle.fc_lists.proofs.ExpandedLemmas.{Listed, listed_all, listed_bad, listed_done, listed_few, listed_next}
use Rattle.fc_lists.proofs.expansions.read_pairs.Goals as goal

pub returns-then-len-most-clause-spelled : goal.returns-then-len-most-clause-spelled
returns-then-len-most-clause-spelled c =
    let size : c.len.result ≡ length c.loop-token.pairs.items = search rules in
    listed_done _ _ _ c.args.most c.loop-token.invariant.0 (omega (arith, size, c.if-len-most.true)) c.loop-token.invariant.1

pub returns-then-len-most-clause-few : goal.returns-then-len-most-clause-few
returns-then-len-most-clause-few c = omega (arith, listed_few _ _ _ c.loop-token.invariant.0, c.requires.short)

pub no_entry-requires : goal.no_entry-requires
no_entry-requires c =
    let size : c.len-in_default.result ≡ length c.loop-token.pairs.items = search rules in
    record { few = omega (arith, listed_few _ _ _ c.loop-token.invariant.0, c.requires.short, size) }

pub returns-in_default-clause-fault : goal.returns-in_default-clause-fault
returns-in_default-clause-fault c =
    let first : c.len.result ≡ length c.loop-token.pairs.items = search rules in
    let size : c.len-in_default.result ≡ length c.loop-token.pairs.items = search rules in
    let less = c.if-len-most.false in
    subst (IsUnread (take c.args.most (move_tokens c.args.text.now))) (sym c.no_entry.ensures.value)
    (subst (λ n. IsFirstNoPair (take c.args.most (move_tokens c.args.text.now)) (n + 1)) (sym size)
    (listed_bad _ _ _ _ _ c.args.most c.loop-token.invariant.0 c.in-Some.ensures.steps c.in_default.ensures.refused (omega (arith, first, less))))

pub loop-token-preserved : goal.loop-token-preserved
loop-token-preserved c =
    let first : c.len.result ≡ length c.loop-token.pairs.items = search rules in
    let less = c.if-len-most.false in (
      subst (Listed c.args.text.now c.next.new.self.rest.now) (sym c.in-Ok.ensures.items)
          (listed_next _ _ _ _ _ _ c.loop-token.invariant.0 c.in-Some.ensures.steps c.in-Some-read_pair.ensures.read),
      omega (arith, first, less, ap length c.in-Ok.ensures.items, length-append c.loop-token.pairs.items (c.in-Some-read_pair.pair ∷ [])),
    )

pub returns-clause-spelled : goal.returns-clause-spelled
returns-clause-spelled c = listed_all _ _ _ c.args.most c.loop-token.invariant.0 c.in-None.ensures.steps.0 c.loop-token.invariant.1

pub returns-clause-few : goal.returns-clause-few
returns-clause-few c = omega (arith, listed_few _ _ _ c.loop-token.invariant.0, c.requires.short)
