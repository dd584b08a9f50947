use Rattle.std.proofs.Common.{rules, ◌≡◌, ◌+◌, arith, length, sym, subst}
use Rattle.fc_replay.specs.Token.{move_tokens}
use Rattle.fc_library.specs.Lists.{IsFirstNoMove, IsMisspelled}
use Rattle.fc_library.proofs.SpelledLemmas.{Spelled, spelled_all, spelled_bad, spelled_few, spelled_next}
use Rattle.fc_library.proofs.spelled_lists.moves_of.Goals as goal

pub no_move-requires : goal.no_move-requires
no_move-requires c =
    let size : c.len.result ≡ length c.loop-token.moves.items = search rules in
    record { few = omega (arith, spelled_few _ _ _ c.loop-token.invariant, c.requires.short, size) }

pub returns-in_default-clause-refused : goal.returns-in_default-clause-refused
returns-in_default-clause-refused c =
    let size : c.len.result ≡ length c.loop-token.moves.items = search rules in
    subst (IsMisspelled (move_tokens c.args.list.now)) (sym c.no_move.ensures.value)
    (subst (λ n. IsFirstNoMove (move_tokens c.args.list.now) (n + 1)) (sym size)
    (spelled_bad _ _ _ _ _ c.loop-token.invariant c.in-Some.ensures.steps c.in_default.ensures.refused))

pub loop-token-preserved : goal.loop-token-preserved
loop-token-preserved c =
    subst (Spelled c.args.list.now c.next.new.self.rest.now) (sym c.in-Ok.ensures.items)
    (spelled_next _ _ _ _ _ _ c.loop-token.invariant c.in-Some.ensures.steps c.in-Some-read_token.ensures.read)

pub returns-clause-spelled : goal.returns-clause-spelled
returns-clause-spelled c = spelled_all _ _ _ c.loop-token.invariant c.in-None.ensures.steps.0

pub returns-clause-few : goal.returns-clause-few
returns-clause-few c = omega (arith, spelled_few _ _ _ c.loop-token.invariant, c.requires.short)
