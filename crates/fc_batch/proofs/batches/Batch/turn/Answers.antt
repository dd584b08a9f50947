use Rattle.std.proofs.Common.{◌≡◌, ◌+◌, ◌<◌, ◌≤◌, Some, Err, ap, arith, subst, sym, is_some, nat_eq}
use Rattle.std.specs.Map.{lookup}
use Rattle.fc_best_first.specs.declared.searches.SearchFault.TheVariants.{NoSuch}
use Rattle.fc_batch.specs.Batch.{Batch, TurnFor, count_if_running, work_left}
use Rattle.fc_batch.proofs.BatchLemmas.{none_turned, turned, given_kept, work_falls}
use Rattle.fc_batch.proofs.batches.Batch.turn.Goals as goal

pub returns-in_default-clause-turn : goal.returns-in_default-clause-turn
returns-in_default-clause-turn g c =
    let map = c.self.inside.searches in
    let left = c.get_mut.follows.lender-at-none in
    let new : Batch = record { searches = left.entries; added = c.self.inside.added } in
    subst (λ b. TurnFor c.args.i b new (Err NoSuch)) c.self.view_is
    (none_turned c.args.i c.self.inside.added map.entries left.entries (sym c.in_default.ensures.value)
    (ap (λ m. m.entries) c.get_mut.follows.holds-at-none))

pub invariant_of-self-2 : goal.invariant_of-self-2
invariant_of-self-2 g c =
    let map = c.self.inside.searches in
    let after = c.turn.new.self in
    let new = c.get_mut.follows.lender after in
    let there : lookup (nat_eq c.args.i) map.entries ≡ Some c.in-Some.search.now = sym c.in-Some.ensures.value in
    let changes = (c.get_mut.follows.holds after).3 (ap is_some there) in
    given_kept c.args.i map.entries new.entries c.in-Some.search.now after there c.self.inside.added changes.2 c.self.invariant

pub returns-clause-turn : goal.returns-clause-turn
returns-clause-turn g c =
    let map = c.self.inside.searches in
    let after = c.turn.new.self in
    let left = c.get_mut.follows.lender after in
    let there : lookup (nat_eq c.args.i) map.entries ≡ Some c.in-Some.search.now = sym c.in-Some.ensures.value in
    let changes = (c.get_mut.follows.holds after).3 (ap is_some there) in
    let new : Batch = record { searches = left.entries; added = c.self.inside.added } in
    subst (λ b. TurnFor c.args.i b new c.turn.result) c.self.view_is
    (turned c.args.i map.entries left.entries c.in-Some.search.now after there c.self.inside.added c.turn.result
    changes.1 changes.2 (record { problem = c.turn.ensures.problem; turned = c.turn.ensures.turns; floor = c.turn.ensures.floor }))

pub returns-clause-most : goal.returns-clause-most
returns-clause-most g c =
    let map = c.self.inside.searches in
    let left = c.get_mut.follows.lender c.turn.new.self in
    let new : Batch = record { searches = left.entries; added = c.self.inside.added } in
    subst (λ b. work_left new + count_if_running c.turn.result ≤ work_left b) c.self.view_is
    (work_falls c.args.i map.entries left.entries c.in-Some.search.now c.turn.new.self (sym c.in-Some.ensures.value)
    c.self.inside.added c.turn.result (c.get_mut.follows.holds c.turn.new.self).0
    (record { problem = c.turn.ensures.problem; turned = c.turn.ensures.turns; floor = c.turn.ensures.floor })
    c.turn.ensures.falls)

pub returns-clause-falls : goal.returns-clause-falls
returns-clause-falls g c = λ runs.
    let map = c.self.inside.searches in
    let left = c.get_mut.follows.lender c.turn.new.self in
    let new : Batch = record { searches = left.entries; added = c.self.inside.added } in
    let less = work_falls c.args.i map.entries left.entries c.in-Some.search.now c.turn.new.self (sym c.in-Some.ensures.value)
    c.self.inside.added c.turn.result (c.get_mut.follows.holds c.turn.new.self).0
    (record { problem = c.turn.ensures.problem; turned = c.turn.ensures.turns; floor = c.turn.ensures.floor })
    c.turn.ensures.falls in
    let one : count_if_running c.turn.result ≡ 1 = ap count_if_running runs in
    subst (λ b. work_left new < work_left b) c.self.view_is (omega (arith, less, one))
