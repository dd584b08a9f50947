use Rattle.std.proofs.Common.{◌≡◌, ℕ, Some, sym, subst}
use Rattle.fc_position.specs.Board.{playable, Receives}
use Rattle.fc_position.proofs.BoardLemmas.{receives_found, room-lifted, position-moved}
use Rattle.fc_position.proofs.positions.Position.shift.Goals as goal

pub put-requires : goal.put-requires
put-requires c =
    let moves = subst (λ b. (u : ℕ) × (playable b c.args.from ≡ Some u) × Receives b u c.args.to) (sym c.self.view_is) c.requires.moves in
    let found = sym c.in-Some.ensures.value in
    rw c.lift.ensures.after
    (room-lifted c.self.inside.layout c.args.from c.in-Some.card c.args.to c.self.invariant found
    (receives_found c.self.inside.layout c.args.from c.args.to c.in-Some.card found moves))

pub invariant_of-self : goal.invariant_of-self
invariant_of-self c =
    let moves = subst (λ b. (u : ℕ) × (playable b c.args.from ≡ Some u) × Receives b u c.args.to) (sym c.self.view_is) c.requires.moves in
    let found = sym c.in-Some.ensures.value in
    rw (c.put.ensures, c.lift.ensures.after)
    (position-moved c.self.inside.layout c.args.from c.in-Some.card c.args.to c.self.invariant found
    (receives_found c.self.inside.layout c.args.from c.args.to c.in-Some.card found moves))

pub returns-in-Some-clause-whole : goal.returns-in-Some-clause-whole
returns-in-Some-clause-whole c = invariant_of-self c
