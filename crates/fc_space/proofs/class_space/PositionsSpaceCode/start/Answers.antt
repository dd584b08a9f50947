use Rattle.std.proofs.Common.{ℕ, List, sym, subst}
use Rattle.fc_best_first.specs.declared.spaces.Child.{Child}
use Rattle.fc_codes.specs.State.{IsCodeOf}
use Rattle.fc_space.specs.Children.{frame_of, IsSettledChild, StandsAt}
use Rattle.fc_space.proofs.ChildLemmas.{IsFrame, settled_starts, start_alone}
use Rattle.fc_space.proofs.class_space.PositionsSpaceCode.start.Goals as goal

pub walk-walk-requires : goal.walk-walk-requires
walk-walk-requires g c =
    let own = c.args.self.now in
    let w = frame_of (g.G.Game.game own.rules.game) own.rules.rule own.rules.kind own.start in
    let f : IsFrame w = record { sound = g.met.G.Game.sound own.rules.game; fits = own.fits } in
    let child : Child (List ℕ) = record { key = c.settled-key.result.0; cost = c.settled-key.result.1 } in
    let coded : IsCodeOf w.start c.copy-start.result c.start_code.result =
    subst (λ b. IsCodeOf w.start b c.start_code.result) (sym c.copy-start.ensures.value)
    (subst (λ s. IsCodeOf s s c.start_code.result) own.laid c.start_code.ensures.value) in
    let settled : IsSettledChild w w.start 0 child =
    subst (λ b. IsSettledChild w b 0 child) c.copy-start.ensures.value (c.settled-key.ensures.settled w.start coded) in
    record { reached = (child.cost, (0, settled_starts w child settled)) }

pub returns-clause-starts : goal.returns-clause-starts
returns-clause-starts g c =
    let own = c.args.self.now in
    let w = frame_of (g.G.Game.game own.rules.game) own.rules.rule own.rules.kind own.start in
    let f : IsFrame w = record { sound = g.met.G.Game.sound own.rules.game; fits = own.fits } in
    let child : Child (List ℕ) = record { key = c.settled-key.result.0; cost = c.settled-key.result.1 } in
    let coded : IsCodeOf w.start c.copy-start.result c.start_code.result =
    subst (λ b. IsCodeOf w.start b c.start_code.result) (sym c.copy-start.ensures.value)
    (subst (λ s. IsCodeOf s s c.start_code.result) own.laid c.start_code.ensures.value) in
    let settled : IsSettledChild w w.start 0 child =
    subst (λ b. IsSettledChild w b 0 child) c.copy-start.ensures.value (c.settled-key.ensures.settled w.start coded) in
    settled_starts w child settled

pub returns-clause-alone : goal.returns-clause-alone
returns-clause-alone g c =
    let own = c.args.self.now in
    let w = frame_of (g.G.Game.game own.rules.game) own.rules.rule own.rules.kind own.start in
    let f : IsFrame w = record { sound = g.met.G.Game.sound own.rules.game; fits = own.fits } in
    let child : Child (List ℕ) = record { key = c.settled-key.result.0; cost = c.settled-key.result.1 } in
    let coded : IsCodeOf w.start c.copy-start.result c.start_code.result =
    subst (λ b. IsCodeOf w.start b c.start_code.result) (sym c.copy-start.ensures.value)
    (subst (λ s. IsCodeOf s s c.start_code.result) own.laid c.start_code.ensures.value) in
    let settled : IsSettledChild w w.start 0 child =
    subst (λ b. IsSettledChild w b 0 child) c.copy-start.ensures.value (c.settled-key.ensures.settled w.start coded) in
    start_alone w child f settled

pub returns-clause-at : goal.returns-clause-at
returns-clause-at g c =
    let walk = c.walk-walk.result in
    subst (λ l. StandsAt (frame_of (g.G.Game.game walk.game) walk.rule walk.kind walk.start) walk.position l c.settled-key.result.0)
    (sym c.walk-walk.ensures.last) c.walk-walk.ensures.code
