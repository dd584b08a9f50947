use Rattle.std.proofs.Common.{◌∙◌, subst}
use Rattle.fc_home.proofs.RuleLemmas.{refuted}
use Rattle.fc_home.specs.Settles.{Settles}
use Rattle.fc_moves.proofs.BackLemmas.{taken_back}
use Rattle.fc_moves.proofs.StepLemmas.{step_once}
use Rattle.fc_space.proofs.StayLemmas.{flips, others_stay, settled_here}
use Rattle.fc_space.proofs.stays.stays_moved.Goals as goal

pub shift-requires : goal.shift-requires
shift-requires g c =
    let back = taken_back (g.G.Game.game c.args.rules.now.game) c.args.position.now c.apply.new.position c.args.m c.apply.ensures.step c.requires.away in
    record { moves = (c.apply.ensures.step.card, back.there, back.receives) }

pub returns-clause-same : goal.returns-clause-same
returns-clause-same g c =
    let back = taken_back (g.G.Game.game c.args.rules.now.game) c.args.position.now c.apply.new.position c.args.m c.apply.ensures.step c.requires.away in
    c.shift.ensures.after c.apply.ensures.step.card back.there ∙ back.back

pub returns-clause-stays : goal.returns-clause-stays
returns-clause-stays g c = λ quiet. (
  c.requires.away,
  λ z step.
      let rules = c.args.rules.now in
      let game = g.G.Game.game rules.game in
      let b = c.args.position.now in
      let y = c.apply.new.position in
      let same = step_once game b c.args.m y z c.apply.ensures.step step in
      let goes = c.goes_home_from-goes.result in
      let here = settled_here rules.rule game y c.args.m.from
      (others_stay rules.rule game b y c.args.m c.apply.ensures.step c.requires.away c.requires.settled)
      (refuted goes c.goes_home_from-goes.ensures.value (flips goes quiet)) in
      subst (λ x. Settles game rules.rule x 0 x) same here,
)
