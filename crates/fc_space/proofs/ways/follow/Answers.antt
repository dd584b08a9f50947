use Rattle.std.proofs.Common.{◌++◌, ◌∷◌, [], ◌∙◌, ap, arith}
use Rattle.std.proofs.lemmas.List.{append_assoc}
use Rattle.std.proofs.lemmas.Option.{MatchOption-at_some}
use Rattle.fc_moves.proofs.StepLemmas.{run_keeps}
use Rattle.fc_home.proofs.SettleLemmas.{settles_run}
use Rattle.fc_space.proofs.WayLemmas.{found}
use Rattle.fc_space.proofs.ways.follow.Goals as goal

pub unwrap-way-requires : goal.unwrap-way-requires
unwrap-way-requires g c = found c.way_on.result _ _ c.way_on.ensures.first (λ none. none c.requires.leads.0 c.requires.leads.1)

pub returns-clause-led : goal.returns-clause-led
returns-clause-led g c =
    let way = c.unwrap-way.result in
    let on = MatchOption-at_some _ _ way c.unwrap-way.ensures c.way_on.ensures.first in
    let settling = way.settling.items in (
      way.m ∷ settling,
      c.in_ok-extend_from_slice.ensures.items ∙ ap (λ l. c.push.new.self.items ++ l) c.as_slice.ensures.value
          ∙ ap (λ l. l ++ settling) c.in_ok-push.ensures.items ∙ append_assoc c.args.made.now.items (way.m ∷ []) settling,
      (on.0, on.1, settles_run (g.G.Game.game c.args.space.now.rules.game) c.args.space.now.rules.rule on.0 way.position settling on.2),
      (let few = on.4 in omega (arith, few)),
    )

pub returns-clause-fits : goal.returns-clause-fits
returns-clause-fits g c =
    let way = c.unwrap-way.result in
    let game = g.G.Game.game c.args.space.now.rules.game in
    let on = MatchOption-at_some _ _ way c.unwrap-way.ensures c.way_on.ensures.first in
    run_keeps game c.args.position.now way.position (way.m ∷ way.settling.items) c.requires.fits
    (on.0, on.1, settles_run game c.args.space.now.rules.rule on.0 way.position way.settling.items on.2)
