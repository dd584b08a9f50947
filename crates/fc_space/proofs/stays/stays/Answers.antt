use Rattle.std.proofs.Common.{rules, ◌≡◌, ◌≢◌, true}
use Rattle.fc_cards.specs.declared.places.Place.TheVariants.{Home}
use Rattle.fc_space.proofs.StayLemmas.{beneath_stays, flips, others_stay, settled_here}
use Rattle.fc_space.proofs.stays.stays.Goals as goal

pub returns-then-not-frees_next-clause-stays : goal.returns-then-not-frees_next-clause-stays
returns-then-not-frees_next-clause-stays g c = λ quiet.
    let away : c.args.m.to ≢ Home = λ e. let is : c.eq.result ≡ true = search rules in let no = c.if-eq.false in cc in
    let b = c.args.position.now in
    let m = c.args.m in
    let rule = c.args.rules.now.rule in
    let game = g.G.Game.game c.args.rules.now.game in (
      away,
      λ z step. settled_here rule game z m.from (others_stay rule game b z m step away c.requires.settled)
          (beneath_stays rule game b z m c.frees_next.result step away c.frees_next.ensures.next (flips c.frees_next.result quiet)),
    )
