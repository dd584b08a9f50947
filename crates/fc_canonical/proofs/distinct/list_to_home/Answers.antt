use Rattle.std.proofs.Common.{◌+◌, ◌*◌, [], ◌∷◌, ◌++◌, refl, sym, ◌∙◌}
use Rattle.fc_cards.specs.declared.places.Place.TheVariants.{Home}
use Rattle.fc_position.specs.Board.{IsNext}
use Rattle.fc_moves.specs.declared.steps.Move.{Move}
use Rattle.fc_moves.specs.Step.{place_number}
use Rattle.fc_moves.proofs.StepLemmas.{source_there}
use Rattle.fc_canonical.proofs.AddedLemmas.{adds_move, adds_none}
use Rattle.fc_canonical.proofs.ListingLemmas.{home_listed, place_adds, place_passes}
use Rattle.fc_canonical.proofs.distinct.list_to_home.Goals as goal

pub returns-then-is_next-clause-adds : goal.returns-then-is_next-clause-adds
returns-then-is_next-clause-adds g c =
    let game = g.G.Game.game c.args.game.now in
    let b = c.args.position.now in
    let from = c.args.from in
    let m : Move = record { from = from; to = Home } in
    let source = source_there b from c.args.card c.requires.whole c.requires.card in
    let next : IsNext b.homes c.args.card = c.is_next.ensures.value.0 c.if-is_next.true in
    adds_move game b from Home (place_number from * 13 + 12) (place_number from * 13 + 13) c.args.list.now.items
    c.push.new.self.items c.push.ensures.items
    (λ before lists. place_adds game b from Home 12 before (before ++ m ∷ []) c.requires.whole source tt refl lists
    ((home_listed game b from c.args.card source c.requires.card).0 next) refl)

pub returns-else-is_next-clause-adds : goal.returns-else-is_next-clause-adds
returns-else-is_next-clause-adds g c =
    let game = g.G.Game.game c.args.game.now in
    let b = c.args.position.now in
    let from = c.args.from in
    let source = source_there b from c.args.card c.requires.whole c.requires.card in
    adds_none game b from (place_number from * 13 + 12) (place_number from * 13 + 13) c.args.list.now.items
    (λ before lists. place_passes game b from Home 12 before c.requires.whole source tt refl lists
    (λ ok. let next = (home_listed game b from c.args.card source c.requires.card).1 ok in cc (sym c.if-is_next.false ∙ c.is_next.ensures.value.1 next)))
