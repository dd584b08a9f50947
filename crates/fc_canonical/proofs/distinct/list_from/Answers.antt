use Rattle.std.proofs.Common.{◌+◌, ◌*◌, [], ◌∷◌, ◌++◌, refl, ◌∙◌, ap, subst}
use Rattle.fc_cards.specs.declared.places.Place.TheVariants.{Cell}
use Rattle.fc_moves.specs.declared.steps.Move.{Move}
use Rattle.fc_moves.specs.Step.{place_number}
use Rattle.fc_moves.proofs.StepLemmas.{source_there}
use Rattle.fc_canonical.specs.inner.Distinct.{AddsDistinct, IsCellOf}
use Rattle.fc_canonical.proofs.AddedLemmas.{adds_both, adds_move, adds_none}
use Rattle.fc_canonical.proofs.ListingLemmas.{cell_adds, cell_passes}
use Rattle.fc_canonical.proofs.distinct.list_from.Goals as goal
use Rattle.fc_canonical.proofs.distinct.list_from.Goals.{in-Some, in_default}

pub returns-clause-adds : goal.returns-clause-adds
returns-clause-adds g c =
    let game = g.G.Game.game c.args.game.now in
    let b = c.args.position.now in
    let from = c.args.source.now.from in
    let low = place_number from * 13 in
    let source = source_there b from c.args.source.now.card c.requires.whole c.requires.card in
    let before = c.list_to_columns.new.list.items in
    let to_cell : AddsDistinct game b from (low + 8) (low + 12) before c.match-cell.list.items =
    elim c.match-cell.branch [
      | in-Some w ↦
          let m : Move = record { from = from; to = Cell w.in-Some.j } in
          adds_move game b from (Cell w.in-Some.j) (low + 8) (low + 12) before c.match-cell.list.items
          (ap (λ v. v.items) w.list-is ∙ w.push.ensures.items)
          (λ ms lists. cell_adds game b from w.in-Some.j ms (ms ++ m ∷ []) c.requires.whole source
          (subst (IsCellOf game b from) w.in-Some.is c.requires.cell) lists refl)
      | in_default w ↦ rw w.list-is
          (adds_none game b from (low + 8) (low + 12) before
          (λ ms. cell_passes game b from ms c.requires.whole source
          (subst (IsCellOf game b from) w.in_default.is c.requires.cell)))
    ] in
    adds_both game b from low (low + 12) (low + 13) c.args.list.now.items c.match-cell.list.items
    c.list_to_home.new.list.items
    (adds_both game b from low (low + 8) (low + 12) c.args.list.now.items before c.match-cell.list.items
    c.list_to_columns.ensures.adds to_cell)
    c.list_to_home.ensures.adds
