use Rattle.std.proofs.Common.{◌≡◌, ◌+◌, ◌<◌, ◌≤◌, [], ◌∷◌, ◌++◌, length, take, Some, refl, sym, subst, rules, arith}
use Rattle.std.specs.Prelude.{Contains, slice_get}
use Rattle.fc_position.specs.Board.{Board}
use Rattle.fc_position.specs.Position.{IsWon}
use Rattle.fc_sequences.specs.declared.list_expansions.TheConstants.{MOST_BOARDS}
use Rattle.fc_sequences.specs.inner.Layers.{IsGrown}
use Rattle.fc_sequences.proofs.EndLemmas.{ends_refused, ends_wide, entry_at, few_so_far, grown_at, grown_first, grown_whole}
use Rattle.fc_sequences.proofs.list_expansions.grow.Goals as goal

pub loop-index-init : goal.loop-index-init
loop-index-init g c =
    let game = g.G.Game.game c.args.game.now in
    let first = grown_first game c.args.position.now c.requires.fits in
    let grown : IsGrown game c.args.position.now [] c.new-layers.result.items c.in_ok-boards.boards.items =
    subst (λ l. IsGrown game c.args.position.now [] l c.in_ok-boards.boards.items) (sym c.new-layers.ensures.items)
    (subst (IsGrown game c.args.position.now [] []) (sym c.in_ok-boards.ensures.alone) first) in
    let one : length c.in_ok-boards.boards.items ≡ 1 = subst (λ l. length l ≡ 1) (sym c.in_ok-boards.ensures.alone) refl in (
      grown,
      omega (arith, one),
      omega (arith, one),
      few_so_far game c.args.position.now c.args.pairs.now 0 _ _ grown (omega (arith, one)) (λ earlier below. absurd (omega arith)),
    )

pub returns-then-is_empty-clause-fault : goal.returns-then-is_empty-clause-fault
returns-then-is_empty-clause-fault g c =
    let game = g.G.Game.game c.args.game.now in
    let within : c.loop-index.index < length c.args.pairs.now = omega arith in
    let none : length c.add_layer.new.boards.items ≡ 0 = search rules in
    let next = c.in_ok-add_layer.ensures.next in
    ends_refused game c.args.position.now c.args.pairs.now c.loop-index.index _ _ _ _ _ c.args.position.now c.loop-index.invariant.0 c.loop-index.invariant.1
    (grown_at game c.args.position.now c.args.pairs.now c.loop-index.index _ _ _ _ next.0 c.loop-index.invariant.0
    (entry_at c.args.pairs.now c.loop-index.index _ within) next.2)
    none within refl c.loop-index.invariant.3

pub returns-then-len-gt-MOST_BOARDS-clause-fault : goal.returns-then-len-gt-MOST_BOARDS-clause-fault
returns-then-len-gt-MOST_BOARDS-clause-fault g c =
    let game = g.G.Game.game c.args.game.now in
    let within : c.loop-index.index < length c.args.pairs.now = omega arith in
    let many : MOST_BOARDS < length c.add_layer.new.boards.items = search rules in
    let next = c.in_ok-add_layer.ensures.next in
    ends_wide game c.args.position.now c.args.pairs.now c.loop-index.index _ _ _
    (grown_at game c.args.position.now c.args.pairs.now c.loop-index.index _ _ _ _ next.0 c.loop-index.invariant.0
    (entry_at c.args.pairs.now c.loop-index.index _ within) next.2)
    many within refl c.loop-index.invariant.3

pub loop-index-preserved : goal.loop-index-preserved
loop-index-preserved g c =
    let game = g.G.Game.game c.args.game.now in
    let within : c.loop-index.index < length c.args.pairs.now = omega arith in
    let some : 0 < length c.add_layer.new.boards.items = search rules in
    let few : length c.add_layer.new.boards.items ≤ MOST_BOARDS = search rules in
    let next = c.in_ok-add_layer.ensures.next in
    let grown : IsGrown game c.args.position.now (take (c.loop-index.index + 1) c.args.pairs.now) c.add_layer.new.layers.items c.add_layer.new.boards.items =
    subst (λ l. IsGrown game c.args.position.now (take (c.loop-index.index + 1) c.args.pairs.now) l c.add_layer.new.boards.items) (sym next.1)
    (grown_at game c.args.position.now c.args.pairs.now c.loop-index.index _ _ _ _ next.0 c.loop-index.invariant.0
    (entry_at c.args.pairs.now c.loop-index.index _ within) next.2) in (
      grown,
      some,
      few,
      few_so_far game c.args.position.now c.args.pairs.now (c.loop-index.index + 1) _ _ grown few c.loop-index.invariant.3,
    )

pub returns-clause-grown : goal.returns-clause-grown
returns-clause-grown g c =
    let game = g.G.Game.game c.args.game.now in
    let there = c.won_place-place.ensures.there in (
      c.loop-index.boards.items,
      there.0,
      grown_whole game c.args.position.now c.args.pairs.now c.loop-index.index _ _ c.loop-index.invariant.0 (omega arith),
      subst (λ l. slice_get l c.won_place-place.result ≡ Some there.0) c.as_slice.ensures.value there.1,
      subst (λ l. (d : Board) → Contains l d → IsWon d → IsWon there.0) c.as_slice.ensures.value there.2,
    )

pub returns-clause-few : goal.returns-clause-few
returns-clause-few g c step within = c.loop-index.invariant.3 step (omega arith)
