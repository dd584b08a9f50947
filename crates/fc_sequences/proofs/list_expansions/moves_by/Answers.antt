use Rattle.std.proofs.Common.{◌≡◌, ◌<◌, length, Some, refl, sym, subst, arith, rules}
use Rattle.std.specs.Prelude.{slice_get}
use Rattle.fc_moves.specs.GameRules.{IsPositionOf}
use Rattle.fc_sequences.proofs.EndLemmas.{entry_at}
use Rattle.fc_sequences.proofs.GetLemmas.{number_at}
use Rattle.fc_sequences.proofs.PathLemmas.{along_first, along_last, along_next, plays_long, plays_next}
use Rattle.fc_sequences.proofs.list_expansions.moves_by.Goals as goal

pub loop-index-init : goal.loop-index-init
loop-index-init g c = (
  subst (IsPositionOf (g.G.Game.game c.args.game.now)) (sym c.copy-here.ensures.value) c.requires.fits,
  λ d plays. along_first _ c.args.position.now c.copy-here.result d c.args.pairs.now c.args.counts.now c.new-moves.result.items plays
      c.copy-here.ensures.value c.new-moves.ensures.items,
)

pub bounds-counts-index : goal.bounds-counts-index
bounds-counts-index g c =
    let plays = c.requires.plays in
    omega (arith, plays_long _ c.args.position.now c.args.pairs.now c.args.counts.now plays.0 plays.1)

pub play_pair-requires-clause-may : goal.play_pair-requires-clause-may
play_pair-requires-clause-may g c =
    let plays = c.requires.plays in
    let long = plays_long _ c.args.position.now c.args.pairs.now c.args.counts.now plays.0 plays.1 in
    let so_far = c.loop-index.invariant.1 plays.0 plays.1 in
    let next = plays_next _ c.loop-index.here c.args.pairs.now c.args.counts.now plays.0 c.loop-index.index _ _ so_far.1
    (entry_at c.args.pairs.now c.loop-index.index _ (omega arith)) (number_at c.args.counts.now c.loop-index.index _ (omega (arith, long))) in
    (next.0, next.1)

pub loop-index-preserved : goal.loop-index-preserved
loop-index-preserved g c = (
  c.in_ok-play_pair.ensures.whole,
  λ d plays.
      let long = plays_long _ c.args.position.now c.args.pairs.now c.args.counts.now d plays in
      let so_far = c.loop-index.invariant.1 d plays in
      along_next _ c.args.position.now c.loop-index.here c.play_pair.new.position d c.args.pairs.now c.args.counts.now c.loop-index.index _ _ _ _ so_far.0 so_far.1
      (entry_at c.args.pairs.now c.loop-index.index _ (omega arith)) (number_at c.args.counts.now c.loop-index.index _ (omega (arith, long)))
      c.in_ok-play_pair.ensures.played c.in_ok-play_pair.ensures.run c.in_ok-play_pair.ensures.count,
)

pub returns : goal.returns
returns g c = record {
  expanded = λ d plays.
      let so_far = c.loop-index.invariant.1 d plays in
      along_last _ c.args.position.now c.loop-index.here d c.args.pairs.now c.args.counts.now c.loop-index.index _ so_far.0 so_far.1 (omega arith)
      (plays_long _ c.args.position.now c.args.pairs.now c.args.counts.now d plays);
}
