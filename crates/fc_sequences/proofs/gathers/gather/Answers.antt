use Rattle.std.proofs.Common.{◌-◌, ◌≤◌, drop, length, subst, arith}
use Rattle.std.proofs.lemmas.Bool.{false≢true}
use Rattle.std.proofs.lemmas.List.{drop-drop, drop_all, length-drop, length-take-le}
use Rattle.fc_sequences.specs.inner.Part.{GathersDownTo}
use Rattle.fc_sequences.proofs.GatherLemmas.{gathered_texts, gathers_before, gathers_end, gathers_push, refused_at}
use Rattle.fc_sequences.proofs.PartLemmas.{part_longest}
use Rattle.fc_sequences.proofs.gathers.gather.Goals as goal

pub returns-then-not-allows-clause-fault : goal.returns-then-not-allows-clause-fault
returns-then-not-allows-clause-fault g c =
    let game = g.G.Game.game c.args.game.now in
    let run = gathers_before game c.args.position.now c.loop-step.board _ c.args.moves.now c.loop-step.step c.loop-step.invariant.gathered in
    refused_at game c.args.position.now c.loop-step.board c.args.moves.now _ c.loop-step.step run (omega arith)
    (λ allowed. false≢true (c.if-not-allows.ensures.value.1 allowed))

pub loop-step-preserved : goal.loop-step-preserved
loop-step-preserved g c =
    let game = g.G.Game.game c.args.game.now in
    let moves = c.args.moves.now in
    let at = c.loop-step.step in
    let rest = drop at moves in
    let most = c.min-end.result - at in
    let n = c.in_ok-part.part.moves in
    let long = length-drop at moves in
    let there : most ≤ length rest = omega (arith, c.min-end.ensures, long) in
    let part = c.in_ok-part.ensures.part in
    let added = c.in_ok-add_entry.ensures.added _ part in
    let longest = part_longest game c.loop-step.board rest most c.in_ok-part.part part c.in_ok-part.ensures.longest there (omega (arith, c.min-end.ensures))
    (λ m below few. omega (arith, c.min-end.ensures, long, below, few)) in record {
      within = omega (arith, there, long, part.there, length-take-le most rest there);
      gathered = subst (λ l. GathersDownTo game c.args.position.now c.add_entry.new.pairs.items moves l c.add_entry.new.position)
          (drop-drop n at moves)
          (gathers_push game c.args.position.now c.loop-step.board c.add_entry.new.position c.loop-step.pairs.items c.add_entry.new.pairs.items moves rest _ _
          added.0 c.in_ok-part.part.count c.loop-step.invariant.gathered added.2 longest added.1);
      fits = c.in_ok-add_entry.ensures.whole;
    }

pub returns-clause-gathered : goal.returns-clause-gathered
returns-clause-gathered g c = (
  c.loop-step.board,
  gathers_end _ _ _ _ _ _ c.loop-step.invariant.gathered (drop_all c.loop-step.step c.args.moves.now (omega arith)),
)

pub returns-clause-texts : goal.returns-clause-texts
returns-clause-texts g c = gathered_texts _ _ _ _ _ _ c.loop-step.invariant.gathered
