use Rattle.std.proofs.Common.{◌+◌, ◌∙◌, subst, sym, arith}
use Rattle.std.proofs.lemmas.Bool.{false≢true}
use Rattle.fc_moves.specs.GameRules.{IsPositionOf}
use Rattle.fc_moves.proofs.StepLemmas.{step_keeps}
use Rattle.fc_sequences.specs.inner.Part.{IsPart, NoneLonger}
use Rattle.fc_sequences.proofs.PartLemmas.{carry_played, first_part, longer_part, none_next, none_past, none_so_far, run_more}
use Rattle.fc_sequences.proofs.gathers.longest_part.Goals as goal
use Rattle.fc_sequences.proofs.gathers.longest_part.Goals.{then-played, else-played}

pub loop-index-init : goal.loop-index-init
loop-index-init g c =
    let game = g.G.Game.game c.args.game.now in record {
      part = first_part game c.args.position.now c.args.moves.now c.args.first c.requires.fits c.requires.first c.requires.allowed;
      longest = λ m i j k few carry. omega arith;
      run = c.copy-after.ensures.value;
      fits = subst (IsPositionOf game) (sym c.copy-after.ensures.value) c.requires.fits;
    }

pub loop-index-preserved : goal.loop-index-preserved
loop-index-preserved g c =
    let game = g.G.Game.game c.args.game.now in
    let sound = g.met.G.Game.sound c.args.game.now in
    let board = c.args.position.now in
    let moves = c.args.moves.now in
    let after = c.apply.new.position in
    let at = c.loop-index.index in
    let next = run_more game board c.loop-index.after after moves _ at c.loop-index.invariant.run (omega arith) c.apply.ensures.step in record {
      part = elim c.if-played.branch [
        | then-played w ↦ subst (IsPart game board moves) (sym w.longest-is)
            (longer_part game board after moves c.args.first _ c.gain.result at sound c.requires.first next (omega arith) c.gain.ensures.columns
            (c.in_ok-played.ensures.value.0 w.if-played.true))
        | else-played w ↦ subst (IsPart game board moves) (sym w.longest-is) c.loop-index.invariant.part
      ];
      longest = elim c.if-played.branch [
        | then-played w ↦ subst (λ p. NoneLonger game board moves (at + 1) p.moves) (sym w.longest-is) (none_so_far game board moves at)
        | else-played w ↦ subst (λ p. NoneLonger game board moves (at + 1) p.moves) (sym w.longest-is)
            (none_next game board moves at c.loop-index.longest.moves c.loop-index.invariant.longest
            (λ i j k carry. false≢true (sym w.if-played.false ∙ c.in_ok-played.ensures.value.1
            (carry_played game board after moves c.args.first _ c.gain.result at i j k sound c.requires.fits c.requires.first next (omega arith) c.gain.ensures.value carry))))
      ];
      run = next;
      fits = step_keeps game c.loop-index.after after _ c.loop-index.invariant.fits c.apply.ensures.step;
    }

pub returns-then-not-allows-clause-longest : goal.returns-then-not-allows-clause-longest
returns-then-not-allows-clause-longest g c =
    none_past (g.G.Game.game c.args.game.now) c.args.position.now c.loop-index.after c.args.moves.now _ c.loop-index.index c.loop-index.longest.moves
    c.loop-index.invariant.longest c.loop-index.invariant.run (omega arith) (λ allowed. false≢true (c.if-not-allows.ensures.value.1 allowed))
