use Rattle.std.proofs.Common.{◌∙◌, ℕ, get_or, refl, sym, subst, below_more, arith}
use Rattle.std.proofs.lemmas.List.{get_or_read}
use Rattle.fc_position.specs.Board.{Board}
use Rattle.fc_moves.specs.Step.{Allows}
use Rattle.fc_sequences.proofs.layers.all_allow.Goals as goal

pub returns-then-not-allows : goal.returns-then-not-allows
returns-then-not-allows g c =
    let game = g.G.Game.game c.args.game.now in record {
      value = (
        λ yes. absurd (cc yes),
        λ all. absurd (cc (sym c.if-not-allows.true ∙ c.allows.ensures.value.1 (subst (λ b. Allows game b c.args.m) (sym c.board-item.is) (all c.loop-board.board-index c.board-item.result (omega arith))))),
      );
    }

pub loop-board-preserved : goal.loop-board-preserved
loop-board-preserved g c k d below =
    let game = g.G.Game.game c.args.game.now in
    let read = get_or_read c.args.boards.now c.loop-board.board-index c.board-item.result (omega arith) c.board-item.is d in
    below_more (λ (i : ℕ). Allows game (get_or c.args.boards.now i d) c.args.m) c.loop-board.board-index (λ i less. c.loop-board.invariant i d less)
    (subst (λ b. Allows game b c.args.m) read (c.allows.ensures.value.0 c.if-not-allows.false)) k below
