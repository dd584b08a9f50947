use Rattle.std.proofs.Common.{◌∙◌, ap, length, arith}
use Rattle.fc_sequences.proofs.SpaceLemmas.{enough_so}
use Rattle.fc_sequences.proofs.carries.are_enough.Goals as goal

pub returns-then-cards-room : goal.returns-then-cards-room
returns-then-cards-room g c = record {
  value =
      enough_so (g.G.Game.game c.args.game.now) c.args.position.now c.args.to c.len-cells.result c.len-columns.result c.args.cards.now c.all_open.result (c.len-cells.ensures.value ∙ ap length c.free_cells.ensures.value) (c.len-columns.ensures.value ∙ ap length c.spare_columns.ensures.value) (omega arith) (omega (arith, c.room.ensures.value)) c.all_open.ensures.value;
}
