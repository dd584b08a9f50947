use Rattle.std.proofs.Common.{sym, ◌∙◌}
use Rattle.fc_position.specs.Board.{column}
use Rattle.fc_codes.proofs.MovedLemmas.{no_last}
use Rattle.fc_codes.proofs.start_layouts.Layout.stacked.Goals as goal

pub returns-in-Some : goal.returns-in-Some
returns-in-Some c = record {
  value = λ d m x e. c.on_card.ensures.value c.args.position.now d m c.args.i x e (sym c.playable.ensures.value ∙ c.in-Some.is);
}

pub returns-in-None : goal.returns-in-None
returns-in-None c = record {
  value = λ d m x e. c.on_table.ensures.value c.args.position.now d m c.args.i x e
      (no_last (column c.args.position.now c.args.i) (sym c.playable.ensures.value ∙ c.in-None.is));
}
