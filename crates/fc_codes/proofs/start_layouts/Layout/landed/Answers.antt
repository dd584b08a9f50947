use Rattle.std.proofs.Common.{◌∙◌}
use Rattle.fc_codes.proofs.start_layouts.Layout.landed.Goals as goal

pub returns-in-Home : goal.returns-in-Home
returns-in-Home c = record {
  value = λ d m x e. c.at_home.ensures.value c.args.self.now c.args.position.now d m x (e ∙ c.in-Home.is);
}

pub returns-in-Cell : goal.returns-in-Cell
returns-in-Cell c = record {
  value = λ d m x e. c.in_cell.ensures.value c.args.self.now c.args.position.now d m c.in-Cell.field-0 x (e ∙ c.in-Cell.is);
}

pub returns-in-Column : goal.returns-in-Column
returns-in-Column c = record {
  value = λ d m x e. c.stacked.ensures.value d m x (e ∙ c.in-Column.is);
}
