use Rattle.std.proofs.Common.{◌^◌, ◌<◌, ◌∙◌, ap, arith}
use Rattle.std.specs.List.{list_any}
use Rattle.fc_position.specs.Board.{last_of}
use Rattle.fc_bound.specs.Knots.{has_last}
use Rattle.fc_bound.proofs.LooseLemmas.{left_some}
use Rattle.fc_bound.proofs.columns_left.Left.has_cards.Goals as goal

pub returns : goal.returns
returns c =
    let fits : c.self.inside.all < 2 ^ 64 = omega arith in
    record {
      value = left_some c.self.inside.position.now c.self.inside.rows.now c.self.inside.held c.self.inside.all c.self.inside.lasts c.self.invariant fits
          ∙ ap (list_any (λ column. has_last (last_of column))) c.self.view_is;
    }
