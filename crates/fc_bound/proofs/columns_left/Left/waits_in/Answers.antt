use Rattle.std.proofs.Common.{[], get_or, ap, subst, ◌∙◌, arith}
use Rattle.fc_position.specs.Board.{last_of}
use Rattle.fc_bound.specs.Knots.{ends_among}
use Rattle.fc_bound.specs.Rows.{IsRow, no_row}
use Rattle.fc_bound.proofs.LooseLemmas.{waits_bit}
use Rattle.fc_bound.proofs.TakeLemmas.{left_card, row_left}
use Rattle.fc_bound.proofs.columns_left.Left.waits_in.Goals as goal

pub bounds-self-inside-v : goal.bounds-self-inside-v
bounds-self-inside-v c =
    omega (arith, left_card c.self.inside.position.now c.self.inside.all c.args.v c.self.invariant.whole (ap (λ v. ends_among v c.args.v) c.self.view_is ∙ c.requires.two))

pub overflow_shr-result : goal.overflow_shr-result
overflow_shr-result c =
    omega (arith, left_card c.self.inside.position.now c.self.inside.all c.args.u c.self.invariant.whole (ap (λ v. ends_among v c.args.u) c.self.view_is ∙ c.requires.one))

pub returns : goal.returns
returns c = record {
  value = λ i j one two.
      let s = c.args.self.now in
      let rows = c.self.inside.rows.now in
      let below = left_card c.self.inside.position.now c.self.inside.all c.args.u c.self.invariant.whole (ap (λ v. ends_among v c.args.u) c.self.view_is ∙ c.requires.one) in
      let second : IsRow (get_or rows c.args.v no_row) (get_or s j []) =
      subst (λ w. IsRow (get_or rows c.args.v no_row) (get_or w j [])) c.self.view_is
      (row_left c.self.inside.position.now rows c.self.inside.held c.self.inside.all c.self.inside.lasts j c.args.v c.self.invariant
      (ap (λ w. last_of (get_or w j [])) c.self.view_is ∙ two)) in
      waits_bit (get_or rows c.args.v no_row).waiting c.args.u (get_or s j []) (get_or s i []) below second.waiting one;
}
