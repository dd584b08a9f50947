use Rattle.std.proofs.Common.{[], get_or, length, ap, sym, ◌∙◌, arith}
use Rattle.std.proofs.lemmas.List.{length-map}
use Rattle.std.proofs.lemmas.Nat.Bits.{shr_and_one}
use Rattle.fc_position.specs.Board.{last_of}
use Rattle.fc_bound.specs.inner.Rows.{left_in, left_of}
use Rattle.fc_bound.specs.Knots.{waits_above, ends_among}
use Rattle.fc_bound.proofs.TakeLemmas.{left_card}
use Rattle.fc_bound.proofs.LooseLemmas.{held_bit, bit_test}
use Rattle.fc_bound.proofs.columns_left.Left.waits_above.Goals as goal

pub overflow_shr-result : goal.overflow_shr-result
overflow_shr-result c =
    omega (arith, left_card c.self.inside.position.now c.self.inside.all c.args.u c.self.invariant.whole (ap (λ v. ends_among v c.args.u) c.self.view_is ∙ c.requires.last))

pub returns : goal.returns
returns c = record {
  value = λ i last.
      let v = left_in c.self.inside.all c.self.inside.position.now.columns in
      bit_test _ (waits_above (get_or v i []))
      (shr_and_one c.self.inside.held c.args.u
      ∙ held_bit c.self.inside.position.now c.self.inside.rows.now c.self.inside.held c.self.inside.all c.self.inside.lasts i c.args.u c.self.invariant
      (ap (λ w. last_of (get_or w i [])) c.self.view_is ∙ last))
      ∙ ap (λ w. waits_above (get_or w i [])) c.self.view_is;
  eight = ap length (sym c.self.view_is) ∙ length-map c.self.inside.position.now.columns (left_of c.self.inside.all) ∙ c.self.invariant.whole.columns;
}
