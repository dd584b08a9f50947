use Rattle.std.proofs.Common.{length, sym, ◌∙◌, ap, arith}
use Rattle.fc_sequences.specs.Sequence.{is_spare}
use Rattle.fc_sequences.proofs.SpaceLemmas.{spares_all, filter_adds, filter_skips, filter_few}
use Rattle.fc_sequences.proofs.spaces.spare_columns.Goals as goal
use Rattle.fc_sequences.proofs.spaces.spare_columns.Goals.{then-is_spare, else-is_spare}

pub push-requires : goal.push-requires
push-requires c = (
  omega arith,
  omega (arith, ap length c.loop-i.invariant, filter_few (is_spare c.args.position.now c.args.to) c.loop-i.i),
)

pub loop-i-preserved : goal.loop-i-preserved
loop-i-preserved c =
    let test = is_spare c.args.position.now c.args.to in
    elim c.if-is_spare.branch [
      | then-is_spare w ↦ ap (λ v. v.items) w.columns-is
          ∙ filter_adds test c.loop-i.i c.loop-i.columns.items w.push.new.self.items (sym c.is_spare.ensures.value ∙ w.if-is_spare.true) c.loop-i.invariant w.push.ensures.items
      | else-is_spare w ↦ ap (λ v. v.items) w.columns-is
          ∙ filter_skips test c.loop-i.i c.loop-i.columns.items (sym c.is_spare.ensures.value ∙ w.if-is_spare.false) c.loop-i.invariant
    ]

pub returns : goal.returns
returns c = record { value = spares_all c.args.position.now c.args.to c.loop-i.i c.loop-i.columns.items c.loop-i.invariant (omega arith) }
