use Rattle.std.proofs.Common.{sym, subst}
use Rattle.fc_bound.specs.Knots.{ends_among}
use Rattle.fc_bound.specs.Rows.{AreBits, stands_among}
use Rattle.fc_bound.proofs.LeftLemmas.{left_whole}
use Rattle.fc_bound.proofs.columns_left.Left.new.Goals as goal

pub invariant_of-result : goal.invariant_of-result
invariant_of-result c =
    let whole = left_whole c.args.marks.all c.args.position.now.columns c.requires.all in
    record {
      whole = c.requires.whole;
      long = c.requires.long;
      each = c.requires.rows;
      above = c.requires.held;
      stand = subst (λ v. AreBits c.args.marks.all (stands_among v)) (sym whole) c.requires.all;
      ends = subst (λ v. AreBits c.args.marks.lasts (ends_among v)) (sym whole) c.requires.lasts;
    }

pub returns : goal.returns
returns c = record { value = left_whole c.args.marks.all c.args.position.now.columns c.requires.all }
