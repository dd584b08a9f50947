use Rattle.std.proofs.Common.{◌≡◌, ◌<◌, length, slice_get, Some, sym, subst}
use Rattle.fc_answers.specs.Table.{key_by}
use Rattle.fc_answers.proofs.RowLemmas.{pair_there}
use Rattle.fc_answers.proofs.closed_tables.Table.cost.Goals as goal

pub returns : goal.returns
returns c =
    let key = key_by c.self.inside.layout c.index.result.now.code in
    let there = pair_there c.self.inside.layout c.self.inside.rows.items c.args.i c.index.result.now c.index.ensures
    (subst (λ v. c.args.i < length v.rows) (sym c.self.view_is) c.requires.within) in
    record { value = (key, subst (λ v. slice_get v.rows c.args.i ≡ Some (key, c.index.result.now.cost)) c.self.view_is there) }
