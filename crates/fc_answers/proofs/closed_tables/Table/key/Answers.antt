use Rattle.std.proofs.Common.{◌≡◌, ◌<◌, List, ℕ, length, slice_get, Some, sym, subst, arith}
use Rattle.std.proofs.lemmas.List.{length-map}
use Rattle.std.proofs.lemmas.List.Elements.{All-get_or}
use Rattle.fc_answers.specs.declared.table_rows.Row.{Row}
use Rattle.fc_answers.specs.Table.{IsCoded, IsRowOf, key_by, pairs_by}
use Rattle.fc_answers.proofs.RowLemmas.{pair_there}
use Rattle.fc_answers.proofs.closed_tables.Table.key.Goals as goal

pub key-requires : goal.key-requires
key-requires c =
    let start = c.self.inside.layout in
    let rows = c.self.inside.rows.items in
    let row = c.index.result.now in
    let pair : Row → List ℕ × ℕ = λ r. (key_by start r.code, r.cost) in
    let listed : c.args.i < length (pairs_by start rows) = subst (λ v. c.args.i < length v.rows) (sym c.self.view_is) c.requires.within in
    let there = All-get_or (IsRowOf start) rows c.args.i row (omega (arith, listed, length-map rows pair)) c.self.invariant.3 in
    record { coded = subst (λ r. IsCoded start r.code) (sym c.index.ensures) there.0 }

pub returns : goal.returns
returns c =
    let cost = c.index.result.now.cost in
    let there = pair_there c.self.inside.layout c.self.inside.rows.items c.args.i c.index.result.now c.index.ensures
    (subst (λ v. c.args.i < length v.rows) (sym c.self.view_is) c.requires.within) in
    record {
      value = (
        cost,
        subst (λ k. slice_get c.args.self.now.rows c.args.i ≡ Some (k, cost)) (sym c.key.ensures.value)
            (subst (λ v. slice_get v.rows c.args.i ≡ Some (key_by c.self.inside.layout c.index.result.now.code, cost)) c.self.view_is there),
      );
    }
