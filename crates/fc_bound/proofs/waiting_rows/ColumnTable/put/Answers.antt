use Rattle.std.proofs.Common.{◌≡◌, None, sym, ◌∙◌, ap, subst}
use Rattle.fc_position.specs.Board.{column, last_of, board_without, playable}
use Rattle.fc_bound.specs.Rows.{IsTableOf}
use Rattle.fc_bound.proofs.TableLemmas.{none_lifted}
use Rattle.fc_bound.proofs.waiting_rows.ColumnTable.put.Goals as goal

pub returns-in-Column-None-clause-table : goal.returns-in-Column-None-clause-table
returns-in-Column-None-clause-table c =
    let b = c.args.position.now in
    let i = c.in-Column-None.field-0-0 in
    let none : last_of (column b i) ≡ None =
    ap (playable b) (sym c.in-Column-None.is-0) ∙ sym c.playable.ensures.value ∙ c.in-Column-None.is-1 in
    subst (λ v. IsTableOf v c.args.self.now) (none_lifted b.columns i none)
    (subst (λ to. IsTableOf (board_without b to).columns c.args.self.now) c.in-Column-None.is-0 c.requires.table)
