use Rattle.fc_position.proofs.LayoutLemmas.{eight}
use Rattle.fc_tests.proofs.position.same_columns.Goals as goal

pub returns : goal.returns
returns c =
    rw (c.same_column.ensures, c.same_column-2.ensures, c.same_column-3.ensures, c.same_column-4.ensures, c.same_column-5.ensures, c.same_column-6.ensures, c.same_column-7.ensures, c.same_column-8.ensures)
    (eight (λ v. v.items) c.args.columns.now c.index-columns-0.result c.index-columns-1.result c.index-columns-2.result c.index-columns-3.result c.index-columns-4.result c.index-columns-5.result c.index-columns-6.result c.index-columns-7.result c.type_inv.columns)
