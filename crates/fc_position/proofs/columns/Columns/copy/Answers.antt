use Rattle.fc_position.proofs.LayoutLemmas.{eight_same}
use Rattle.fc_position.proofs.columns.Columns.copy.Goals as goal

pub returns : goal.returns
returns c =
    rw (c.copy.ensures, c.copy-2.ensures, c.copy-3.ensures, c.copy-4.ensures, c.copy-5.ensures, c.copy-6.ensures, c.copy-7.ensures, c.copy-8.ensures, ← c.self.view_is)
    (eight_same c.self.inside.columns c.index-self-0.result c.index-self-1.result c.index-self-2.result c.index-self-3.result c.index-self-4.result c.index-self-5.result c.index-self-6.result c.index-self-7.result c.self.invariant)
