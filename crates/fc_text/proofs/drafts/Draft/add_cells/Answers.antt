use Rattle.std.proofs.Common.{count_by}
use Rattle.fc_text.specs.Spelling.{is_kind}
use Rattle.fc_text.specs.declared.lines.LineKind.TheVariants.{Freecells}
use Rattle.fc_text.proofs.CellDraft.{cells_again, cells_first, cells_many, cells_sound}
use Rattle.fc_text.proofs.drafts.Draft.add_cells.Goals as goal

-- src/drafts.rt:81:13
pub returns-then-count-most-clause-fault : goal.returns-then-count-most-clause-fault
returns-then-count-most-clause-fault c lines old =
    cells_many c.args.most (count_by (is_kind Freecells) lines) c.args.piece.now c.in_ok-cells.cells c.in_ok-cells.count c.in_ok-cells.ensures.read
    c.if-count-most.true

-- src/drafts.rt:84:13
pub returns-then-self-clause-fault : goal.returns-then-self-clause-fault
returns-then-self-clause-fault c lines old =
    cells_again c.args.most lines c.args.self.now c.args.piece.now c.in_ok-cells.cells c.in_ok-cells.count old c.in_ok-cells.ensures.read
    c.if-count-most.false c.requires.game c.if-self.true

-- src/drafts.rt:68:5
pub returns-clause-read : goal.returns-clause-read
returns-clause-read c lines old =
    cells_first lines c.args.self.now c.args.piece.now c.in_ok-cells.cells c.in_ok-cells.count c.add_cells.new.self old c.in_ok-cells.ensures.read c.if-self.false
    c.add_cells.ensures.added

-- src/drafts.rt:68:5
pub returns-clause-sound : goal.returns-clause-sound
returns-clause-sound c lines old =
    cells_sound c.args.most lines c.args.self.now c.args.piece.now c.in_ok-cells.cells c.in_ok-cells.count old c.in_ok-cells.ensures.read
    c.if-count-most.false c.requires.game c.if-self.false
