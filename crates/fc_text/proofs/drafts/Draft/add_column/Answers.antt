use Rattle.std.proofs.Common.{sym, ◌∙◌}
use Rattle.fc_text.proofs.ColumnDraft.{column_more, column_past, empty_of_size, past_fault, room_sound}
use Rattle.fc_text.proofs.drafts.Draft.add_column.Goals as goal

-- src/drafts.rt:45:5
pub returns-then-self-lt8-clause-read : goal.returns-then-self-lt8-clause-read
returns-then-self-lt8-clause-read c lines old =
    column_more lines c.args.self.now c.args.piece.now c.in_ok-column.column c.read_column.new.tally old c.in_ok-column.ensures.read c.if-self-lt8.true

-- src/drafts.rt:45:5
pub returns-else-not-is_empty-clause-read : goal.returns-else-not-is_empty-clause-read
returns-else-not-is_empty-clause-read c lines old =
    column_past lines c.args.self.now c.args.piece.now c.in_ok-column.column.items c.read_column.new.tally old c.in_ok-column.ensures.read
    (empty_of_size c.in_ok-column.column.items (sym c.is_empty.ensures ∙ c.if-not-is_empty.false)) c.if-self-lt8.false

-- src/drafts.rt:62:13
pub returns-then-not-is_empty-clause-fault : goal.returns-then-not-is_empty-clause-fault
returns-then-not-is_empty-clause-fault c n lines old =
    past_fault n lines c.args.self.now c.args.piece.now c.in_ok-column.column.items c.read_column.new.tally old c.in_ok-column.ensures.read
    c.if-self-lt8.false (sym c.is_empty.ensures ∙ c.if-not-is_empty.true)

-- src/drafts.rt:46:5
pub returns-then-self-lt8-clause-sound : goal.returns-then-self-lt8-clause-sound
returns-then-self-lt8-clause-sound c n lines old =
    room_sound n lines c.args.self.now c.args.piece.now c.in_ok-column.column.items c.read_column.new.tally old c.in_ok-column.ensures.read
    c.if-self-lt8.true
