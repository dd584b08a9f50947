use Rattle.std.proofs.Common.{IfErr, OnOk, count_by}
use Rattle.fc_text.specs.Fault.{IsLineFault, IsSound}
use Rattle.fc_text.specs.Spelling.{is_kind}
use Rattle.std.proofs.Common.{subst, sym}
use Rattle.fc_text.specs.declared.lines.LineKind.TheVariants.{Foundations, Freecells, Column}
use Rattle.fc_text.proofs.DraftLemmas.{line_is}
use Rattle.fc_text.proofs.drafts.Draft.add_line.Goals as goal

-- src/drafts.rt:112:5
pub returns-in-Foundations-clause-sound : goal.returns-in-Foundations-clause-sound
returns-in-Foundations-clause-sound c lines old =
    subst (λ line. OnOk c.add_homes.result (IsSound c.args.most (count_by (is_kind line.kind) lines) line))
    (sym (line_is c.args.line.now c.sorted_line-kind.result.0 c.sorted_line-kind.result.1.now Foundations c.sorted_line-kind.ensures c.in-Foundations.is))
    (c.add_homes.ensures.sound c.args.most lines old)

-- src/drafts.rt:112:5
pub returns-in-Foundations-clause-fault : goal.returns-in-Foundations-clause-fault
returns-in-Foundations-clause-fault c lines old =
    subst (λ line. IfErr c.add_homes.result (IsLineFault c.args.most (count_by (is_kind line.kind) lines) line))
    (sym (line_is c.args.line.now c.sorted_line-kind.result.0 c.sorted_line-kind.result.1.now Foundations c.sorted_line-kind.ensures c.in-Foundations.is))
    (c.add_homes.ensures.fault c.args.most lines old)

-- src/drafts.rt:112:5
pub returns-in-Freecells-clause-sound : goal.returns-in-Freecells-clause-sound
returns-in-Freecells-clause-sound c lines old =
    subst (λ line. OnOk c.add_cells.result (IsSound c.args.most (count_by (is_kind line.kind) lines) line))
    (sym (line_is c.args.line.now c.sorted_line-kind.result.0 c.sorted_line-kind.result.1.now Freecells c.sorted_line-kind.ensures c.in-Freecells.is))
    (c.add_cells.ensures.sound lines old)

-- src/drafts.rt:112:5
pub returns-in-Freecells-clause-fault : goal.returns-in-Freecells-clause-fault
returns-in-Freecells-clause-fault c lines old =
    subst (λ line. IfErr c.add_cells.result (IsLineFault c.args.most (count_by (is_kind line.kind) lines) line))
    (sym (line_is c.args.line.now c.sorted_line-kind.result.0 c.sorted_line-kind.result.1.now Freecells c.sorted_line-kind.ensures c.in-Freecells.is))
    (c.add_cells.ensures.fault lines old)

-- src/drafts.rt:112:5
pub returns-in-Column-clause-sound : goal.returns-in-Column-clause-sound
returns-in-Column-clause-sound c lines old =
    subst (λ line. OnOk c.add_column.result (IsSound c.args.most (count_by (is_kind line.kind) lines) line))
    (sym (line_is c.args.line.now c.sorted_line-kind.result.0 c.sorted_line-kind.result.1.now Column c.sorted_line-kind.ensures c.in-Column.is))
    (c.add_column.ensures.sound c.args.most lines old)

-- src/drafts.rt:112:5
pub returns-in-Column-clause-fault : goal.returns-in-Column-clause-fault
returns-in-Column-clause-fault c lines old =
    subst (λ line. IfErr c.add_column.result (IsLineFault c.args.most (count_by (is_kind line.kind) lines) line))
    (sym (line_is c.args.line.now c.sorted_line-kind.result.0 c.sorted_line-kind.result.1.now Column c.sorted_line-kind.ensures c.in-Column.is))
    (c.add_column.ensures.fault c.args.most lines old)
