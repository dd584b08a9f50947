use Rattle.std.proofs.Common.{◌≡◌, ◌∙◌, ap, sym, subst}
use Rattle.std.specs.Prelude.{IfNone}
use Rattle.fc_replay.specs.Token.{move_tokens}
use Rattle.fc_lists.specs.Told.{TellsEntry}
use Rattle.fc_lists.specs.declared.told_entries.ToldEntry.{ToldEntry}
use Rattle.fc_lists.proofs.ToldLemmas.{refuses_count, refuses_way}
use Rattle.fc_lists.proofs.told_entries.told_entry.Goals as goal

pub returns-in_err-count-clause-refused : goal.returns-in_err-count-clause-refused
returns-in_err-count-clause-refused c =
    let start : move_tokens c.args.line.now ≡ move_tokens c.new-words.result.rest.now = ap move_tokens (sym c.new-words.ensures.rest) in
    subst (λ r. IfNone r ((told : ToldEntry) → TellsEntry (move_tokens c.args.line.now) told → ⊥)) (sym c.from_residual-in_err-count.ensures)
    (refuses_count (move_tokens c.args.line.now) (move_tokens c.next.new.self.rest.now) c.in_ok-number.number.now (start ∙ c.in_ok-number.ensures.steps)
    c.in_err-count.ensures.refused)

pub returns-in_err-from-clause-refused : goal.returns-in_err-from-clause-refused
returns-in_err-from-clause-refused c =
    let start : move_tokens c.args.line.now ≡ move_tokens c.new-words.result.rest.now = ap move_tokens (sym c.new-words.ensures.rest) in
    subst (λ r. IfNone r ((told : ToldEntry) → TellsEntry (move_tokens c.args.line.now) told → ⊥)) (sym c.from_residual-in_err-from.ensures)
    (refuses_way (move_tokens c.args.line.now) (move_tokens c.next.new.self.rest.now) (move_tokens c.told_count.new.words.rest.now) c.in_ok-number.number.now
    c.in_ok-count.count (start ∙ c.in_ok-number.ensures.steps) c.in_ok-count.ensures.told c.in_err-from.ensures.refused)
