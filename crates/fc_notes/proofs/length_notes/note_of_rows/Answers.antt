use Rattle.fc_text.specs.Board.{Spells}
use Rattle.fc_text.proofs.OnceLemmas.{spell_no_fault, spell_one}
use Rattle.fc_notes.proofs.NoteLemmas.{said_beside}
use Rattle.fc_notes.proofs.length_notes.note_of_rows.Goals as goal

pub returns-in-Ok : goal.returns-in-Ok
returns-in-Ok c = record {
  note =
      said_beside ⊥ (Spells c.args.cells c.args.text.now) c.args.start.now c.in-Ok.other c.reading_note.result
      (spell_one c.args.cells c.args.text.now) (λ like. let yes = c.is_like_no_deal.ensures.value.1 like in absurd (cc))
      c.in-Ok.ensures.read c.reading_note.ensures.note;
}

pub returns-in-Err : goal.returns-in-Err
returns-in-Err c = record {
  note = (
    λ like. let yes = c.is_like_no_deal.ensures.value.1 like in absurd (cc),
    λ b spelled. absurd (spell_no_fault c.args.cells c.args.text.now b c.in-Err.field-0 spelled c.in-Err.ensures.fault),
  );
}
