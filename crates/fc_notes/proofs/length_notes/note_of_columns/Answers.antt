use Rattle.fc_notes.specs.Length.{IsDealInRows, SpellsInRows}
use Rattle.fc_notes.proofs.NoteLemmas.{rows_spell_one, said_beside}
use Rattle.fc_notes.proofs.length_notes.note_of_columns.Goals as goal

pub returns : goal.returns
returns c = record {
  note =
      said_beside (IsDealInRows c.args.cells c.args.text.now) (SpellsInRows c.args.cells c.args.text.now) c.args.start.now c.in_ok-other.other
      c.reading_note.result (rows_spell_one c.args.cells c.args.text.now)
      (λ like. let yes = c.is_like_no_deal.ensures.value.1 like in absurd (cc)) c.in_ok-other.ensures.some c.reading_note.ensures.note;
}
