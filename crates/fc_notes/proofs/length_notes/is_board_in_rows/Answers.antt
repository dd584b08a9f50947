use Rattle.std.proofs.Common.{[]}
use Rattle.std.specs.Prelude.{◌≢◌}
use Rattle.fc_position.specs.Board.{column}
use Rattle.fc_notes.specs.Length.{SpellsInRows}
use Rattle.fc_notes.proofs.NoteLemmas.{one_such, rows_spell_one}
use Rattle.fc_notes.proofs.length_notes.is_board_in_rows.Goals as goal

pub returns-in-Some : goal.returns-in-Some
returns-in-Some c = record {
  value =
      one_such (SpellsInRows c.args.cells c.args.text.now) (λ b. column b 7 ≢ []) c.in-Some.other c.has_eighth.result
      (rows_spell_one c.args.cells c.args.text.now) c.in-Some.ensures.some c.has_eighth.ensures.value;
}
