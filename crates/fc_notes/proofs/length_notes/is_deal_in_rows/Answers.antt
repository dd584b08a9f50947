use Rattle.fc_notes.specs.Length.{AllInColumns, IsAsLongAsDeal, SpellsInRows}
use Rattle.fc_notes.proofs.NoteLemmas.{one_such, rows_spell_one}
use Rattle.fc_notes.proofs.length_notes.is_deal_in_rows.Goals as goal

pub returns-in-Some : goal.returns-in-Some
returns-in-Some c = record {
  value =
      one_such (SpellsInRows c.args.cells c.args.text.now) (λ b. AllInColumns b × IsAsLongAsDeal b) c.in-Some.other c.is_like_deal.result
      (rows_spell_one c.args.cells c.args.text.now) c.in-Some.ensures.some c.is_like_deal.ensures.value;
}
