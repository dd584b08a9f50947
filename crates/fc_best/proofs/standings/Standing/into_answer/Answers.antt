use Rattle.fc_best.proofs.AnswerLemmas.{listed_best, lost_listed, lost_told, no_number}
use Rattle.fc_best.proofs.standings.Standing.into_answer.Goals as goal

pub returns-in_default-clause-told : goal.returns-in_default-clause-told
returns-in_default-clause-told c q b stands =
    lost_told q b c.args.self c.unwrap-floor.result stands c.unwrap-floor.ensures (no_number c.unwrap-floor.result.floor c.in_default.not-Some)

pub returns-in_default-clause-listed : goal.returns-in_default-clause-listed
returns-in_default-clause-listed c q b stands =
    lost_listed q b c.args.self c.unwrap-floor.result stands c.unwrap-floor.ensures (no_number c.unwrap-floor.result.floor c.in_default.not-Some)

pub returns-in-Some-list-clause-best : goal.returns-in-Some-list-clause-best
returns-in-Some-list-clause-best c q b stands =
    listed_best q b c.args.self c.unwrap-floor.result c.in-Some-list.list c.in-Some.floor c.told.result stands c.unwrap-floor.ensures c.in-Some.is
    c.in-Some-list.is c.told.ensures.short c.told.ensures.long
