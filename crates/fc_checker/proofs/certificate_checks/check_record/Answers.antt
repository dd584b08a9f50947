use Rattle.std.proofs.Common.{ℕ, List, subst}
use Rattle.fc_position.specs.Position.{IsWon}
use Rattle.fc_home.proofs.RuleLemmas.{refuted}
use Rattle.fc_checker.proofs.ClosedLemmas.{records_more, row_begins, row_position}
use Rattle.fc_checker.proofs.certificate_checks.check_record.Goals as goal

pub returns-then-is_won-clause-fault : goal.returns-then-is_won-clause-fault
returns-then-is_won-clause-fault g c =
    let content = c.args.certificate.now in
    let row : List ℕ × ℕ = (c.record_at-cost.result.0.now, c.record_at-cost.result.1) in
    let there = c.record_at-cost.ensures.value in
    let same = row_position content c.args.i row c.position_of-position.result c.requires.content there c.position_of-position.ensures.value in
    let won = subst IsWon same (c.is_won.ensures.value.0 c.if-is_won.true) in
    (λ e. cc, λ b bytes start. (content, start, c.requires.before, (row, there, won)))

pub returns-then-record_steps_hold-clause-records : goal.returns-then-record_steps_hold-clause-records
returns-then-record_steps_hold-clause-records g c =
    let content = c.args.certificate.now in
    let row : List ℕ × ℕ = (c.record_at-cost.result.0.now, c.record_at-cost.result.1) in
    let there = c.record_at-cost.ensures.value in
    let same = row_position content c.args.i row c.position_of-position.result c.requires.content there c.position_of-position.ensures.value in
    let wrong = refuted c.is_won.result c.is_won.ensures.value c.if-is_won.false in
    records_more (g.G.Game.game c.args.game.now) content c.args.i row c.requires.before there
    (record {
      not_won = subst (λ x. IsWon x → ⊥) same wrong;
      steps = (c.record_steps_hold.ensures.value same).0 c.if-record_steps_hold.true;
    })

pub returns-else-record_steps_hold-clause-fault : goal.returns-else-record_steps_hold-clause-fault
returns-else-record_steps_hold-clause-fault g c =
    let content = c.args.certificate.now in
    let row : List ℕ × ℕ = (c.record_at-cost.result.0.now, c.record_at-cost.result.1) in
    let there = c.record_at-cost.ensures.value in
    let same = row_position content c.args.i row c.position_of-position.result c.requires.content there c.position_of-position.ensures.value in
    let wrong = refuted c.is_won.result c.is_won.ensures.value c.if-is_won.false in
    let stuck = refuted c.record_steps_hold.result (c.record_steps_hold.ensures.value same) c.if-record_steps_hold.false in
    (λ e. cc, λ b bytes start. (content, start, c.requires.before, (row, there, subst (λ x. IsWon x → ⊥) same wrong, stuck)))

pub record_steps_hold-requires-clause-key : goal.record_steps_hold-requires-clause-key
record_steps_hold-requires-clause-key g c =
    let content = c.args.certificate.now in
    let row : List ℕ × ℕ = (c.record_at-cost.result.0.now, c.record_at-cost.result.1) in
    let there = c.record_at-cost.ensures.value in
    let same = row_position content c.args.i row c.position_of-position.result c.requires.content there c.position_of-position.ensures.value in
    row_begins content c.args.i row c.position_of-position.result c.requires.content there same
