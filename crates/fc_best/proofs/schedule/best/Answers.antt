use Rattle.std.proofs.Common.{◌∙◌}
use Rattle.fc_best.proofs.HearLemmas.{end_told, hears_end, hears_more, some_more, some_told}
use Rattle.fc_best.proofs.schedule.best.Goals as goal

pub returns-clause-best : goal.returns-clause-best
returns-clause-best g c =
    c.into_answer.ensures.best c.args.question.now c.args.position.now c.in_ok-standing-3.ensures.stands

pub returns-in_err-standing-clause-heard : goal.returns-in_err-standing-clause-heard
returns-in_err-standing-clause-heard g c =
    some_told c.args.question.now c.args.position.now g.L.Listener.hears c.new-standing.result c.args.listener.now c.after_stages.new.listener
    c.in_err-standing.ensures.cut

pub returns-in_err-standing-2-clause-heard : goal.returns-in_err-standing-2-clause-heard
returns-in_err-standing-2-clause-heard g c =
    let q = c.args.question.now in
    let b = c.args.position.now in
    let hears = g.L.Listener.hears in
    let some = some_more q b hears c.new-standing.result c.in_ok-standing.standing c.args.listener.now c.after_stages.new.listener
    c.shortened.new.listener c.in_ok-standing.ensures.heard c.in_err-standing-2.ensures.cut in
    some_told q b hears c.new-standing.result c.args.listener.now c.shortened.new.listener some

pub returns-in_err-standing-3-clause-heard : goal.returns-in_err-standing-3-clause-heard
returns-in_err-standing-3-clause-heard g c =
    let q = c.args.question.now in
    let b = c.args.position.now in
    let hears = g.L.Listener.hears in
    let first = c.new-standing.result in
    let two = hears_more q b hears first c.in_ok-standing.standing c.in_ok-standing-2.standing c.args.listener.now
    c.after_stages.new.listener c.shortened.new.listener c.in_ok-standing.ensures.heard c.in_ok-standing-2.ensures.heard in
    let some = some_more q b hears first c.in_ok-standing-2.standing c.args.listener.now c.shortened.new.listener c.last.new.listener two
    c.in_err-standing-3.ensures.cut in
    some_told q b hears first c.args.listener.now c.last.new.listener some

pub returns-clause-ended : goal.returns-clause-ended
returns-clause-ended g c =
    let q = c.args.question.now in
    let b = c.args.position.now in
    let hears = g.L.Listener.hears in
    let first = c.new-standing.result in
    let last = c.in_ok-standing-3.standing in
    let two = hears_more q b hears first c.in_ok-standing.standing c.in_ok-standing-2.standing c.args.listener.now
    c.after_stages.new.listener c.shortened.new.listener c.in_ok-standing.ensures.heard c.in_ok-standing-2.ensures.heard in
    let all = hears_more q b hears first c.in_ok-standing-2.standing last c.args.listener.now
    c.shortened.new.listener c.last.new.listener two c.in_ok-standing-3.ensures.heard in
    hears_end q b hears first last c.args.listener.now c.last.new.listener c.hear.new.self c.into_answer.result.verdict all c.hear.ensures.heard
    c.new-standing.ensures.none c.in_ok-standing-3.ensures.stands (c.into_answer.ensures.told q b c.in_ok-standing-3.ensures.stands)
    (c.into_answer.ensures.listed q b c.in_ok-standing-3.ensures.stands)

pub returns-clause-heard : goal.returns-clause-heard
returns-clause-heard g c =
    end_told c.args.question.now c.args.position.now g.L.Listener.hears c.args.listener.now c.hear.new.self c.into_answer.result.verdict
    (returns-clause-ended g c)

pub returns-clause-bare : goal.returns-clause-bare
returns-clause-bare g c none =
    c.into_answer.ensures.bare c.args.question.now c.args.position.now c.in_ok-standing-3.ensures.stands
    (c.in_ok-standing-3.ensures.has_table ∙ c.in_ok-standing-2.ensures.has_table ∙ c.in_ok-standing.ensures.has_table
    ∙ c.new-standing.ensures.has_table ∙ none)
