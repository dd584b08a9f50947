use Rattle.std.proofs.Common.{◌∙◌, refl}
use Rattle.fc_best.proofs.HearLemmas.{hears_more, hears_none, if_err, some_more}
use Rattle.fc_best.proofs.schedule.after_stages.Goals as goal

pub loop-stage-init : goal.loop-stage-init
loop-stage-init g c = (c.requires.stands, c.requires.left, refl, hears_none c.args.question.now c.args.position.now g.L.Listener.hears c.args.standing c.args.listener.now c.args.listener.now refl)

pub returns-in_err-after-clause-cut : goal.returns-in_err-after-clause-cut
returns-in_err-after-clause-cut g c =
    if_err c.from_residual.result _
    (some_more c.args.question.now c.args.position.now g.L.Listener.hears c.args.standing c.loop-stage.after c.args.listener.now c.loop-stage.listener
    c.after_stage.new.listener c.loop-stage.invariant.3 c.in_err-after.ensures.cut)

pub loop-stage-preserved : goal.loop-stage-preserved
loop-stage-preserved g c = (
  c.in_ok-after.ensures.stands,
  c.in_ok-after.ensures.left,
  c.in_ok-after.ensures.has_table ∙ c.loop-stage.invariant.2,
  hears_more c.args.question.now c.args.position.now g.L.Listener.hears c.args.standing c.loop-stage.after c.in_ok-after.after c.args.listener.now c.loop-stage.listener
      c.after_stage.new.listener c.loop-stage.invariant.3 c.in_ok-after.ensures.heard,
)
