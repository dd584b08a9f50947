use Rattle.std.proofs.Common.{◌∙◌, refl}
use Rattle.fc_best.proofs.HearLemmas.{hears_more, hears_none, if_err, some_more}
use Rattle.fc_best.proofs.schedule.after_stage.Goals as goal

pub loop-init : goal.loop-init
loop-init g c = (c.requires.stands, c.requires.left, refl, hears_none c.args.question.now c.args.position.now g.L.Listener.hears c.args.standing c.args.listener.now c.args.listener.now refl)

pub returns-in_err-after-clause-cut : goal.returns-in_err-after-clause-cut
returns-in_err-after-clause-cut g c =
    if_err c.from_residual.result _
    (some_more c.args.question.now c.args.position.now g.L.Listener.hears c.args.standing c.loop.after c.args.listener.now c.loop.listener
    c.weighed.new.listener c.loop.invariant.3 c.in_err-after.ensures.cut)

pub returns-then-eq-clause-has_table : goal.returns-then-eq-clause-has_table
returns-then-eq-clause-has_table g c = c.in_ok-after.ensures.has_table ∙ c.loop.invariant.2

pub returns-then-eq-clause-heard : goal.returns-then-eq-clause-heard
returns-then-eq-clause-heard g c =
    hears_more c.args.question.now c.args.position.now g.L.Listener.hears c.args.standing c.loop.after c.in_ok-after.after c.args.listener.now c.loop.listener
    c.weighed.new.listener c.loop.invariant.3 c.in_ok-after.ensures.heard

pub loop-preserved : goal.loop-preserved
loop-preserved g c = (
  c.in_ok-after.ensures.stands,
  c.in_ok-after.ensures.left,
  c.in_ok-after.ensures.has_table ∙ c.loop.invariant.2,
  hears_more c.args.question.now c.args.position.now g.L.Listener.hears c.args.standing c.loop.after c.in_ok-after.after c.args.listener.now c.loop.listener
      c.weighed.new.listener c.loop.invariant.3 c.in_ok-after.ensures.heard,
)
