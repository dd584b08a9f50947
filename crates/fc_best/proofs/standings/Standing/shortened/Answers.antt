use Rattle.std.proofs.Common.{◌∙◌, refl}
use Rattle.fc_best.proofs.HearLemmas.{hears_listed, hears_more, hears_none, hears_still, if_err, some_further, some_more}
use Rattle.fc_best.proofs.TailLemmas.{found_tail, tail_left}
use Rattle.fc_best.proofs.standings.Standing.shortened.Goals as goal

pub loop-i-init : goal.loop-i-init
loop-i-init g c = (
  c.requires.stands,
  c.requires.left,
  refl,
  hears_none c.args.question.now c.args.position.now g.L.Listener.hears c.args.self c.args.listener.now c.args.listener.now refl,
)

pub returns-in_err-tail-clause-cut : goal.returns-in_err-tail-clause-cut
returns-in_err-tail-clause-cut g c =
    let q = c.args.question.now in
    let b = c.args.position.now in
    let hears = g.L.Listener.hears in
    if_err c.from_residual.result _
    (some_more q b hears c.args.self c.loop-i.standing c.args.listener.now c.loop-i.listener c.shorter_tail.new.listener c.loop-i.invariant.3
    (some_further q b hears c.loop-i.standing c.loop-i.listener c.shorter_tail.new.listener c.loop-i.invariant.0 c.shorter_tail.ensures.heard))

pub returns-in_default-clause-heard : goal.returns-in_default-clause-heard
returns-in_default-clause-heard g c =
    let q = c.args.question.now in
    let b = c.args.position.now in
    let hears = g.L.Listener.hears in
    hears_more q b hears c.args.self c.loop-i.standing c.loop-i.standing c.args.listener.now c.loop-i.listener c.shorter_tail.new.listener
    c.loop-i.invariant.3
    (hears_still q b hears c.loop-i.standing c.loop-i.listener c.shorter_tail.new.listener c.loop-i.invariant.0 c.shorter_tail.ensures.heard)

pub returns-then-has_given_up-clause-stands : goal.returns-then-has_given_up-clause-stands
returns-then-has_given_up-clause-stands g c =
    let q = c.args.question.now in
    let b = c.args.position.now in
    let found = found_tail q b c.loop-i.standing c.in_ok-tail.field-0 c.in-Some.tail c.in-Some.is c.in_ok-tail.ensures.right in
    c.with_tail-standing.ensures.stands q b c.loop-i.invariant.0 found

pub returns-then-has_given_up-clause-heard : goal.returns-then-has_given_up-clause-heard
returns-then-has_given_up-clause-heard g c =
    let q = c.args.question.now in
    let b = c.args.position.now in
    let hears = g.L.Listener.hears in
    let found = found_tail q b c.loop-i.standing c.in_ok-tail.field-0 c.in-Some.tail c.in-Some.is c.in_ok-tail.ensures.right in
    hears_more q b hears c.args.self c.loop-i.standing c.with_tail-standing.result c.args.listener.now c.loop-i.listener
    c.tell.new.listener c.loop-i.invariant.3
    (hears_listed q b hears c.loop-i.standing c.with_tail-standing.result c.loop-i.listener c.shorter_tail.new.listener c.tell.new.listener
    c.loop-i.invariant.0 (c.with_tail-standing.ensures.stands q b c.loop-i.invariant.0 found) c.shorter_tail.ensures.heard
    (c.with_tail-standing.ensures.rises q b c.loop-i.invariant.0 found) c.with_tail-standing.ensures.same c.tell.ensures.told)

pub loop-i-preserved : goal.loop-i-preserved
loop-i-preserved g c =
    let q = c.args.question.now in
    let b = c.args.position.now in
    let hears = g.L.Listener.hears in
    let found = found_tail q b c.loop-i.standing c.in_ok-tail.field-0 c.in-Some.tail c.in-Some.is c.in_ok-tail.ensures.right in (
      c.with_tail-standing.ensures.stands q b c.loop-i.invariant.0 found,
      tail_left q b c.loop-i.standing c.with_tail-standing.result.left c.in-Some.tail found c.with_tail-standing.ensures.left,
      c.with_tail-standing.ensures.has_table ∙ c.loop-i.invariant.2,
      hears_more q b hears c.args.self c.loop-i.standing c.with_tail-standing.result c.args.listener.now c.loop-i.listener
          c.tell.new.listener c.loop-i.invariant.3
          (hears_listed q b hears c.loop-i.standing c.with_tail-standing.result c.loop-i.listener c.shorter_tail.new.listener c.tell.new.listener
          c.loop-i.invariant.0 (c.with_tail-standing.ensures.stands q b c.loop-i.invariant.0 found) c.shorter_tail.ensures.heard
          (c.with_tail-standing.ensures.rises q b c.loop-i.invariant.0 found) c.with_tail-standing.ensures.same c.tell.ensures.told),
    )
