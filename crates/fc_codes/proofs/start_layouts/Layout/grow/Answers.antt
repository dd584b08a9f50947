use Rattle.std.proofs.Common.{subst, arith}
use Rattle.fc_position.specs.Position.{IsPosition}
use Rattle.fc_codes.proofs.BitLemmas.{card_told}
use Rattle.fc_codes.proofs.StackLemmas.{grows_first, grows_more, grown_out, grown_full}
use Rattle.fc_codes.proofs.start_layouts.Layout.grow.Goals as goal

pub loop-next-init : goal.loop-next-init
loop-next-init c =
    let (b, p, k) = c.requires.code in
    grows_first c.args.self.now b c.args.code.now (subst IsPosition c.self.view_is c.self.invariant.whole) p k c.args.above.now c.requires.over
    c.args.i c.args.last c.index.result c.args.columns.now c.requires.eight
    (let at = c.index.ensures in omega (arith, at.value, at.below)) c.index.ensures.value c.requires.bare

pub returns-in_default : goal.returns-in_default
returns-in_default c = record {
  value = grown_out c.args.self.now c.args.code.now c.args.i c.args.last c.loop-next.next c.from_index.result c.args.columns.now
      c.loop-next.columns (card_told c.from_index.result c.loop-next.next c.from_index.ensures.valid c.from_index.ensures.value)
      c.in_default.is c.loop-next.invariant;
}

pub loop-next-smaller : goal.loop-next-smaller
loop-next-smaller c =
    let (b, p, k) = c.requires.code in
    (grows_more c.args.self.now b c.args.code.now (subst IsPosition c.self.view_is c.self.invariant.whole) p k c.args.above.now
    c.requires.over c.args.i c.args.last c.in-Some.card c.index-in-loop-next.result c.loop-next.next c.from_index.result c.args.columns.now
    c.loop-next.columns c.push.new.self c.requires.there (omega (arith, c.loop-next-test.true, c.count.ensures.value))
    (card_told c.from_index.result c.loop-next.next c.from_index.ensures.valid c.from_index.ensures.value) c.in-Some.is
    c.index-in-loop-next.ensures.value c.push.ensures.value c.loop-next.invariant).1

pub loop-next-preserved : goal.loop-next-preserved
loop-next-preserved c =
    let (b, p, k) = c.requires.code in
    (grows_more c.args.self.now b c.args.code.now (subst IsPosition c.self.view_is c.self.invariant.whole) p k c.args.above.now
    c.requires.over c.args.i c.args.last c.in-Some.card c.index-in-loop-next.result c.loop-next.next c.from_index.result c.args.columns.now
    c.loop-next.columns c.push.new.self c.requires.there (omega (arith, c.loop-next-test.true, c.count.ensures.value))
    (card_told c.from_index.result c.loop-next.next c.from_index.ensures.valid c.from_index.ensures.value) c.in-Some.is
    c.index-in-loop-next.ensures.value c.push.ensures.value c.loop-next.invariant).0

pub returns : goal.returns
returns c = record {
  value = grown_full c.args.self.now c.args.code.now c.args.i c.args.last c.loop-next.next c.args.columns.now c.loop-next.columns
      (omega (arith, c.loop-next-test.false, c.count.ensures.value)) c.loop-next.invariant;
}
