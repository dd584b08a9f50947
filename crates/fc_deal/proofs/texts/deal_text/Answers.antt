use Rattle.std.proofs.Common.{length, ap, arith}
use Rattle.fc_deal.proofs.TextLemmas.{room_for_line}
use Rattle.fc_deal.proofs.texts.deal_text.Goals as goal

pub push_line-requires : goal.push_line-requires
push_line-requires c =
    let room = room_for_line c.args.position.now c.loop-i.i c.column.ensures.whole (omega (arith, c.column.ensures.whole.columns)) in
    omega (arith, ap length c.loop-i.invariant.written, ap length c.column.ensures.value)
