use Rattle.std.proofs.Common.{◌≡◌, ℕ, ◌%◌, [], length, get_or, map, sym, ◌∙◌, ap, arith}
use Rattle.std.proofs.lemmas.List.{length-map, length-set, get_or-map}
use Rattle.arrayvec.specs.ArrayVec.{ArrayVec}
use Rattle.fc_deal.specs.Deal.{dealt_columns}
use Rattle.fc_deal.proofs.DealLemmas.{deck_after-none, length-deck_after, dealt_columns-none, room_for_card, set_pushed, dealt_more, left_more}
use Rattle.fc_deal.proofs.deals.deal_columns.Goals as goal

pub loop-i-init : goal.loop-i-init
loop-i-init c = record {
  drawn = c.new-draws.ensures.start;
  left = c.new-deck.ensures.whole ∙ sym (deck_after-none c.args.n);
  dealt = c.empty_columns-columns.ensures.empty ∙ sym (dealt_columns-none c.args.n);
  eight = sym (length-map c.empty_columns-columns.result (λ v. v.items)) ∙ ap length c.empty_columns-columns.ensures.empty;
}

pub take-card-requires : goal.take-card-requires
take-card-requires c =
    omega (arith, ap length c.loop-i.invariant.left, length-deck_after c.args.n c.loop-i.i)

pub push-requires : goal.push-requires
push-requires c =
    let seen = get_or-map (λ (v : ArrayVec ℕ). v.items) c.loop-i.columns (c.loop-i.i % 8) c.index-columns-i.result [] (omega arith) in
    let same = ap (λ columns. length (get_or columns (c.loop-i.i % 8) [])) c.loop-i.invariant.dealt in
    let room = room_for_card c.args.n c.loop-i.i c.loop-i-test.true in
    (omega arith, omega (arith, sym same ∙ ap length seen))

pub loop-i-preserved : goal.loop-i-preserved
loop-i-preserved c =
    let drawn = c.next.ensures.in_order c.args.n c.loop-i.i c.loop-i.invariant.drawn in
    record {
      drawn = c.next.ensures.goes_on c.args.n c.loop-i.i c.loop-i.invariant.drawn;
      left = c.take-card.ensures.rest ∙ left_more c.args.n c.loop-i.i c.next.result c.loop-i.deck c.loop-i.invariant.left drawn;
      dealt =
          set_pushed c.loop-i.columns (c.loop-i.i % 8) c.take-card.result c.index-columns-i.result c.push.new.self (omega arith) c.push.ensures.items
          ∙ dealt_more c.args.n c.loop-i.i c.next.result c.take-card.result (map (λ (v : ArrayVec ℕ). v.items) c.loop-i.columns) c.loop-i.deck c.loop-i.invariant.dealt c.loop-i.invariant.left drawn c.take-card.ensures.card;
      eight = length-set c.loop-i.columns (c.loop-i.i % 8) c.push.new.self ∙ c.loop-i.invariant.eight;
    }

pub returns : goal.returns
returns c = record {
  dealt =
      let all : c.loop-i.i ≡ 52 = omega arith in c.loop-i.invariant.dealt ∙ ap (dealt_columns c.args.n) all;
}
