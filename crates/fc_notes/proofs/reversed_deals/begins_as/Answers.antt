use Rattle.std.proofs.Common.{Some, ◌∙◌, ap, sym, arith, ◌%◌, ◌<◌}
use Rattle.fc_position.specs.Board.{last_of}
use Rattle.fc_notes.proofs.ReversedLemmas.{first_drawn, last_dealt, second_is}
use Rattle.fc_notes.proofs.reversed_deals.begins_as.Goals as goal

pub returns-then-is_last : goal.returns-then-is_last
returns-then-is_last c = record {
  needed = λ deal.
      let n = c.args.number in
      let one = ap (λ m. m % 52) (c.next-first.ensures.in_order n 0 c.new-draws.ensures.start) in
      let two = ap (λ m. m % 51) (c.next-place.ensures.in_order n 1 (c.next-first.ensures.goes_on n 0 c.new-draws.ensures.start)) in
      let below : 1 < 8 = omega arith in
      c.is_last-then-is_last.ensures.value.1
      (ap last_of c.column-then-is_last.ensures.value ∙ last_dealt n 1 c.args.start.now below deal
      ∙ ap (λ u. Some u) (second_is n _ _ _ one two c.second_card.ensures.moved c.second_card.ensures.other));
}

pub returns-else-is_last : goal.returns-else-is_last
returns-else-is_last c = record {
  needed = λ deal.
      let n = c.args.number in
      let one = ap (λ m. m % 52) (c.next-first.ensures.in_order n 0 c.new-draws.ensures.start) in
      let below : 0 < 8 = omega arith in
      c.is_last.ensures.value.1
      (ap last_of c.column.ensures.value ∙ last_dealt n 0 c.args.start.now below deal
      ∙ ap (λ u. Some u) (first_drawn n ∙ sym one));
}
