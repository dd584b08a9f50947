use Rattle.std.proofs.Common.{◌≡◌, ◌<◌, ◌≤◌, ◌+◌, ◌*◌, ◌%◌, ◌^◌, [], ◌∷◌, ◌++◌, bit_or, cond, take, sym, ◌∙◌, ap, subst, true≢false, arith}
use Rattle.std.specs.Prelude.{◌&&◌, ◌||◌, ◌==◌}
use Rattle.std.proofs.lemmas.Bool.{eq-eqb}
use Rattle.std.proofs.lemmas.List.{length-set, get_or-set_other}
use Rattle.fc_position.specs.Board.{last_of, count_in_column}
use Rattle.fc_bound.specs.Bound.{is_above_lower}
use Rattle.fc_bound.specs.declared.waiting_rows.Row.{Row}
use Rattle.fc_bound.specs.Knots.{ends_with}
use Rattle.fc_bound.specs.Rows.{AreBits, AreWaiting, no_row}
use Rattle.fc_bound.specs.inner.Rows.{stands_above}
use Rattle.fc_bound.proofs.AboveLemmas.{next_seen, next_once}
use Rattle.fc_bound.proofs.BitLemmas.{bits_or, one_bit_is}
use Rattle.fc_bound.proofs.FillLemmas.{not_yet, not_above, above_stands, above_next, end_one, waiting_more, row_next, each_above, each_over}
use Rattle.fc_bound.proofs.waiting_rows.fill_above.Goals as goal

pub loop-h-preserved : goal.loop-h-preserved
loop-h-preserved c =
    let n = c.index-index.result in
    let h = c.loop-h.h in
    let front = c.args.front in
    let rows = c.loop-h.rows in
    let cards = c.args.cards.now in
    let kept = c.loop-h.invariant in
    let seen = take h cards in
    let is : n ≡ c.index-cards-h.result = c.index-index.ensures.value in
    let next : take (h + 1) cards ≡ seen ++ n ∷ [] = next_seen cards h c.index-cards-h.result c.loop-h-test.true c.index-cards-h.is ∙ ap (λ x. seen ++ x ∷ []) (sym is) in
    let once = subst (λ k. count_in_column k (seen ++ k ∷ []) ≤ 1) (sym is) (next_once cards h c.index-cards-h.result c.loop-h-test.true c.index-cards-h.is c.requires.once) in
    let new = not_yet seen n once in
    let below : n < 64 = omega (arith, c.index-index.ensures.below) in
    let waiting = waiting_more c.loop-h.waiting c.higher_cards-waiting.result n seen kept.waiting c.higher_cards-waiting.ensures.value in
    let row : Row = record { waiting = bit_or c.loop-h.waiting c.higher_cards-waiting.result; beneath = c.loop-h.last } in
    let stands = above_stands front h n cards kept.from next new in
    record {
      from = omega (arith, kept.from);
      end_is = kept.end_is;
      long = length-set rows n row ∙ kept.long;
      each = each_above rows row cards front h n kept.long c.index-index.ensures.below next new (row_next row n seen waiting kept.end) kept.each;
      others = λ d none.
          let off = not_above (stands_above front seen d) (n == d) (sym (stands d) ∙ none) in
          get_or-set_other rows n d row no_row (λ e. true≢false (sym (eq-eqb n d (sym e)) ∙ off.1)) ∙ kept.others d off.0;
      waiting = subst (AreWaiting (bit_or c.loop-h.waiting c.higher_cards-waiting.result)) (sym next) waiting;
      stand = bits_or c.loop-h.all (1 * 2 ^ n % 2 ^ 64) (stands_above front seen) (λ d. n == d) (stands_above front (take (h + 1) cards)) kept.stand
          (λ d. one_bit_is n d below) stands;
      end = subst (λ s. AreBits (1 * 2 ^ n % 2 ^ 64) (λ d. ends_with d (last_of s))) (sym next) (end_one n seen below);
      above = λ d. above_next c.loop-h.held c.loop-h.waiting n seen (stands_above front seen) c.index-index.ensures.below new kept.above kept.waiting d
          ∙ ap (λ s. cond (is_above_lower d s && (stands_above front seen d || (n == d))) 1 0) (sym next)
          ∙ ap (λ t. cond (is_above_lower d (take (h + 1) cards) && t) 1 0) (sym (stands d));
    }

pub returns-clause-rows : goal.returns-clause-rows
returns-clause-rows c =
    each_over c.loop-h.rows c.args.rows.now c.args.cards.now c.args.front c.loop-h.h (omega (arith, c.loop-h-test.false)) c.loop-h.invariant.from
    c.loop-h.invariant.each c.requires.row c.loop-h.invariant.others
