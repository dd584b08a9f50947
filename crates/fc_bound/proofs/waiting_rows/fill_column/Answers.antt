use Rattle.std.proofs.Common.{◌∙◌, cond, length, refl, take, ap}
use Rattle.std.proofs.lemmas.Nat.Bits.{bit_at-zero}
use Rattle.fc_bound.specs.Bound.{is_above_lower, stands_in}
use Rattle.fc_bound.specs.inner.Rows.{is_set, stands_above}
use Rattle.fc_bound.proofs.OverLemmas.{above_moved, first_still, held_moved, none_moved, none_set, rows_moved, still_last}
use Rattle.fc_bound.proofs.AboveLemmas.{above-one}
use Rattle.fc_bound.proofs.FillLemmas.{stands_take}
use Rattle.fc_bound.proofs.LeftLemmas.{last_stands}
use Rattle.fc_bound.proofs.waiting_rows.fill_column.Goals as goal

pub returns-clause-rows : goal.returns-clause-rows
returns-clause-rows c =
    let front = c.unmoved-front.ensures in
    rows_moved c.args.moved c.unmoved-front.result c.args.cards.now c.fill_above.new.rows c.args.rows.now front.most front.last c.requires.above
    c.requires.others c.fill_above.ensures.rows c.fill_above.ensures.others

pub returns-clause-all : goal.returns-clause-all
returns-clause-all c = λ x.
    let front = c.unmoved-front.ensures in
    c.fill_above.ensures.all x
    ∙ ap (λ t. cond t 1 0) (above_moved c.args.moved c.unmoved-front.result c.args.cards.now front.most front.last front.moved c.requires.above x)

pub returns-clause-held : goal.returns-clause-held
returns-clause-held c = λ x.
    let front = c.unmoved-front.ensures in
    let cards = c.args.cards.now in
    c.fill_above.ensures.held x ∙ ap (λ t. cond t 1 0)
    (held_moved cards x (stands_above c.unmoved-front.result cards x) (is_set c.args.moved x)
    (above_moved c.args.moved c.unmoved-front.result cards front.most front.last front.moved c.requires.above x))

pub fill_above-requires-clause-row : goal.fill_above-requires-clause-row
fill_above-requires-clause-row c = λ u last.
    let front = c.unmoved-front.ensures in
    let cards = c.args.cards.now in
    c.requires.others c.unmoved-front.result u last
    (first_still c.args.moved c.unmoved-front.result cards front.most front.last c.requires.above u (last_stands (take c.unmoved-front.result cards) u last))

pub returns-then-last-moved-eq0-clause-rows : goal.returns-then-last-moved-eq0-clause-rows
returns-then-last-moved-eq0-clause-rows c = λ h u last.
    let cards = c.args.cards.now in
    c.requires.others h u last
    (none_moved c.args.moved (length cards) cards refl (still_last c.args.moved c.last_bit-last.result c.args.cards.now c.last_bit-last.ensures.value c.if-last-moved-eq0.true) c.requires.above u
    (stands_take h cards u (last_stands (take h cards) u last)))

pub returns-then-last-moved-eq0-clause-all : goal.returns-then-last-moved-eq0-clause-all
returns-then-last-moved-eq0-clause-all c = λ x.
    let cards = c.args.cards.now in
    bit_at-zero x ∙ none_set c.args.moved x (stands_in cards x)
    (none_moved c.args.moved (length cards) cards refl (still_last c.args.moved c.last_bit-last.result c.args.cards.now c.last_bit-last.ensures.value c.if-last-moved-eq0.true) c.requires.above x)

pub returns-then-last-moved-eq0-clause-held : goal.returns-then-last-moved-eq0-clause-held
returns-then-last-moved-eq0-clause-held c = λ x.
    let cards = c.args.cards.now in
    bit_at-zero x ∙ none_set c.args.moved x (is_above_lower x cards) (λ above.
    none_moved c.args.moved (length cards) cards refl (still_last c.args.moved c.last_bit-last.result c.args.cards.now c.last_bit-last.ensures.value c.if-last-moved-eq0.true) c.requires.above x
    (above-one x cards above).stands)
