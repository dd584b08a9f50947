use Rattle.std.proofs.Common.{length, ◌∙◌, ap, arith}
use Rattle.fc_text.proofs.PartLemmas.{length-tokens_between}
use Rattle.fc_row_text.specs.RowText.{words_of}
use Rattle.fc_row_text.specs.Places.{is_row_gap}
use Rattle.fc_row_text.proofs.row_words.word_count.Goals as goal

pub loop-init : goal.loop-init
loop-init c =
    let from = ap (λ t. length (words_of t)) (ap (λ i. i.rest.now) c.into_iter-iterator.ensures.into_iter_gives ∙ c.new-items.ensures.rest) in
    omega (arith, from)

pub overflow_add-count : goal.overflow_add-count
overflow_add-count c =
    let more = ap length c.in-Some.ensures.steps in
    let few = length-tokens_between is_row_gap c.args.text.now in
    omega (arith, more, few, c.loop.invariant)

pub loop-preserved : goal.loop-preserved
loop-preserved c =
    let more = ap length c.in-Some.ensures.steps in
    omega (arith, more, c.loop.invariant)

pub returns-clause-value : goal.returns-clause-value
returns-clause-value c =
    let none = ap length c.in-None.ensures.steps.0 in
    omega (arith, none, c.loop.invariant)

pub returns-clause-most : goal.returns-clause-most
returns-clause-most c =
    let few = length-tokens_between is_row_gap c.args.text.now in
    omega (arith, few, c.loop.invariant)
