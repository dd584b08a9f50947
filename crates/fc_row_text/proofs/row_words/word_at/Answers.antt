use Rattle.std.proofs.Common.{[], get_or, ◌∙◌, ap}
use Rattle.fc_row_text.specs.RowText.{words_of}
use Rattle.fc_row_text.proofs.WordLemmas.{word_first, word_next, word_none}
use Rattle.fc_row_text.proofs.row_words.word_at.Goals as goal

pub loop-word-init : goal.loop-word-init
loop-word-init c =
    ap (λ t. get_or (words_of t) c.args.k [])
    (ap (λ i. i.rest.now) c.into_iter-word-iterator.ensures.into_iter_gives ∙ c.new-word-items.ensures.rest)

pub returns-then-left-eq0 : goal.returns-then-left-eq0
returns-then-left-eq0 c =
    word_first _ _ c.in-Some.word.now _ c.loop-word.left c.in-Some.ensures.steps c.if-left-eq0.true c.loop-word.invariant

pub loop-word-preserved : goal.loop-word-preserved
loop-word-preserved c =
    word_next _ _ c.in-Some.word.now _ c.loop-word.left c.in-Some.ensures.steps c.if-left-eq0.false c.loop-word.invariant

pub returns : goal.returns
returns c = word_none _ _ c.loop-word.left c.in-None.ensures.steps.0 c.loop-word.invariant
