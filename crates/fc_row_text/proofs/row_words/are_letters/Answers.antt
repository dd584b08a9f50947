use Rattle.std.proofs.Common.{sym, ◌∙◌, ap}
use Rattle.std.proofs.lemmas.List.{take_rest}
use Rattle.fc_row_text.specs.RowText.{are_letters, words_of}
use Rattle.fc_row_text.proofs.WordLemmas.{letter_next, letter_none, letter_other, letters_all}
use Rattle.fc_row_text.proofs.row_words.are_letters.Goals as goal

pub loop-word-init : goal.loop-word-init
loop-word-init c =
    ap (λ t. are_letters (words_of t) c.args.letters.now)
    (ap (λ i. i.rest.now) c.into_iter-word-iterator.ensures.into_iter_gives ∙ c.new-word-items.ensures.rest)

pub loop-word-preserved : goal.loop-word-preserved
loop-word-preserved c =
    ap (are_letters (words_of c.next.new.self.rest.now)) (take_rest c.loop-word.left.now 1)
    ∙ letter_next _ _ c.in-Some.word.now c.loop-word.left.now _ c.in-Some.ensures.steps c.in-len1-up.len_at_least
    (sym c.is_letter_alone.ensures ∙ c.if-is_letter_alone.true) c.loop-word.invariant

pub returns-in_default : goal.returns-in_default
returns-in_default c =
    letter_none _ _ c.in-Some.word.now c.loop-word.left.now _ c.in-Some.ensures.steps c.in_default.len_below c.loop-word.invariant

pub returns-in_default-2 : goal.returns-in_default-2
returns-in_default-2 c =
    letter_other _ _ c.in-Some.word.now c.loop-word.left.now _ c.in-Some.ensures.steps c.in-len1-up.len_at_least
    (sym c.is_letter_alone.ensures ∙ c.if-is_letter_alone.false) c.loop-word.invariant

pub returns : goal.returns
returns c =
    c.is_empty.ensures ∙ letters_all _ c.loop-word.left.now _ c.in-None.ensures.steps.0 c.loop-word.invariant
