use Rattle.std.proofs.Common.{get_or, drop, sym, ◌∙◌, ap}
use Rattle.std.proofs.lemmas.List.{drop_more, take_rest}
use Rattle.fc_typed.specs.Title.{has_word}
use Rattle.fc_typed.proofs.TitleLemmas.{word_found, word_skips}
use Rattle.fc_typed.proofs.titles.has_word.Goals as goal

pub returns-then-begins_word : goal.returns-then-begins_word
returns-then-begins_word c =
    let rest = c.loop-rest.rest.now in
    word_found rest (drop 1 rest) (get_or rest 0 0) _ (drop_more rest 0 0 c.in-len1-up.len_at_least)
    (sym c.begins_word.ensures ∙ c.if-begins_word.true) c.loop-rest.invariant

pub loop-rest-preserved : goal.loop-rest-preserved
loop-rest-preserved c =
    let rest = c.loop-rest.rest.now in
    ap has_word (take_rest rest 1)
    ∙ word_skips rest (drop 1 rest) (get_or rest 0 0) _ (drop_more rest 0 0 c.in-len1-up.len_at_least)
    (sym c.begins_word.ensures ∙ c.if-begins_word.false) c.loop-rest.invariant
