use Rattle.fc_typed.specs.Title.{has_word}
use Rattle.fc_typed.proofs.TitleLemmas.{any_ended, any_found, any_skips}
use Rattle.std.proofs.Common.{sym, ◌∙◌}
use Rattle.fc_typed.proofs.titles.has_worded_token.Goals as goal

pub returns-then-has_word : goal.returns-then-has_word
returns-then-has_word c =
    any_found has_word _ _ c.in-Some.token.now _ c.in-Some.ensures.steps (sym c.has_word.ensures ∙ c.if-has_word.true) c.loop-token.invariant

pub loop-token-preserved : goal.loop-token-preserved
loop-token-preserved c =
    any_skips has_word _ _ c.in-Some.token.now _ c.in-Some.ensures.steps (sym c.has_word.ensures ∙ c.if-has_word.false) c.loop-token.invariant

pub returns : goal.returns
returns c = any_ended has_word _ _ c.in-None.ensures.steps.0 c.loop-token.invariant
