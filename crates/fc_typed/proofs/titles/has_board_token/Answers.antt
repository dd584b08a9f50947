use Rattle.fc_typed.specs.Title.{is_board_token}
use Rattle.fc_typed.proofs.TitleLemmas.{any_ended, any_found, any_skips}
use Rattle.std.proofs.Common.{sym, ◌∙◌}
use Rattle.fc_typed.proofs.titles.has_board_token.Goals as goal

pub returns-then-is_board_token : goal.returns-then-is_board_token
returns-then-is_board_token c =
    any_found is_board_token _ _ c.in-Some.token.now _ c.in-Some.ensures.steps (sym c.is_board_token.ensures ∙ c.if-is_board_token.true) c.loop-token.invariant

pub loop-token-preserved : goal.loop-token-preserved
loop-token-preserved c =
    any_skips is_board_token _ _ c.in-Some.token.now _ c.in-Some.ensures.steps (sym c.is_board_token.ensures ∙ c.if-is_board_token.false) c.loop-token.invariant

pub returns : goal.returns
returns c = any_ended is_board_token _ _ c.in-None.ensures.steps.0 c.loop-token.invariant
