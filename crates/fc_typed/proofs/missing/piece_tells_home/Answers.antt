use Rattle.std.proofs.Common.{refl}
use Rattle.fc_text.specs.Line.{tokens_of}
use Rattle.fc_typed.specs.Guess.{TokenTellsHome}
use Rattle.fc_typed.proofs.AnyLemmas.{any_contained, any_here, any_next, any_none, contained_any}
use Rattle.fc_typed.proofs.missing.piece_tells_home.Goals as goal

pub returns-then-token_tells_home : goal.returns-then-token_tells_home
returns-then-token_tells_home c = (
  λ t. any_contained (TokenTellsHome c.args.card) (tokens_of c.args.piece.now)
      (any_here (TokenTellsHome c.args.card) _ _ _ c.in-Some.token.now c.in-Some.ensures.steps (c.token_tells_home.ensures.0 c.if-token_tells_home.true) c.loop-token.invariant),
  λ any. refl,
)

pub loop-token-preserved : goal.loop-token-preserved
loop-token-preserved c =
    any_next (TokenTellsHome c.args.card) _ _ _ c.in-Some.token.now c.in-Some.ensures.steps
    (λ tells. cc (c.token_tells_home.ensures.1 tells, c.if-token_tells_home.false)) c.loop-token.invariant

pub returns : goal.returns
returns c = (
  λ t. absurd (cc t),
  λ (token, found, tells). absurd (any_none (TokenTellsHome c.args.card) _ _ c.in-None.ensures.steps.0 c.loop-token.invariant
      (contained_any (TokenTellsHome c.args.card) (tokens_of c.args.piece.now) token found tells)),
)
