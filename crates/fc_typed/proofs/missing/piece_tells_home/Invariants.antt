use Rattle.std.proofs.Common.{◌↔◌}
use Rattle.fc_text.specs.Line.{tokens_of}
use Rattle.fc_typed.specs.Guess.{TokenTellsHome}
use Rattle.fc_typed.proofs.AnyLemmas.{AnyOf}
use Rattle.fc_typed.proofs.missing.piece_tells_home.Given as goal

-- the tokens that are left decide
abbrev pub invariant-loop-token : goal.invariant-loop-token
invariant-loop-token l = AnyOf (TokenTellsHome l.card) (tokens_of l.token-iterator.rest.now) ↔ AnyOf (TokenTellsHome l.card) (tokens_of l.piece)
