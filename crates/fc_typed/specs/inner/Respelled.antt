-- Tokens and how the reader spells them, within the crate.
use Rattle.std.specs.Prelude.{ℕ, List}
use Rattle.fc_typed.specs.Respelled.{respelled_card, respelled_home}
use Rattle.fc_typed.specs.declared.token_spellings.Telling.{Telling}
use Rattle.fc_typed.specs.declared.token_spellings.Telling.TheVariants.{Cards, Homes}

-- how a token is respelled, by what it tells
abbrev pub respelled_token : Telling → List ℕ → List ℕ
respelled_token Cards token = respelled_card token
respelled_token Homes token = respelled_home token
