use Rattle.std.proofs.Common.{◌+◌, sym, ◌∙◌, rules}
use Rattle.std.proofs.lemmas.List.{take_rest}
use Rattle.fc_typed.specs.inner.Respelled.{respelled_token}
use Rattle.fc_typed.proofs.SpellingLemmas.{token_pushed, last_token_pushed}
use Rattle.fc_typed.proofs.spellings.push_tokens.Goals as goal

pub loop-len-preserved : goal.loop-len-preserved
loop-len-preserved c =
    let rest = c.loop-len.rest.now in
    record {
      tidy =
          token_pushed (respelled_token c.args.telling) _ c.loop-len.tidy.items rest _ c.push_token.new.tidy.items _ c.in-Some.len c.loop-len.invariant.tidy
          (sym c.token_len.ensures ∙ c.in-Some.is) (take_rest rest (c.in-Some.len + 1)) c.push_token.ensures.pushed c.push.ensures.items;
      within = search rules;
    }

pub returns-clause-pushed : goal.returns-clause-pushed
returns-clause-pushed c =
    last_token_pushed (respelled_token c.args.telling) _ c.loop-len.tidy.items c.loop-len.rest.now _ c.loop-len.invariant.tidy
    (sym c.token_len.ensures ∙ c.in_default.is) c.push_token-2.ensures.pushed
