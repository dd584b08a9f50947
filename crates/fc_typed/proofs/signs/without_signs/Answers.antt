use Rattle.std.proofs.Common.{sym, ◌∙◌, rules}
use Rattle.std.proofs.lemmas.List.{take_rest}
use Rattle.fc_typed.proofs.TidyLemmas.{sign_pushed}
use Rattle.fc_typed.proofs.signs.without_signs.Goals as goal

pub loop-rest-preserved-in-Some : goal.loop-rest-preserved-in-Some
loop-rest-preserved-in-Some c =
    let rest = c.loop-rest.rest.now in
    record {
      tidy =
          sign_pushed _ c.loop-rest.tidy.items rest _ _ c.in-Some.letter c.in-Some.len c.loop-rest.invariant.tidy
          (sym c.sign_of.ensures.value ∙ c.in-Some.is) c.in-Some.ensures.some c.in-Some.ensures.within c.push.ensures.items (take_rest rest c.in-Some.len);
      within = search rules;
    }
