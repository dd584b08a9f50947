use Rattle.std.proofs.Common.{sym, subst}
use Rattle.fc_text.specs.Spelling.{SpellsHome}
use Rattle.fc_text.proofs.SpotLemmas.{home_bad, home_noted}
use Rattle.fc_text.proofs.spots.is_bad_home.Goals as goal

pub returns-clause-bad : goal.returns-clause-bad
returns-clause-bad c before marks =
    let spelled = subst (λ s. SpellsHome c.args.token.now s c.in-Some.field-0-1) (sym c.index-index.ensures.value) c.in-Some.ensures.read in
    home_bad before c.args.named.now c.args.token.now c.index-index.result c.in-Some.field-0-1 c.index-index.ensures.below spelled marks

pub returns-clause-noted : goal.returns-clause-noted
returns-clause-noted c before marks _ =
    let spelled = subst (λ s. SpellsHome c.args.token.now s c.in-Some.field-0-1) (sym c.index-index.ensures.value) c.in-Some.ensures.read in
    home_noted before c.args.named.now c.args.token.now c.index-index.result c.in-Some.field-0-1 c.index-index.ensures.below spelled c.told-named marks
