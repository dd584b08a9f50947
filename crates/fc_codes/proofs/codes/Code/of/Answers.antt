use Rattle.std.proofs.Common.{sym, ◌∙◌, ap, subst}
use Rattle.fc_codes.specs.Words.{numbers_of, words_of_halves}
use Rattle.fc_codes.specs.inner.Words.{AreHalves}
use Rattle.fc_codes.specs.inner.Packing.{joined_back, words_halved}
use Rattle.fc_codes.proofs.WordLemmas.{five_are}
use Rattle.fc_codes.proofs.codes.Code.of.Goals as goal

pub invariant_of-result : goal.invariant_of-result
invariant_of-result c =
    let same = five_are c.args.words c.lower.result c.upper.result c.lower-2.result c.upper-2.result c.lower-3.result
    c.lower.ensures.value c.upper.ensures.value c.lower-2.ensures.value c.upper-2.ensures.value c.lower-3.ensures.value in
    subst AreHalves (sym same) (words_halved c.args.words c.requires.words)

pub returns : goal.returns
returns c =
    let same = five_are c.args.words c.lower.result c.upper.result c.lower-2.result c.upper-2.result c.lower-3.result
    c.lower.ensures.value c.upper.ensures.value c.lower-2.ensures.value c.upper-2.ensures.value c.lower-3.ensures.value in
    record { value = ap (λ l. numbers_of (words_of_halves l)) same ∙ ap numbers_of (joined_back c.args.words c.requires.words) }
