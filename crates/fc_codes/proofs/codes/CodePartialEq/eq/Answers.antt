use Rattle.std.proofs.Common.{◌∙◌, ap}
use Rattle.std.specs.Prelude.{nat_eq}
use Rattle.std.specs.Cmp.Lexicographic.{pointwise}
use Rattle.fc_codes.specs.Words.{numbers_of}
use Rattle.fc_codes.proofs.WordLemmas.{compared}
use Rattle.fc_codes.proofs.codes.CodePartialEq.eq.Goals as goal

pub returns : goal.returns
returns c =
    c.eq.ensures ∙ compared c.words.result c.words-2.result c.words.ensures.words c.words-2.ensures.words
    ∙ ap (λ l. pointwise nat_eq l (numbers_of c.words-2.result)) c.words.ensures.value
    ∙ ap (pointwise nat_eq c.args.self.now) c.words-2.ensures.value
