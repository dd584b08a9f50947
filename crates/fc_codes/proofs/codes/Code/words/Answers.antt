use Rattle.std.proofs.Common.{◌≡◌, ◌+◌, ◌*◌, ◌^◌, [], ◌∷◌, get_or, sym, ◌∙◌, ap, subst}
use Rattle.fc_codes.specs.Words.{numbers_of, words_of_halves}
use Rattle.fc_codes.specs.inner.Words.{AreWords}
use Rattle.fc_codes.proofs.codes.Code.words.Goals as goal

pub returns : goal.returns
returns c =
    let halves = c.self.inside.halves in
    let same : c.whole.result ∷ c.whole-2.result ∷ get_or halves 4 0 ∷ [] ≡ words_of_halves halves =
    ap (λ x. x ∷ c.whole-2.result ∷ get_or halves 4 0 ∷ []) c.whole.ensures.value
    ∙ ap (λ x. (get_or halves 0 0 + get_or halves 1 0 * 2 ^ 32) ∷ x ∷ get_or halves 4 0 ∷ []) c.whole-2.ensures.value in
    record { value = ap numbers_of same ∙ c.self.view_is; words = subst AreWords (sym same) c.self.invariant.words }
