use Rattle.std.proofs.Common.{◌/◌, ◌%◌, get_or, sym, ◌∙◌, ap}
use Rattle.fc_codes.specs.inner.Packing.{unpacked-at}
use Rattle.fc_codes.proofs.WordLemmas.{digit_masked}
use Rattle.fc_codes.proofs.codes.Code.state.Goals as goal

pub returns-clause-value : goal.returns-clause-value
returns-clause-value c =
    let k = c.index-index.result in
    digit_masked (get_or c.words.result (k / 21) 0) (k % 21)
    ∙ sym (unpacked-at c.words.result k c.index-index.ensures.below)
    ∙ ap (λ l. get_or l k 0) c.words.ensures.value ∙ ap (λ n. get_or c.args.self.now n 0) c.index-index.ensures.value
