use Rattle.std.proofs.Common.{◌/◌, length, set, sym, ◌∙◌, ap, subst, arith}
use Rattle.fc_codes.specs.Words.{numbers_of}
use Rattle.fc_codes.specs.inner.Words.{AreWords}
use Rattle.fc_codes.specs.inner.Packing.{length-unpacked}
use Rattle.fc_codes.proofs.WordLemmas.{set_state_words, unpacked-set_state}
use Rattle.fc_codes.proofs.codes.Code.with_state.Goals as goal

pub of-requires : goal.of-requires
of-requires c = record {
  words = subst (λ w. AreWords (set c.words-words.result (c.index-index.result / 21) w)) (sym c.with_digit.ensures.value)
      (set_state_words c.words-words.result c.index-index.result c.args.state c.words-words.ensures.words c.index-index.ensures.below
      c.requires.below);
}

pub returns : goal.returns
returns c = record {
  value = c.of.ensures.value
      ∙ ap (λ w. numbers_of (set c.words-words.result (c.index-index.result / 21) w)) c.with_digit.ensures.value
      ∙ unpacked-set_state c.words-words.result c.index-index.result c.args.state c.words-words.ensures.words.three
      c.index-index.ensures.below c.requires.below
      ∙ ap (λ l. set l c.index-index.result c.args.state) c.words-words.ensures.value
      ∙ ap (λ n. set c.args.self.now n c.args.state) c.index-index.ensures.value;
  count = ap length (sym c.words-words.ensures.value) ∙ length-unpacked c.words-words.result;
  card = omega (arith, c.index-index.ensures.value, c.index-index.ensures.below);
}
