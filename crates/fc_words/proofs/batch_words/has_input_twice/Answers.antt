use Rattle.std.proofs.Common.{◌↔◌, IsTrue, codes, subst, sym}
use Rattle.fc_words.specs.Sound.{HasInputOnce}
use Rattle.fc_words.proofs.PlaceLemmas.{twice}
use Rattle.fc_words.proofs.batch_words.has_input_twice.Goals as goal

pub returns-in-Some : goal.returns-in-Some
returns-in-Some c = record {
  value = subst (λ b. IsTrue b ↔ (HasInputOnce c.args.files.now → ⊥)) (sym c.is_some.ensures)
      (twice c.args.files.now c.in-Some.place (codes "-") c.place_of-in-Some.result c.in-Some.ensures.place c.in-Some.ensures.first
      c.place_of-in-Some.ensures.place c.place_of-in-Some.ensures.unknown);
}
