use Rattle.std.proofs.Common.{get_or, length, ◌∙◌, ap}
use Rattle.fc_codes.specs.inner.Packing.{length-unpacked}
use Rattle.fc_codes.proofs.WordLemmas.{zero_state}
use Rattle.fc_codes.proofs.codes.Code.unmoved.Goals as goal

pub returns : goal.returns
returns c = record {
  value = λ k below. ap (λ l. get_or l k 0) c.of.ensures.value ∙ zero_state k below;
  count = ap length c.of.ensures.value ∙ length-unpacked _;
}
