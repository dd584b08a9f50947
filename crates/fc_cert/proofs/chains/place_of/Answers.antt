use Rattle.std.proofs.Common.{◌+◌, ◌*◌, ◌/◌, ◌^◌, ℕ, ◌∙◌, ap, ap₂}
use Rattle.fc_cert.specs.inner.Chains.{hash_of, place_of}
use Rattle.fc_cert.proofs.chains.place_of.Goals as goal

pub returns-clause-value : goal.returns-clause-value
unfolding place_of
returns-clause-value c =
    ap₂ (λ (a b : ℕ). a / 2 ^ 32 * c.args.count / 2 ^ 32 + b / 2 ^ 54) (c.hash_of.ensures.value ∙ ap hash_of c.front_of.ensures.value) c.hash_of-2.ensures.value
