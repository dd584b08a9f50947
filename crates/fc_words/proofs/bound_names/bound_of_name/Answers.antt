use Rattle.std.proofs.Common.{◌≡◌, Some, ap}
use Rattle.fc_words.specs.Names.{bound_name}
use Rattle.fc_bound.specs.declared.kinds.BoundKind.TheVariants.{Plain, Clearing}
use Rattle.fc_words.proofs.bound_names.bound_of_name.Goals as goal

pub returns-in_err-place-clause-unknown : goal.returns-in_err-place-clause-unknown
returns-in_err-place-clause-unknown c = rw c.from_residual.ensures (λ bound e. elim bound as (λ one. bound_name one ≡ c.args.name.now → ⊥) [
  | Plain ↦ λ e. c.in_err-place.ensures.unknown 0 (rw c.as_slice.ensures (ap Some e))
  | Clearing ↦ λ e. c.in_err-place.ensures.unknown 1 (rw c.as_slice.ensures (ap Some e))
] e)
