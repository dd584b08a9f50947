use Rattle.std.proofs.Common.{◌≡◌, Some, ap}
use Rattle.fc_words.specs.Names.{expansion_name}
use Rattle.fc_best_first.specs.declared.strategies.Expansion.TheVariants.{Full, Partial}
use Rattle.fc_words.proofs.expansion_names.expansion_of_name.Goals as goal

pub returns-in_err-place-clause-unknown : goal.returns-in_err-place-clause-unknown
returns-in_err-place-clause-unknown c = rw c.from_residual.ensures (λ expansion e. elim expansion as (λ one. expansion_name one ≡ c.args.name.now → ⊥) [
  | Full ↦ λ e. c.in_err-place.ensures.unknown 0 (rw c.as_slice.ensures (ap Some e))
  | Partial ↦ λ e. c.in_err-place.ensures.unknown 1 (rw c.as_slice.ensures (ap Some e))
] e)
