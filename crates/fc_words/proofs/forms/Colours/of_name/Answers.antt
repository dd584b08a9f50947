use Rattle.std.proofs.Common.{◌≡◌, Some, ap}
use Rattle.fc_words.specs.Names.{colours_name}
use Rattle.fc_words.specs.declared.forms.Colours.TheVariants.{Auto, Always, Never}
use Rattle.fc_words.proofs.forms.Colours.of_name.Goals as goal

pub returns-in_err-place-clause-unknown : goal.returns-in_err-place-clause-unknown
returns-in_err-place-clause-unknown c = rw c.from_residual.ensures (λ colours e. elim colours as (λ one. colours_name one ≡ c.args.name.now → ⊥) [
  | Auto ↦ λ e. c.in_err-place.ensures.unknown 0 (rw c.as_slice.ensures (ap Some e))
  | Always ↦ λ e. c.in_err-place.ensures.unknown 1 (rw c.as_slice.ensures (ap Some e))
  | Never ↦ λ e. c.in_err-place.ensures.unknown 2 (rw c.as_slice.ensures (ap Some e))
] e)
