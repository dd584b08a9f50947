use Rattle.std.proofs.Common.{◌≡◌, Some, ap}
use Rattle.fc_words.specs.Names.{task_name}
use Rattle.fc_words.specs.declared.tasks.Task.TheVariants.{Deal, Show, Best, Hint, Solve, Check, Replay, Review, Batch}
use Rattle.fc_words.proofs.tasks.Task.of_name.Goals as goal

pub returns-in_err-place-clause-unknown : goal.returns-in_err-place-clause-unknown
returns-in_err-place-clause-unknown c = rw c.from_residual.ensures (λ task e. elim task as (λ one. task_name one ≡ c.args.name.now → ⊥) [
  | Deal ↦ λ e. c.in_err-place.ensures.unknown 0 (rw c.as_slice.ensures (ap Some e))
  | Show ↦ λ e. c.in_err-place.ensures.unknown 1 (rw c.as_slice.ensures (ap Some e))
  | Best ↦ λ e. c.in_err-place.ensures.unknown 2 (rw c.as_slice.ensures (ap Some e))
  | Hint ↦ λ e. c.in_err-place.ensures.unknown 3 (rw c.as_slice.ensures (ap Some e))
  | Solve ↦ λ e. c.in_err-place.ensures.unknown 4 (rw c.as_slice.ensures (ap Some e))
  | Check ↦ λ e. c.in_err-place.ensures.unknown 5 (rw c.as_slice.ensures (ap Some e))
  | Replay ↦ λ e. c.in_err-place.ensures.unknown 6 (rw c.as_slice.ensures (ap Some e))
  | Review ↦ λ e. c.in_err-place.ensures.unknown 7 (rw c.as_slice.ensures (ap Some e))
  | Batch ↦ λ e. c.in_err-place.ensures.unknown 8 (rw c.as_slice.ensures (ap Some e))
] e)
