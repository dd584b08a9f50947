use Rattle.std.proofs.Common.{◌≡◌, Some, ap}
use Rattle.fc_words.specs.Names.{game_name}
use Rattle.fc_words.specs.declared.game_names.GameName.TheVariants.{FreeCell, Bakers}
use Rattle.fc_words.proofs.game_names.GameName.of_name.Goals as goal

pub returns-in_err-place-clause-unknown : goal.returns-in_err-place-clause-unknown
returns-in_err-place-clause-unknown c = rw c.from_residual.ensures (λ game e. elim game as (λ one. game_name one ≡ c.args.name.now → ⊥) [
  | FreeCell ↦ λ e. c.in_err-place.ensures.unknown 0 (rw c.as_slice.ensures (ap Some e))
  | Bakers ↦ λ e. c.in_err-place.ensures.unknown 1 (rw c.as_slice.ensures (ap Some e))
] e)
