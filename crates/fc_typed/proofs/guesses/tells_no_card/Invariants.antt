use Rattle.std.proofs.Common.{ℕ, ◌<◌}
use Rattle.fc_text.specs.Spot.{TellsNowhere}
use Rattle.fc_typed.proofs.guesses.tells_no_card.Given as goal

-- the cards so far stand nowhere
abbrev pub invariant-loop-index : goal.invariant-loop-index
invariant-loop-index l = (k : ℕ) → k < l.index → TellsNowhere l.text k
