use Rattle.std.proofs.Common.{◌≡◌, ℕ, ◌<◌, ◌≤◌}
use Rattle.fc_cards.specs.Card.{rank, suit}
use Rattle.fc_cards.specs.Suit.{suit_index}
use Rattle.fc_text.specs.Spot.{TellsNowhere}
use Rattle.fc_typed.proofs.guesses.lacked_count.Given as goal

-- the cards so far stand nowhere
abbrev pub invariant-loop-count : goal.invariant-loop-count
invariant-loop-count l = (c : ℕ) → c < 52 → suit c ≡ suit_index l.suit → rank c ≤ l.count → TellsNowhere l.text c
