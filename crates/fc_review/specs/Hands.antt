-- How many entries of a list of moves are left to a player's hands, where cards go home by themselves.
use Rattle.std.specs.Prelude.{◌≡◌, ◌⊎◌, ℕ, ◌+◌, List, [], ◌∷◌}
use Rattle.fc_cards.specs.declared.places.Place.{Place}
use Rattle.fc_cards.specs.declared.places.Place.TheVariants.{Home}
use Rattle.fc_position.specs.Board.{Board}
use Rattle.fc_moves.specs.declared.steps.Move.{Move}
use Rattle.fc_moves.specs.GameRules.{GameRules}
use Rattle.fc_sequences.specs.declared.pairs.Pair.{Pair}
use Rattle.fc_sequences.specs.Gathering.{Gathers}
use Rattle.fc_sequences.specs.Pair.{PlaysPair}
use Rattle.fc_home.specs.Settles.{PlayableGoesHome}

-- what is moved between these places is a card that goes home by itself, by the home rule
abbrev pub GoesByItself : ℕ → GameRules → Board → Place → Place → Type 0
GoesByItself rule g b from to = (to ≡ Home) × PlayableGoesHome rule g b from

-- of the entries, played one by one from the board, so many are by hand: all but those that go home by themselves
abbrev pub AreByHand : ℕ → GameRules → Board → List Pair → ℕ → Type 0
AreByHand rule g b [] count = count ≡ 0
AreByHand rule g b (p ∷ ps) count = (mid : Board) × PlaysPair g b p mid
    × ((GoesByItself rule g b p.from p.to × AreByHand rule g mid ps count)
    ⊎ ((GoesByItself rule g b p.from p.to → ⊥) × ((others : ℕ) × (count ≡ others + 1) × AreByHand rule g mid ps others)))

-- the moves are gathered to entries, of which so many are by hand
abbrev pub IsByHand : ℕ → GameRules → Board → List Move → ℕ → Type 0
IsByHand rule g b moves count = (entries : List Pair) × (c : Board) × Gathers g b entries moves c × AreByHand rule g b entries count
