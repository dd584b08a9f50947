-- Settling: sending cards home by a rule, one by one, until none goes.
use Rattle.std.specs.Prelude.{◌≡◌, ℕ, ◌≤◌, length, List, [], ◌∷◌, Some}
use Rattle.fc_cards.specs.declared.places.Place.{Place}
use Rattle.fc_cards.specs.declared.places.Place.TheVariants.{Home}
use Rattle.fc_position.specs.Board.{Board, playable, board_without, board_with}
use Rattle.fc_moves.specs.declared.steps.Move.{Move}
use Rattle.fc_moves.specs.GameRules.{GameRules}
use Rattle.fc_home.specs.HomeRule.{GoesHome}

-- the card is playable at the place and goes home by the rule, and no playable card with a lower number does
pub record IsFirstHome (rule : ℕ) (g : GameRules) (b : Board) (from : Place) (c : ℕ) : Type 0 where
  pub there : playable b from ≡ Some c
  pub goes : GoesHome rule g b.homes c
  pub least : (other : Place) (d : ℕ) → playable b other ≡ Some d → GoesHome rule g b.homes d → c ≤ d

-- the card that may be taken from the place goes home by the rule
abbrev pub PlayableGoesHome : ℕ → GameRules → Board → Place → Type 0
PlayableGoesHome rule g b from = (c : ℕ) × (playable b from ≡ Some c) × GoesHome rule g b.homes c

-- no playable card goes home by the rule
abbrev pub NoneGoesHome : ℕ → GameRules → Board → Type 0
NoneGoesHome rule g b = (from : Place) (c : ℕ) → playable b from ≡ Some c → GoesHome rule g b.homes c → ⊥

-- the board with the card, taken from the place, at home
abbrev pub sent_home : Board → Place → ℕ → Board
sent_home b from c = board_with (board_without b from) c Home

-- the board settles by these moves to that one: each takes the first card that goes home, and after the last none goes
abbrev pub SettlesBy : GameRules → ℕ → Board → List Move → Board → Type 0
SettlesBy g rule b [] q = (q ≡ b) × NoneGoesHome rule g b
SettlesBy g rule b (m ∷ ms) q =
    (c : ℕ) × IsFirstHome rule g b m.from c × (m.to ≡ Home) × SettlesBy g rule (sent_home b m.from c) ms q

-- the board settles in so many moves to that one
abbrev pub Settles : GameRules → ℕ → Board → ℕ → Board → Type 0
Settles g rule b count q = (ms : List Move) × (length ms ≡ count) × SettlesBy g rule b ms q
