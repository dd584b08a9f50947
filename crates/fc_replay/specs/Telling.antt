-- Moves told in words, as players say them.
use Rattle.std.specs.Prelude.{ℕ, Bool, List, [], ◌∷◌, ◌++◌, Option, Some, None, codes, decimal}
use Rattle.fc_cards.specs.declared.places.Place.{Place}
use Rattle.fc_cards.specs.declared.places.Place.TheVariants.{Column, Cell, Home}
use Rattle.fc_position.specs.Board.{Board, playable}
use Rattle.fc_moves.specs.declared.steps.Move.{Move}
use Rattle.fc_moves.specs.MoveText.{place_letter}
use Rattle.fc_show.specs.Drawing.{card_shown}
use Rattle.fc_replay.specs.declared.tellings.ToldMove.{ToldMove}

-- a move as it is told from the board before it: its number, the card that it moves, and the card at the end of the column to
-- which it goes
abbrev pub told_move : ℕ → Board → Move → ToldMove
told_move number b m = record { number = number; m = m; card = playable b m.from; beneath = playable b m.to }

-- a card as it is shown, if there is one
abbrev pub card_phrase : Bool → Option ℕ → List ℕ
card_phrase is_coloured None = []
card_phrase is_coloured (Some c) = card_shown is_coloured c

-- where a card comes from
abbrev pub source_phrase : Place → List ℕ
source_phrase (Column i) = codes " from column " ++ place_letter (Column i) ∷ []
source_phrase (Cell i) = codes " from cell " ++ place_letter (Cell i) ∷ []
source_phrase Home = []

-- that a card goes to a column, on the card at its end, if there is one
abbrev pub onto_phrase : Bool → Option ℕ → List ℕ
onto_phrase is_coloured None = codes " to the empty column "
onto_phrase is_coloured (Some c) = codes " to the " ++ card_shown is_coloured c ++ codes " on column "

-- where a card goes
abbrev pub target_phrase : Bool → Place → Option ℕ → List ℕ
target_phrase is_coloured (Column i) beneath = onto_phrase is_coloured beneath ++ place_letter (Column i) ∷ []
target_phrase is_coloured (Cell i) beneath = codes " to cell " ++ place_letter (Cell i) ∷ []
target_phrase is_coloured Home beneath = codes " home"

-- a move in words: its card, where that comes from, and where it goes
abbrev pub move_phrase : Bool → ToldMove → List ℕ
move_phrase is_coloured told = card_phrase is_coloured told.card ++ source_phrase told.m.from
    ++ target_phrase is_coloured told.m.to told.beneath

-- the line of a move in words, behind its number
abbrev pub phrase_line : Bool → ToldMove → List ℕ
phrase_line is_coloured told = decimal told.number ++ codes ". " ++ move_phrase is_coloured told ++ codes "\n"
