-- Where the parts of a certificate stand in its bytes.
use Rattle.std.specs.Prelude.{ℕ, ◌-◌, List, [], ◌∷◌, take, drop, slice_range, ◌==◌, nat_lt, if◌then◌else◌}
use Rattle.std.specs.Int.{w32, from_be_bytes}
use Rattle.fc_cards.specs.declared.places.Place.{Place}
use Rattle.fc_cards.specs.declared.places.Place.TheVariants.{Column, Cell, Home}
use Rattle.fc_moves.specs.declared.steps.Move.{Move}
use Rattle.fc_cert.specs.declared.contents.Head.{Head}
use Rattle.fc_cert.specs.Content.{Content}

-- the place with this letter
abbrev pub place_of : ℕ → Place
place_of letter = if letter == 104 then Home else (if nat_lt letter 97 then Column (letter - 49) else Cell (letter - 97))

-- the moves with these texts, one after the other
abbrev pub moves_of : List ℕ → List Move
moves_of [] = []
moves_of (from ∷ []) = []
moves_of (from ∷ to ∷ rest) = record { from = place_of from; to = place_of to } ∷ moves_of rest

-- the key and the cost of a record: the cost is its first four bytes, and the key the others
abbrev pub row_of : List ℕ → List ℕ × ℕ
row_of bytes = (drop 4 bytes, from_be_bytes w32 (take 4 bytes))

-- the rows of records that end at these places, the first of which begins here
abbrev pub rows_ending : List ℕ → ℕ → List ℕ → List (List ℕ × ℕ)
rows_ending records from [] = []
rows_ending records from (to ∷ ends) = row_of (slice_range records from to) ∷ rows_ending records to ends

-- the content of these parts, whose records end at these places
abbrev pub content_of : Head → List ℕ → List ℕ → List ℕ → Content
content_of head texts records ends = record {
  head = head;
  moves = moves_of texts;
  rows = rows_ending records 0 ends;
}
