-- The typed lines that the lines of a board's tidy text are made of.
use Rattle.std.specs.Prelude.{◌≡◌, ℕ, ◌+◌, ◌-◌, ◌<◌, ◌≤◌, ◌==◌, ◌||◌, ◌&&◌, ◌⊎◌, Bool, true, false, List, [], ◌∷◌, ◌++◌, length, take, min, count_by}
use Rattle.std.specs.List.{concat}
use Rattle.fc_text.specs.Line.{is_line_end}
use Rattle.fc_typed.specs.Typed.{typed_lines}
use Rattle.fc_typed.specs.declared.tidy_texts.TheConstants.{MOST_BYTES}
use Rattle.fc_notes.specs.File.{ended_lines}

-- a text in units of two bytes begins with the mark of byte order, FF FE or FE FF
abbrev pub is_in_units : List ℕ → Bool
is_in_units (a ∷ b ∷ bytes) = ((a == 255) && (b == 254)) || ((a == 254) && (b == 255))
is_in_units bytes = false

-- the first lines of a text, so many, with the LFs that end them
abbrev pub first_lines : ℕ → List ℕ → List ℕ
first_lines count text = concat (take count (ended_lines text))

-- how many of a text's first lines stay in its tidy text, where another line stands below them
abbrev pub staying_count : List ℕ → ℕ → ℕ
staying_count text count = length (typed_lines (first_lines count text ++ 45 ∷ [])) - 1

-- so many lines does a text have, the one behind its last LF among them
abbrev pub line_count : List ℕ → ℕ
line_count text = count_by is_line_end text + 1

-- line n of the tidy text is made of this line of the typed one: above it fewer lines stay, and n do with it, or it is the last
pub record IsTypedNumber (text : List ℕ) (n number : ℕ) : Type 0 where
  pub above : staying_count text (number - 1) < n
  pub here : (n ≤ staying_count text number) ⊎ (number ≡ line_count text)

-- a line is told by its own number where nothing was typed that has the same lines, or where that is in units
abbrev pub HasOwnNumbers : List ℕ → Type 0
HasOwnNumbers typed = (typed ≡ []) ⊎ (is_in_units typed ≡ true)

-- the number of a typed line below so many lines of its file, up to the greatest one that is told
pub record IsNumberBelow (typed : List ℕ) (above n number : ℕ) : Type 0 where
  pub own : ℕ
  pub made : length typed < MOST_BYTES → 0 < n → IsTypedNumber typed n own
  pub sum : number ≡ min (above + own) 4294967295

-- the number in its file of line n of a tidy text
pub record IsFileLine (typed : List ℕ) (above n number : ℕ) : Type 0 where
  pub own : HasOwnNumbers typed → number ≡ n
  pub below : (HasOwnNumbers typed → ⊥) → IsNumberBelow typed above n number
