-- The entries of a list as programs print it, each on its line.
use Rattle.std.specs.Prelude.{◌≡◌, ◌⊎◌, ℕ, ◌+◌, ◌<◌, ◌==◌, ◌||◌, ◌&&◌, nat_eq, nat_le, nat_lt, Bool, true, false, not, cond, List, [], ◌∷◌, length, drop, map, position, Option, Some, None, IsTrue, MatchBool, codes}
use Rattle.std.specs.Char.{is_ascii_whitespace}
use Rattle.std.specs.List.{AllZip, enumerate_from, join_with_byte, position_or_len, slice_split, starts_with}
use Rattle.fc_text.specs.Line.{is_line_end}
use Rattle.fc_replay.specs.Token.{move_tokens}
use Rattle.fc_sequences.specs.declared.pairs.Pair.{Pair}
use Rattle.fc_sequences.specs.Pair.{HasPairText, hexadecimal, pair_text}
use Rattle.fc_lists.specs.Told.{SaysEntry, TellsEntry}
use Rattle.fc_lists.specs.Word.{digit_count}
use Rattle.fc_lists.specs.declared.letter_lines.LetterLines.{LetterLines}
use Rattle.fc_lists.specs.declared.told_entries.ToldEntry.{ToldEntry}

-- the lines of a text: what stands before, between and behind its ends of line
abbrev pub text_lines : List ℕ → List (List ℕ)
text_lines text = slice_split is_line_end text

-- a line without the white space that it begins with
abbrev pub after_space : List ℕ → List ℕ
after_space line = drop (position_or_len (λ b. not (is_ascii_whitespace b)) line) line

-- what stands behind a point and a blank, or else the whole line
abbrev pub behind_point : List ℕ → List ℕ → List ℕ
behind_point line [] = line
behind_point line (a ∷ []) = line
behind_point line (a ∷ b ∷ rest) = cond ((a == 46) && (b == 32)) rest line

-- a line without the number that it begins with, a point and a blank
abbrev pub without_number : List ℕ → List ℕ
without_number line = cond (nat_lt 0 (digit_count line)) (behind_point line (drop (digit_count line) line)) line

-- the letters of a line: without white space and the number of their first move
abbrev pub line_letters : List ℕ → List ℕ
line_letters line = without_number (after_space line)

-- a solver's entries end before a line that begins so
abbrev pub ends_entries : List ℕ → Bool
ends_entries line = starts_with nat_eq line (codes "===") || starts_with nat_eq line (codes "This game is ")

-- they begin behind a line that is ruled
abbrev pub is_ruled : List ℕ → Bool
is_ruled line = starts_with nat_eq line (codes "-=-=")

-- how many lines there are up to the last marked one, before the first at which they end; 0 where there is none
abbrev pub behind_marked : (List ℕ → Bool) → (List ℕ → Bool) → List (List ℕ) → ℕ
behind_marked ends marks [] = 0
behind_marked ends marks (line ∷ lines) =
    cond (ends line) 0 (cond (nat_lt 0 (behind_marked ends marks lines)) (behind_marked ends marks lines + 1) (cond (marks line) 1 0))

-- how many there are up to the last ruled line of a solver before its entries' end
abbrev pub behind_ruled : List (List ℕ) → ℕ
behind_ruled lines = behind_marked ends_entries is_ruled lines

-- the text begins as the answer of a board that is won
abbrev pub is_answer : List ℕ → Bool
is_answer text = starts_with nat_eq text (codes "shortest ") || starts_with nat_eq text (codes "won ")

-- the lines of a list in letters that have entries: not the first of an answer; and of a list that a solver may have printed those
-- behind the last ruled one, up to its end
abbrev pub letter_lines : Bool → List ℕ → LetterLines
letter_lines false text = record { first = cond (is_answer text) 1 0; end = None }
letter_lines true text = record {
  first = cond (nat_lt 0 (behind_ruled (text_lines text))) (behind_ruled (text_lines text)) (cond (is_answer text) 1 0);
  end = position ends_entries (text_lines text);
}

-- the line of this number is before the end, if there is one
abbrev pub is_before : ℕ → Option ℕ → Bool
is_before number None = true
is_before number (Some end) = nat_lt number end

-- the entries of a line by its number: its letters where it is one of the lines with entries, and else none
abbrev pub letters_at : LetterLines → ℕ × List ℕ → List ℕ
letters_at lines e = cond (nat_le lines.first e.0 && is_before e.0 lines.end) (line_letters e.1) []

-- the entries of a text in letters, each on its line
abbrev pub letters_alone : LetterLines → List ℕ → List ℕ
letters_alone lines text = join_with_byte 10 (map (letters_at lines) (enumerate_from 0 (text_lines text)))

-- the token is the text of an entry, in small letters
abbrev pub IsPairText : List ℕ → Type 0
IsPairText token = (p : Pair) × HasPairText p × (token ≡ pair_text p)

-- each token has the property
abbrev pub AllTokens : (List ℕ → Type 0) → List (List ℕ) → Type 0
AllTokens P [] = Unit {0}
AllTokens P (token ∷ tokens) = P token × AllTokens P tokens

-- the line has entries in small letters, and nothing else
abbrev pub IsInLetters : List ℕ → Type 0
IsInLetters line = (0 < length (move_tokens (line_letters line))) × AllTokens IsPairText (move_tokens (line_letters line))

-- the line tells an entry in words, as the program prints it
abbrev pub IsWorded : List ℕ → Type 0
IsWorded line = (told : ToldEntry) × TellsEntry (move_tokens line) told

-- a told entry in letters: with how many cards it moves where that isn't plain, as one card isn't where an entry may move several
abbrev pub told_text : Bool → ToldEntry → List ℕ
told_text has_sequences told = told.from ∷ told.to ∷ cond ((told.count == 1) && not has_sequences) [] (118 ∷ hexadecimal told.count ∷ [])

-- the entries of a line among lines that tell some in words: that one in letters; else those in letters, where it has nothing else
pub data IsWordedLine (has_sequences : Bool) (line : List ℕ) : List ℕ → Type 0 where
  in_words : (told : ToldEntry) → TellsEntry (move_tokens line) told → IsWordedLine has_sequences line (told_text has_sequences told)
  in_letters : (IsWorded line → ⊥) → IsInLetters line → IsWordedLine has_sequences line (line_letters line)
  has_none : (IsWorded line → ⊥) → (IsInLetters line → ⊥) → IsWordedLine has_sequences line []

-- the line begins as those do by which Freecell Solver tells an entry
abbrev pub begins_saying : List ℕ → Bool
begins_saying line = starts_with nat_eq line (codes "Move")

-- the line tells an entry so
abbrev pub IsSaid : List ℕ → Type 0
IsSaid line = (p : Pair) × SaysEntry (move_tokens line) p

-- the entry of a line among lines that Freecell Solver tells, or what it begins with, which is no entry
pub data IsSaidLine (line : List ℕ) : List ℕ → Type 0 where
  says : (p : Pair) → begins_saying line ≡ true → SaysEntry (move_tokens line) p → IsSaidLine line (pair_text p)
  says_no_entry : begins_saying line ≡ true → (IsSaid line → ⊥) → IsSaidLine line (codes "Move")
  says_nothing : begins_saying line ≡ false → IsSaidLine line []

-- the first of the lines that begin so tells an entry
abbrev pub AreSaid : List (List ℕ) → Type 0
AreSaid [] = ⊥
AreSaid (line ∷ lines) = MatchBool (begins_saying line) (IsSaid line) (AreSaid lines)

-- some of the lines tells an entry in words
abbrev pub AreWorded : List (List ℕ) → Type 0
AreWorded [] = ⊥
AreWorded (line ∷ lines) = IsWorded line ⊎ AreWorded lines

-- the list has on each line what belongs to the text's
abbrev pub AreOnLines : (List ℕ → List ℕ → Type 0) → List ℕ → List ℕ → Type 0
AreOnLines IsOf text list = (own : List (List ℕ)) × AllZip IsOf (text_lines text) own × (list ≡ join_with_byte 10 own)

-- Freecell Solver tells the entries of the text, which it may where an entry may move several cards
abbrev pub IsSaidText : Bool → List ℕ → Type 0
IsSaidText has_sequences text = IsTrue has_sequences × AreSaid (text_lines text)

-- the entries of a text, each on its line: of one that Freecell Solver tells; of one that tells some in words; and else of one in letters
pub data AreAlone (has_sequences : Bool) (text : List ℕ) : List ℕ → Type 0 where
  of_sayings : (list : List ℕ) → IsSaidText has_sequences text → AreOnLines IsSaidLine text list → AreAlone has_sequences text list
  of_words : (list : List ℕ) → (IsSaidText has_sequences text → ⊥) → AreWorded (text_lines text)
      → AreOnLines (IsWordedLine has_sequences) text list → AreAlone has_sequences text list
  of_letters : (IsSaidText has_sequences text → ⊥) → (AreWorded (text_lines text) → ⊥)
      → AreAlone has_sequences text (letters_alone (letter_lines has_sequences text) text)
