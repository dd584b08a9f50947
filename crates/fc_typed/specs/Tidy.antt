-- Board texts as they are copied from elsewhere, and the tidy text that each stands for.
use Rattle.std.specs.Prelude.{ℕ, zero, suc, ◌+◌, ◌-◌, ◌==◌, ◌||◌, ◌&&◌, Bool, cond, List, [], ◌∷◌, ◌++◌, Option, Some, None, option_map, nat_lt}
use Rattle.std.specs.List.{join_with_byte, slice_split}
use Rattle.fc_text.specs.Line.{after_blanks, is_line_end, line_of, without_return}
use Rattle.fc_text.specs.Spelling.{is_column}
use Rattle.fc_typed.specs.Comment.{blanks_of, without_comments}
use Rattle.fc_typed.specs.Respelled.{respelled_text}
use Rattle.fc_typed.specs.Title.{title_in, without_title}
use Rattle.fc_typed.specs.Unit.{in_bytes}

-- the mark of byte order (U+FEFF) that a text may begin with says nothing
abbrev pub after_mark : List ℕ → List ℕ
after_mark (a ∷ b ∷ c ∷ bytes) = cond ((a == 239) && (b == 187) && (c == 191)) bytes (a ∷ b ∷ c ∷ bytes)
after_mark bytes = bytes

-- the letter of the suit whose symbol, U+2660 to U+2667, ends with this byte: spades and clubs are black, the other symbols
-- of theirs white, hearts and diamonds the other way round
abbrev pub suit_of_symbol : ℕ → Option ℕ
suit_of_symbol b = cond ((b == 160) || (b == 164)) (Some 83)
    (cond ((b == 161) || (b == 165)) (Some 72)
    (cond ((b == 162) || (b == 166)) (Some 68)
    (cond ((b == 163) || (b == 167)) (Some 67) None)))

-- how many bytes are the selector of a symbol's shape, U+FE0E or U+FE0F, that may follow the symbol
abbrev pub selector_len : List ℕ → ℕ
selector_len (a ∷ b ∷ c ∷ bytes) = cond ((a == 239) && (b == 184) && ((c == 142) || (c == 143))) 3 0
selector_len bytes = 0

-- a no-break space (U+00A0) stands for a space
abbrev pub space_sign : List ℕ → Option (ℕ × ℕ)
space_sign (a ∷ b ∷ bytes) = cond ((a == 194) && (b == 160)) (Some (32, 2)) None
space_sign bytes = None

-- the sign that a text begins with: the byte that it stands for, and how many bytes it has
abbrev pub sign_of : List ℕ → Option (ℕ × ℕ)
sign_of (a ∷ b ∷ c ∷ bytes) = cond ((a == 226) && (b == 153))
    (option_map (λ letter. (letter, 3 + selector_len bytes)) (suit_of_symbol c))
    (space_sign (a ∷ b ∷ c ∷ bytes))
sign_of bytes = space_sign bytes

-- the sign that stands here, a byte that begins no other being one of itself
abbrev pub sign_or : ℕ → Option (ℕ × ℕ) → ℕ × ℕ
sign_or b None = (b, 1)
sign_or b (Some sign) = sign

-- each sign is replaced by the byte that it stands for, past so many bytes that are passed over
abbrev pub without_signs : ℕ → List ℕ → List ℕ
without_signs passed [] = []
without_signs (suc passed) (b ∷ bytes) = without_signs passed bytes
without_signs zero (b ∷ bytes) = (sign_or b (sign_of (b ∷ bytes))).0
    ∷ without_signs ((sign_or b (sign_of (b ∷ bytes))).1 - 1) bytes

-- a line of the board is a column's; the CR that may end it says nothing
abbrev pub is_column_line : List ℕ → Bool
is_column_line line = is_column (line_of (without_return line)).kind

-- a byte is the digit of the column that so many columns stand before, `1` to `8`
abbrev pub is_next_digit : ℕ → ℕ → Bool
is_next_digit before b = nat_lt before 8 && (b == 49 + before)

-- a piece that begins with the digit of the column that so many columns stand before, and a colon, loses the digit
abbrev pub without_digit : ℕ → List ℕ → List ℕ
without_digit before (b ∷ c ∷ bytes) = cond (is_next_digit before b && (c == 58)) (c ∷ bytes) (b ∷ c ∷ bytes)
without_digit before piece = piece

-- a column may be numbered, `1:` to `8:` first in its line but for blanks: the digit of the line that so many column lines
-- stand before says nothing but that a column follows, which its colon says alone
abbrev pub without_label : ℕ → List ℕ → List ℕ
without_label before line = blanks_of line ++ without_digit before (after_blanks line)

-- each column line loses its label, where it has its own; so many column lines stand before these lines
abbrev pub without_labels : ℕ → List (List ℕ) → List (List ℕ)
without_labels before [] = []
without_labels before (line ∷ lines) = cond (is_column_line line)
    (without_label before line ∷ without_labels (1 + before) lines)
    (line ∷ without_labels before lines)

-- a text is cut at its LFs, its column lines lose their labels, and all else stays, the LFs too
abbrev pub tidy_lines : List ℕ → List ℕ
tidy_lines text = join_with_byte 10 (without_labels 0 (slice_split is_line_end text))

-- the tidy text that a text stands for
abbrev pub tidy : List ℕ → List ℕ
tidy text = tidy_lines (respelled_text (without_title (without_comments (without_signs 0 (after_mark (in_bytes text))))))

-- the title that it leaves out
abbrev pub left_title : List ℕ → Option (List ℕ)
left_title text = title_in (slice_split is_line_end (without_comments (without_signs 0 (after_mark (in_bytes text)))))
