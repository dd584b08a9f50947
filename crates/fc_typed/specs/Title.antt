-- The title that a copied board may stand below, as `Deal 617`.
use Rattle.std.specs.Prelude.{ℕ, ◌==◌, ◌||◌, ◌&&◌, Bool, false, not, cond, List, [], ◌∷◌, Option, Some, None, is_some, nat_lt}
use Rattle.std.specs.List.{join_with_byte, slice_split}
use Rattle.std.specs.Option.{option_or}
use Rattle.fc_text.specs.Line.{after_blanks, is_line_end, is_token, line_of, tokens_of, without_return}
use Rattle.fc_text.specs.Spelling.{is_column}
use Rattle.fc_typed.specs.Respelled.{after_label, rank_first, suit_first}

-- a letter, in either case
abbrev pub is_letter : ℕ → Bool
is_letter b = (nat_lt 64 b && nat_lt b 91) || (nat_lt 96 b && nat_lt b 123)

-- a word is four letters in a row, or more
abbrev pub begins_word : List ℕ → Bool
begins_word [] = false
begins_word (a ∷ []) = false
begins_word (a ∷ b ∷ []) = false
begins_word (a ∷ b ∷ c ∷ []) = false
begins_word (a ∷ b ∷ c ∷ d ∷ bytes) = is_letter a && (is_letter b && (is_letter c && is_letter d))

abbrev pub has_word : List ℕ → Bool
has_word [] = false
has_word (b ∷ bytes) = begins_word (b ∷ bytes) || has_word bytes

-- what may stand in a column: a card, told in either order, or a sign for none
abbrev pub is_none_sign : List ℕ → Bool
is_none_sign [] = false
is_none_sign (b ∷ []) = (b == 45) || ((b == 42) || (b == 46))
is_none_sign (b ∷ c ∷ []) = (b == 45) && (c == 45)
is_none_sign (b ∷ c ∷ d ∷ bytes) = false

abbrev pub is_board_token : List ℕ → Bool
is_board_token token = is_some (option_or (suit_first token) (rank_first token)) || is_none_sign token

-- one of the tokens is so
abbrev pub any_token : (List ℕ → Bool) → List (List ℕ) → Bool
any_token is [] = false
any_token is (token ∷ tokens) = is token || any_token is tokens

-- tokens of which one has a word, and none may stand in a column
abbrev pub are_title : List (List ℕ) → Bool
are_title tokens = any_token has_word tokens && not (any_token is_board_token tokens)

-- a line without a name of the foundations or the cells, whose tokens are a title's behind its label
abbrev pub is_title : List ℕ → Bool
is_title line =
    is_column (line_of (without_return line)).kind && are_title (tokens_of (after_label (after_blanks (without_return line))))

-- the line has more than blanks
abbrev pub has_token : List ℕ → Bool
has_token line = is_token (after_blanks (without_return line))

-- the first of the lines that has more than blanks, if it is a title and another line stands below it
abbrev pub title_in : List (List ℕ) → Option (List ℕ)
title_in [] = None
title_in (line ∷ []) = None
title_in (line ∷ next ∷ lines) = cond (has_token line) (cond (is_title line) (Some line) None) (title_in (next ∷ lines))

-- the lines without that title
abbrev pub lines_without_title : List (List ℕ) → List (List ℕ)
lines_without_title [] = []
lines_without_title (line ∷ []) = line ∷ []
lines_without_title (line ∷ next ∷ lines) =
    cond (has_token line) (cond (is_title line) (next ∷ lines) (line ∷ next ∷ lines)) (line ∷ lines_without_title (next ∷ lines))

-- a text without its title, and with it the LF that ends it
abbrev pub without_title : List ℕ → List ℕ
without_title text = join_with_byte 10 (lines_without_title (slice_split is_line_end text))
