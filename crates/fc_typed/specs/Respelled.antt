-- Tokens that people spell otherwise than the reader does, and how the reader spells them.
use Rattle.std.specs.Prelude.{ℕ, ◌-◌, ◌==◌, ◌||◌, ◌&&◌, Bool, false, cond, List, [], ◌∷◌, ◌++◌, length, take, drop, map, Option, Some, None, nat_lt, slice_index}
use Rattle.std.specs.Char.{to_ascii_uppercase}
use Rattle.std.specs.List.{join_with_byte, slice_split}
use Rattle.std.specs.Option.{option_or}
use Rattle.fc_position.specs.Board.{front_of}
use Rattle.fc_text.specs.Line.{after_blanks, after_colon, after_name, cell_names, foundation_names, is_blank, is_line_end, tokens_of, without_return}

-- the byte is a suit's letter, in either case
abbrev pub is_suit_letter : ℕ → Bool
is_suit_letter letter = (letter == 67) || ((letter == 68) || ((letter == 72) || (letter == 83)))

abbrev pub is_suit : ℕ → Bool
is_suit b = is_suit_letter (to_ascii_uppercase b)

-- the text is a rank's: one of `A23456789TJQK`, in either case, or `10`
abbrev pub is_rank_letter : ℕ → Bool
is_rank_letter letter = (nat_lt 49 letter && nat_lt letter 58)
    || ((letter == 65) || ((letter == 84) || ((letter == 74) || ((letter == 81) || (letter == 75)))))

abbrev pub is_rank : List ℕ → Bool
is_rank [] = false
is_rank (b ∷ []) = is_rank_letter (to_ascii_uppercase b)
is_rank (b ∷ c ∷ []) = (b == 49) && (c == 48)
is_rank (b ∷ c ∷ d ∷ bytes) = false

-- the suit and the rank of a card that is told by its suit first, as in `D7`
abbrev pub suit_first : List ℕ → Option (ℕ × List ℕ)
suit_first [] = None
suit_first (suit ∷ rank) = cond (is_suit suit && is_rank rank) (Some (suit, rank)) None

-- the suit and the rank of a card that is told by its rank first, as in `7D`
abbrev pub rank_first : List ℕ → Option (ℕ × List ℕ)
rank_first token = cond (is_suit (slice_index token (length token - 1)) && is_rank (front_of token))
    (Some (slice_index token (length token - 1), front_of token)) None

-- a card that is told by its suit first is respelled rank first; other tokens stay
abbrev pub card_spelling : List ℕ → Option (ℕ × List ℕ) → List ℕ
card_spelling token None = token
card_spelling token (Some card) = card.1 ++ card.0 ∷ []

abbrev pub respelled_card : List ℕ → List ℕ
respelled_card token = card_spelling token (suit_first token)

-- a colon behind a suit's letter is a dash, as in `C:3`
abbrev pub colon_dash : List ℕ → List ℕ
colon_dash (suit ∷ b ∷ rank) = cond (is_suit suit && (b == 58)) (suit ∷ 45 ∷ rank) (suit ∷ b ∷ rank)
colon_dash token = token

-- a foundation that is told by its last card, in either order, is respelled as suit, dash and rank
abbrev pub home_spelling : List ℕ → Option (ℕ × List ℕ) → List ℕ
home_spelling token None = colon_dash token
home_spelling token (Some card) = card.0 ∷ 45 ∷ card.1

abbrev pub respelled_home : List ℕ → List ℕ
respelled_home token = home_spelling token (option_or (suit_first token) (rank_first token))

-- each token of a piece is respelled and all blanks stay; these bytes stand before the piece, and begin its first token
abbrev pub each_token : (List ℕ → List ℕ) → List ℕ → List ℕ → List ℕ
each_token respell token [] = respell token
each_token respell token (b ∷ bytes) = cond (is_blank b)
    (respell token ++ b ∷ each_token respell [] bytes)
    (each_token respell (token ++ b ∷ []) bytes)

-- a dash alone stands in an empty column
abbrev pub is_dash_alone : List (List ℕ) → Bool
is_dash_alone ((b ∷ []) ∷ []) = b == 45
is_dash_alone tokens = false

abbrev pub respelled_column : List ℕ → List ℕ
respelled_column piece = cond (is_dash_alone (tokens_of piece)) [] (each_token respelled_card [] piece)

-- a piece behind the label that it may begin with, `1:` to `8:`, or behind the colon
abbrev pub after_label : List ℕ → List ℕ
after_label (b ∷ c ∷ bytes) = cond (nat_lt 48 b && (nat_lt b 57 && (c == 58))) bytes (after_colon (b ∷ c ∷ bytes))
after_label piece = after_colon piece

-- what stands in a line before the piece that it ends with
abbrev pub before_piece : List ℕ → List ℕ → List ℕ
before_piece piece line = take (length line - length piece) line

-- a line is respelled behind its name, if it has one of the foundations' or the cells', and else as a column
abbrev pub sorted_spelling : Option (List ℕ) → Option (List ℕ) → List ℕ → List ℕ → List ℕ
sorted_spelling (Some piece) cells rest line = before_piece piece line ++ each_token respelled_home [] piece
sorted_spelling None (Some piece) rest line = before_piece piece line ++ each_token respelled_card [] piece
sorted_spelling None None rest line = before_piece (after_label rest) line ++ respelled_column (after_label rest)

abbrev pub line_spelling : List ℕ → List ℕ
line_spelling line =
    sorted_spelling (after_name foundation_names (after_blanks line)) (after_name cell_names (after_blanks line)) (after_blanks line) line

-- a line is respelled without the CR that may end it, which stays
abbrev pub respelled_line : List ℕ → List ℕ
respelled_line line = line_spelling (without_return line) ++ drop (length (without_return line)) line

-- each line is respelled
abbrev pub respelled_text : List ℕ → List ℕ
respelled_text text = join_with_byte 10 (map respelled_line (slice_split is_line_end text))
