-- What the laws of this crate state.
use Rattle.std.specs.Prelude.{◌≡◌, ℕ, ◌+◌, ◌-◌, ◌*◌, ◌<◌, ◌≤◌, List, [], ◌∷◌, ◌++◌, length, map, count_by, IsTrue}
use Rattle.std.specs.List.{AllZip, slice_split}
use Rattle.fc_cards.specs.Card.{rank, suit}
use Rattle.fc_cards.specs.Texts.{IsRank, IsRankText, IsSuitText}
use Rattle.fc_position.specs.Board.{Board, column}
use Rattle.fc_text.specs.Board.{Spells}
use Rattle.fc_text.specs.Line.{after_blanks, is_line_end, line_of, lines_of, tokens_of}
use Rattle.fc_text.specs.Spelling.{SpellsCard, SpellsHome, is_column}
use Rattle.fc_typed.specs.Comment.{without_comments}
use Rattle.fc_typed.specs.Tidy.{after_mark, tidy, tidy_lines, without_labels, without_signs}
use Rattle.fc_typed.specs.Respelled.{respelled_text, respelled_card, respelled_home, respelled_line}
use Rattle.fc_typed.specs.Title.{without_title}
use Rattle.fc_typed.specs.Typed.{said_of, typed_lines}
use Rattle.fc_typed.specs.Unit.{in_bytes}
use Rattle.fc_typed.specs.declared.tidy_texts.TheConstants.{MOST_BYTES}

-- a tidy text has at most half as many bytes again as the text that it stands for has in bytes, and these are at most
-- half as many again as the text has, if it is in units of two bytes
abbrev pub TidyTextsGrowByHalf : Type 0
TidyTextsGrowByHalf = (text : List ℕ) → (2 * length (tidy text) ≤ 3 * length (in_bytes text))
    × (2 * length (in_bytes text) ≤ 3 * length text)

-- a column line of a text that begins, after blanks, with the digit of n and a colon, and what stands behind them
pub record HasNumber (text : List ℕ) (n : ℕ) (rest : List ℕ) : Type 0 where
  pub above : List (List ℕ)
  pub line : List ℕ
  pub below : List (List ℕ)
  pub parts : lines_of text ≡ above ++ line ∷ below
  pub column : IsTrue (is_column (line_of line).kind)
  pub begins : after_blanks line ≡ (48 + n) ∷ 58 ∷ rest

-- where a tidy text spells a position, a line that is numbered n in the text, once its signs are replaced, its comments
-- and its title left out and its tokens respelled, is the n-th column line, and its cards are the position's n-th column; there are
-- eight columns at most
abbrev pub NumbersAreColumns : Type 0
NumbersAreColumns = (cells : ℕ) (text : List ℕ) (b : Board) (n : ℕ) (rest : List ℕ) → Spells cells (tidy text) b
    → (line : HasNumber (respelled_text (without_title (without_comments (without_signs 0 (after_mark (in_bytes text)))))) n rest)
    → (n ≤ 8) × (count_by (λ l. is_column l.kind) (map line_of line.above) + 1 ≡ n)
    × AllZip SpellsCard (tokens_of rest) (column b (n - 1))

-- a text that spells a position is tidy already
abbrev pub SpelledTextsStay : Type 0
SpelledTextsStay = (cells : ℕ) (text : List ℕ) (b : Board) → Spells cells text b → tidy text ≡ text

-- where a text spells a position once its signs are replaced and its columns have lost their numbers, nothing else changes
abbrev pub MeaningsStay : Type 0
MeaningsStay = (cells : ℕ) (text : List ℕ) (b : Board) → Spells cells (tidy_lines (without_signs 0 (after_mark text))) b
    → tidy text ≡ tidy_lines (without_signs 0 (after_mark text))

-- of a text in bytes, the lines of its tidy text are made of the typed lines, one of each in their order: a line is what the typed one
-- says, respelled, and without its label where it has its own
abbrev pub TidyLinesAreTyped : Type 0
TidyLinesAreTyped = (text : List ℕ) → in_bytes text ≡ text
    → slice_split is_line_end (tidy text) ≡ without_labels 0 (map respelled_line (map said_of (typed_lines text)))

-- the text of a card that is told by its suit first is respelled as one that the reader takes for the card
abbrev pub CardsAreRead : Type 0
CardsAreRead = (c byte : ℕ) (text : List ℕ) → c < 52 → IsSuitText (suit c) byte → IsRankText (rank c) text
    → SpellsCard (respelled_card (byte ∷ text)) c

-- the text of a foundation's last card, in either order, is respelled as one that the reader takes for the foundation
abbrev pub HomesAreRead : Type 0
HomesAreRead = (s n byte : ℕ) (text : List ℕ) → s < 4 → IsSuitText s byte → IsRank n → IsRankText n text
    → SpellsHome (respelled_home (byte ∷ text)) s n × SpellsHome (respelled_home (text ++ byte ∷ [])) s n

-- the most bytes of a text that is made tidy
abbrev pub NumbersAreTold : Type 0
NumbersAreTold = MOST_BYTES ≡ 16384
