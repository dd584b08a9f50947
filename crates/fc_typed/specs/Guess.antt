-- What a board text lacks, and the foundation line that may make it a board.
use Rattle.std.specs.Prelude.{◌≡◌, ℕ, ◌+◌, ◌<◌, ◌≤◌, List, [], ◌∷◌, ◌++◌, map, codes, slice_index, length, take, Contains, IsTrue}
use Rattle.std.specs.List.{position_or_len}
use Rattle.fc_cards.specs.Texts.{with_line_end}
use Rattle.fc_cards.specs.Card.{rank, suit}
use Rattle.fc_text.specs.Line.{Line, board_lines, is_line_end}
use Rattle.fc_text.specs.Printed.{entries_text, home_text}
use Rattle.fc_text.specs.Spelling.{SpellsHome, is_foundations}
use Rattle.fc_text.specs.Spot.{TellsNowhere}

-- the foundation line by which so many cards are home, told in the order clubs, diamonds, hearts, spades
abbrev pub foundation_line : List ℕ → List ℕ
foundation_line counts = codes "Foundations:" ++ entries_text (map (λ s. home_text s (slice_index counts s)) (2 ∷ 0 ∷ 1 ∷ 3 ∷ []))

-- a text behind this foundation line
abbrev pub with_foundations : List ℕ → List ℕ → List ℕ
with_foundations counts text = with_line_end (foundation_line counts) ++ text

-- how many cards of each suit may be home, up to the king
abbrev pub AreCounts : List ℕ → Type 0
AreCounts counts = (s : ℕ) → s < 4 → slice_index counts s ≤ 13

-- of this suit the first n cards, from the ace, stand in no column and no cell, and the next one stands, if there is one
pub record LacksFirst (text : List ℕ) (s n : ℕ) : Type 0 where
  pub most : n ≤ 13
  pub lacks : (c : ℕ) → c < 52 → suit c ≡ s → rank c ≤ n → TellsNowhere text c
  pub next : (c : ℕ) → c < 52 → suit c ≡ s → rank c ≡ n + 1 → TellsNowhere text c → ⊥

-- of each suit so many
abbrev pub LacksFirstOfEach : List ℕ → List ℕ → Type 0
LacksFirstOfEach text counts = (s : ℕ) → s < 4 → LacksFirst text s (slice_index counts s)

-- no column and no cell has a card
abbrev pub TellsNoCard : List ℕ → Type 0
TellsNoCard text = (c : ℕ) → c < 52 → TellsNowhere text c

-- the token tells so many cards of the card's suit that it is one of them
pub record TokenTellsHome (c : ℕ) (token : List ℕ) : Type 0 where
  pub count : ℕ
  pub spelled : SpellsHome token (suit c) count
  pub enough : rank c ≤ count

-- one of the tokens does
abbrev pub AnyTellsHome : ℕ → List (List ℕ) → Type 0
AnyTellsHome c tokens = (token : List ℕ) × Contains tokens token × TokenTellsHome c token

-- the line is a foundation line, and tells that the card is home
abbrev pub TellsHome : ℕ → Line → Type 0
TellsHome c line = IsTrue (is_foundations line.kind) × AnyTellsHome c line.tokens

-- one of the lines does
abbrev pub TellsHomeIn : ℕ → List Line → Type 0
TellsHomeIn c lines = (line : Line) × Contains lines line × TellsHome c line

-- no column and no cell has the card, and no foundation line tells that it is home
pub record IsMissing (text : List ℕ) (c : ℕ) : Type 0 where
  pub nowhere : TellsNowhere text c
  pub not_home : TellsHomeIn c (board_lines text) → ⊥

-- these are the cards below this number that are missing from a text, by rising number
pub record AreMissingBelow (text : List ℕ) (n : ℕ) (cards : List ℕ) : Type 0 where
  pub rising : (i j : ℕ) → i < j → j < length cards → slice_index cards i < slice_index cards j
  pub missing : (c : ℕ) → Contains cards c → (c < n) × IsMissing text c
  pub whole : (c : ℕ) → c < n → IsMissing text c → Contains cards c

-- the cards that are missing from a text, by rising number
abbrev pub AreMissing : List ℕ → List ℕ → Type 0
AreMissing text cards = AreMissingBelow text 52 cards

-- a text's first line, without the LF that ends it
abbrev pub first_line : List ℕ → List ℕ
first_line text = take (position_or_len is_line_end text) text
