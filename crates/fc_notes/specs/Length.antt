-- Boards whose columns are as long as those of a deal, and boards to which moves can lead from one.
use Rattle.std.specs.Prelude.{◌≡◌, ◌≢◌, ℕ, ◌+◌, ◌-◌, ◌<◌, ◌≤◌, ◌==◌, ◌⊎◌, Bool, cond, List, None, length, slice_index, count_by, nat_lt}
use Rattle.fc_cards.specs.Card.{rank, suit, is_red}
use Rattle.fc_position.specs.Board.{Board, cell, column, home}
use Rattle.fc_text.specs.Board.{Spells}
use Rattle.fc_row_text.specs.RowText.{row_text_fault, text_in_columns}
use Rattle.fc_notes.specs.declared.played_columns.Rule.{Rule}
use Rattle.fc_notes.specs.declared.played_columns.Rule.TheVariants.{Colours, Suits}

-- no card stands in a cell, and none is home
pub record AllInColumns (b : Board) : Type 0 where
  pub cells : (i : ℕ) → i < 4 → cell b i ≡ None
  pub homes : (s : ℕ) → s < 4 → home b s ≡ 0

-- so many cards does each column have
abbrev pub AreLengths : Board → List ℕ → Type 0
AreLengths b lengths = (i : ℕ) → i < 8 → slice_index lengths i ≡ length (column b i)

-- a column has six cards or seven, as those of a deal
abbrev pub IsSixOrSeven : ℕ → Type 0
IsSixOrSeven n = (n ≡ 6) ⊎ (n ≡ 7)

-- a column has seven cards
abbrev pub has_seven : List ℕ → Bool
has_seven cards = length cards == 7

-- four columns have seven cards each and the others six, in whatever order
pub record IsAsLongAsDeal (b : Board) : Type 0 where
  pub each : (i : ℕ) → i < 8 → IsSixOrSeven (length (column b i))
  pub sevens : count_by has_seven b.columns ≡ 4

-- all cards stand in columns, and these are as long as those of no deal
abbrev pub IsLikeNoDeal : Board → Type 0
IsLikeNoDeal b = AllInColumns b × (IsAsLongAsDeal b → ⊥)

-- by the rule a card may stand on another one, a rank higher: one of the other colour, or of its suit
abbrev pub StandsBy : Rule → ℕ → ℕ → Type 0
StandsBy Colours card host = (rank card + 1 ≡ rank host) × (is_red card ≢ is_red host)
StandsBy Suits card host = (rank card + 1 ≡ rank host) × (suit card ≡ suit host)

-- each card past the first so many stands on the card before it
abbrev pub IsPlayedColumn : Rule → ℕ → List ℕ → Type 0
IsPlayedColumn rule dealt cards = (depth : ℕ) → dealt ≤ depth → depth < length cards
    → StandsBy rule (slice_index cards depth) (slice_index cards (depth - 1))

-- how many cards of a column are dealt: seven in the first four, six in the others
abbrev pub dealt_count : ℕ → ℕ
dealt_count i = cond (nat_lt i 4) 7 6

-- each card past those that were dealt stands on the card before it, by this rule
abbrev pub IsPlayedBy : Rule → Board → Type 0
IsPlayedBy rule b = (i : ℕ) → i < 8 → IsPlayedColumn rule (dealt_count i) (column b i)

-- moves can lead from a deal to the board: by the colours throughout, or by the suits
abbrev pub CanBePlayedTo : Board → Type 0
CanBePlayedTo b = IsPlayedBy Colours b ⊎ IsPlayedBy Suits b

-- two boards have the same columns, each in its place
abbrev pub HasSameColumns : Board → Board → Type 0
HasSameColumns a b = (i : ℕ) → i < 8 → column a i ≡ column b i

-- a text, read in rows, spells the position for a game with n cells
pub record SpellsInRows (n : ℕ) (text : List ℕ) (b : Board) : Type 0 where
  pub sound : row_text_fault text ≡ None
  pub spelled : Spells n (text_in_columns text) b

-- a text, read in rows, spells a position whose cards all stand in columns that are as long as a deal's
abbrev pub IsDealInRows : ℕ → List ℕ → Type 0
IsDealInRows n text = (b : Board) × SpellsInRows n text b × (AllInColumns b × IsAsLongAsDeal b)
