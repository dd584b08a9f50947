-- What lines spell: the cards of columns and cells, and how many cards are home.
use Rattle.std.specs.Prelude.{◌≡◌, ℕ, ◌<◌, ◌⊎◌, Bool, true, false, List, [], ◌∷◌, map, filter, Option, Some, None, Contains, codes, slice_get, slice_index_or}
use Rattle.std.specs.List.{AllZip}
use Rattle.fc_cards.specs.Texts.{IsRank, IsRankText, IsSuitText, IsCardText}
use Rattle.fc_position.specs.Board.{Board, column, cell, home}
use Rattle.fc_position.specs.Position.{IsShaped}
use Rattle.fc_text.specs.Line.{Line}
use Rattle.fc_text.specs.declared.lines.LineKind.{LineKind}
use Rattle.fc_text.specs.declared.lines.LineKind.TheVariants.{Foundations, Freecells, Column}

-- the token is a card's text
pub record SpellsCard (token : List ℕ) (c : ℕ) : Type 0 where
  pub below : c < 52
  pub text : IsCardText c token

-- the token stands for an empty cell
abbrev pub IsMark : List ℕ → Type 0
IsMark token = (token ≡ codes "-") ⊎ (token ≡ codes "*")

-- the token spells what a cell holds
abbrev pub SpellsCell : List ℕ → Option ℕ → Type 0
SpellsCell token None = IsMark token
SpellsCell token (Some c) = SpellsCard token c

-- the text spells a count: `0`, or a rank
abbrev pub SpellsCount : List ℕ → ℕ → Type 0
SpellsCount text n = ((text ≡ codes "0") × (n ≡ 0)) ⊎ (IsRank n × IsRankText n text)

-- the token spells how many cards of a suit are home: the suit's letter, a dash, and the count
pub record SpellsHome (token : List ℕ) (s n : ℕ) : Type 0 where
  pub suit_part : ℕ
  pub rank_part : List ℕ
  pub parts : token ≡ suit_part ∷ 45 ∷ rank_part
  pub suit : IsSuitText s suit_part
  pub count : SpellsCount rank_part n

-- the kinds of lines are told apart
abbrev pub is_foundations : LineKind → Bool
is_foundations Foundations = true
is_foundations Freecells = false
is_foundations Column = false

abbrev pub is_freecells : LineKind → Bool
is_freecells Foundations = false
is_freecells Freecells = true
is_freecells Column = false

abbrev pub is_column : LineKind → Bool
is_column Foundations = false
is_column Freecells = false
is_column Column = true

abbrev pub is_kind : LineKind → Line → Bool
is_kind Foundations line = is_foundations line.kind
is_kind Freecells line = is_freecells line.kind
is_kind Column line = is_column line.kind

-- the tokens of the n-th line of a kind, none where there is no such line
abbrev pub tokens_at : List Line → LineKind → ℕ → List (List ℕ)
tokens_at lines kind n = slice_index_or (map (λ line. line.tokens) (filter (is_kind kind) lines)) n []

-- a cell without a token is empty
abbrev pub SpellsCellAt : Option (List ℕ) → Option ℕ → Type 0
SpellsCellAt None held = held ≡ None
SpellsCellAt (Some token) held = SpellsCell token held

-- a suit without a token has no card home
abbrev pub SpellsHomeIn : List (List ℕ) → ℕ → ℕ → Type 0
SpellsHomeIn tokens s n =
    ((token : List ℕ) × Contains tokens token × SpellsHome token s n)
    ⊎ (((token : List ℕ) (m : ℕ) → Contains tokens token → SpellsHome token s m → ⊥) × (n ≡ 0))

-- the lines spell the board: the n-th column line its n-th column, and so on
pub record SpellsBoard (lines : List Line) (b : Board) : Type 0 where
  pub shape : IsShaped b
  pub columns : (i : ℕ) → i < 8 → AllZip SpellsCard (tokens_at lines Column i) (column b i)
  pub cells : (i : ℕ) → i < 4 → SpellsCellAt (slice_get (tokens_at lines Freecells 0) i) (cell b i)
  pub homes : (s : ℕ) → s < 4 → SpellsHomeIn (tokens_at lines Foundations 0) s (home b s)
