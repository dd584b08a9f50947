-- What is wrong with a line, and with a text.
use Rattle.std.specs.Prelude.{◌≡◌, ℕ, ◌+◌, ◌<◌, ◌≤◌, ◌⊎◌, List, ◌∷◌, ◌++◌, length, Contains, slice_get, Some, count_by}
use Rattle.fc_text.specs.Line.{Line}
use Rattle.fc_text.specs.Spelling.{SpellsCard, SpellsHome, IsMark, is_kind}
use Rattle.fc_text.specs.declared.faults.LineFault.{LineFault}
use Rattle.fc_text.specs.declared.faults.LineFault.TheVariants.{BadCard, BadFoundation, TooManyCells, TooManyColumns, RepeatedLine}
use Rattle.fc_text.specs.declared.lines.LineKind.{LineKind}
use Rattle.fc_text.specs.declared.lines.LineKind.TheVariants.{Foundations, Freecells, Column}

-- the token is no card's text
abbrev pub IsNoCard : List ℕ → Type 0
IsNoCard token = (c : ℕ) → SpellsCard token c → ⊥

-- the token tells of no foundation
abbrev pub IsNoHome : List ℕ → Type 0
IsNoHome token = (s n : ℕ) → s < 4 → SpellsHome token s n → ⊥

-- two of the tokens tell of one suit
pub record NamesSuitTwice (tokens : List (List ℕ)) : Type 0 where
  pub suit : ℕ
  pub below : suit < 4
  pub first : ℕ
  pub second : ℕ
  pub order : first < second
  pub one : (token : List ℕ) × (n : ℕ) × (slice_get tokens first ≡ Some token) × SpellsHome token suit n
  pub other : (token : List ℕ) × (n : ℕ) × (slice_get tokens second ≡ Some token) × SpellsHome token suit n

-- some token of a column is no card, or some token of the cells neither a card nor an empty cell
abbrev pub HasBadCard : LineKind → List (List ℕ) → Type 0
HasBadCard Foundations tokens = ⊥
HasBadCard Freecells tokens = (token : List ℕ) × Contains tokens token × IsNoCard token × (IsMark token → ⊥)
HasBadCard Column tokens = (token : List ℕ) × Contains tokens token × IsNoCard token

-- some token tells of no foundation, or of a suit that another told of
abbrev pub HasBadFoundation : LineKind → List (List ℕ) → Type 0
HasBadFoundation Foundations tokens = ((token : List ℕ) × Contains tokens token × IsNoHome token) ⊎ NamesSuitTwice tokens
HasBadFoundation Freecells tokens = ⊥
HasBadFoundation Column tokens = ⊥

-- there are more tokens than the game has cells
abbrev pub HasTooManyCells : ℕ → LineKind → List (List ℕ) → Type 0
HasTooManyCells n Foundations tokens = ⊥
HasTooManyCells n Freecells tokens = n < length tokens
HasTooManyCells n Column tokens = ⊥

-- there are cards past the eighth column
abbrev pub HasTooManyColumns : ℕ → LineKind → List (List ℕ) → Type 0
HasTooManyColumns before Foundations tokens = ⊥
HasTooManyColumns before Freecells tokens = ⊥
HasTooManyColumns before Column tokens = (8 ≤ before) × (0 < length tokens)

-- the foundations, or the cells, were told before
abbrev pub IsRepeated : ℕ → LineKind → Type 0
IsRepeated before Foundations = 0 < before
IsRepeated before Freecells = 0 < before
IsRepeated before Column = ⊥

-- of the faults of a line, of whose kind so many lines stand before it, the one with the lowest number
abbrev pub IsLineFault : ℕ → ℕ → Line → LineFault → Type 0
IsLineFault n before line BadCard = HasBadCard line.kind line.tokens
IsLineFault n before line BadFoundation = HasBadFoundation line.kind line.tokens
IsLineFault n before line TooManyCells = (HasBadCard line.kind line.tokens → ⊥) × HasTooManyCells n line.kind line.tokens
IsLineFault n before line TooManyColumns =
    (HasBadCard line.kind line.tokens → ⊥) × HasTooManyColumns before line.kind line.tokens
IsLineFault n before line RepeatedLine =
    (HasBadCard line.kind line.tokens → ⊥) × (HasBadFoundation line.kind line.tokens → ⊥)
    × (HasTooManyCells n line.kind line.tokens → ⊥) × IsRepeated before line.kind

-- a line without a fault
abbrev pub IsSound : ℕ → ℕ → Line → Type 0
IsSound n before line = (fault : LineFault) → IsLineFault n before line fault → ⊥

-- each line is without a fault
abbrev pub AreSound : ℕ → List Line → Type 0
AreSound n lines = (front rest : List Line) (line : Line) → lines ≡ front ++ line ∷ rest
    → IsSound n (count_by (is_kind line.kind) front) line

-- the first line with a fault, its number from 1, and its fault
pub record IsFirstFault (n : ℕ) (lines : List Line) (number : ℕ) (fault : LineFault) : Type 0 where
  pub front : List Line
  pub line : Line
  pub rest : List Line
  pub parts : lines ≡ front ++ line ∷ rest
  pub place : number ≡ length front + 1
  pub sound : AreSound n front
  pub here : IsLineFault n (count_by (is_kind line.kind) front) line fault
