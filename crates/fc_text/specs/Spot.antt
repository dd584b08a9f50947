-- Where in a text its fault lies: the line and the token.
use Rattle.std.specs.Prelude.{◌≡◌, ◌≢◌, ℕ, ◌+◌, ◌<◌, ◌⊎◌, List, [], ◌∷◌, ◌++◌, length, Contains}
use Rattle.fc_text.specs.Line.{Line, board_lines}
use Rattle.fc_text.specs.Fault.{IsNoCard, IsNoHome}
use Rattle.fc_text.specs.Spelling.{SpellsCard, SpellsHome, IsMark}
use Rattle.fc_text.specs.declared.faults.BoardFault.{BoardFault}
use Rattle.fc_text.specs.declared.faults.BoardFault.TheVariants.{TooLong, BadCard, BadFoundation, TooManyCells, TooManyColumns, RepeatedLine, RepeatedCard, MissingCard}
use Rattle.fc_text.specs.declared.faults.LineFault.{LineFault}
use Rattle.fc_text.specs.declared.lines.LineKind.{LineKind}
use Rattle.fc_text.specs.declared.lines.LineKind.TheVariants.{Foundations, Freecells, Column}

-- the token names the suit
abbrev pub NamesSuit : ℕ → List ℕ → Type 0
NamesSuit s token = (n : ℕ) × SpellsHome token s n

-- one of the tokens names the suit
abbrev pub HasNamed : ℕ → List (List ℕ) → Type 0
HasNamed s tokens = (token : List ℕ) × Contains tokens token × NamesSuit s token

-- the token is no foundation, or names a suit that one of those before names too
abbrev pub IsBadHome : List (List ℕ) → List ℕ → Type 0
IsBadHome before token = IsNoHome token ⊎ ((s : ℕ) × (s < 4) × NamesSuit s token × HasNamed s before)

-- the token is neither a card nor a cell's mark
abbrev pub IsBadCell : List ℕ → Type 0
IsBadCell token = IsNoCard token × (IsMark token → ⊥)

-- a token by which a line of this kind, of a game with n cells, has the fault, behind these tokens
abbrev pub IsBadToken : ℕ → LineFault → LineKind → List (List ℕ) → List ℕ → Type 0
IsBadToken n LineFault.BadCard Column before token = IsNoCard token
IsBadToken n LineFault.BadCard Freecells before token = IsBadCell token
IsBadToken n LineFault.BadCard Foundations before token = ⊥
IsBadToken n LineFault.BadFoundation Foundations before token = IsBadHome before token
IsBadToken n LineFault.BadFoundation Freecells before token = ⊥
IsBadToken n LineFault.BadFoundation Column before token = ⊥
IsBadToken n LineFault.TooManyCells kind before token = (kind ≡ Freecells) × (length before ≡ n)
IsBadToken n LineFault.TooManyColumns kind before token = (kind ≡ Column) × (before ≡ [])
IsBadToken n LineFault.RepeatedLine kind before token = ⊥

-- by none of these tokens a line has the fault
abbrev pub NoneIsBad : ℕ → LineFault → LineKind → List (List ℕ) → Type 0
NoneIsBad n fault kind tokens = (before behind : List (List ℕ)) (token : List ℕ) → tokens ≡ before ++ token ∷ behind
    → IsBadToken n fault kind before token → ⊥

-- the first token by which a line has the fault, its number from 1
pub record IsFirstBad (n : ℕ) (fault : LineFault) (line : Line) (place : ℕ) (token : List ℕ) : Type 0 where
  pub before : List (List ℕ)
  pub behind : List (List ℕ)
  pub parts : line.tokens ≡ before ++ token ∷ behind
  pub number : place ≡ length before + 1
  pub here : IsBadToken n fault line.kind before token
  pub first : NoneIsBad n fault line.kind before

-- this line has this number, from 1, between those above and those below
pub record HasLine (lines : List Line) (number : ℕ) (line : Line) : Type 0 where
  pub above : List Line
  pub below : List Line
  pub parts : lines ≡ above ++ line ∷ below
  pub place : number ≡ length above + 1

-- where a line's fault lies: at the first token by which the line with this number has it
abbrev pub IsSpotIn : ℕ → List ℕ → LineFault → ℕ → ℕ → List ℕ → Type 0
IsSpotIn n text fault number place token =
    (line : Line) × HasLine (board_lines text) number line × IsFirstBad n fault line place token

-- where a text's fault lies, if it lies at a token: the numbers of the line and of the token, and the token
abbrev pub IsSpot : ℕ → List ℕ → BoardFault → ℕ → ℕ → List ℕ → Type 0
IsSpot n text TooLong number place token = ⊥
IsSpot n text (BadCard k) number place token = (number ≡ k) × IsSpotIn n text LineFault.BadCard number place token
IsSpot n text (BadFoundation k) number place token = (number ≡ k) × IsSpotIn n text LineFault.BadFoundation number place token
IsSpot n text (TooManyCells k) number place token = (number ≡ k) × IsSpotIn n text LineFault.TooManyCells number place token
IsSpot n text (TooManyColumns k) number place token = (number ≡ k) × IsSpotIn n text LineFault.TooManyColumns number place token
IsSpot n text (RepeatedLine k) number place token = ⊥
IsSpot n text (RepeatedCard c) number place token = ⊥
IsSpot n text (MissingCard c) number place token = ⊥

-- the fault lies at no token: the text is too long, a line tells again what one told, or a card stands twice or nowhere
abbrev pub LiesAtNone : BoardFault → Type 0
LiesAtNone TooLong = Unit {0}
LiesAtNone (BadCard k) = ⊥
LiesAtNone (BadFoundation k) = ⊥
LiesAtNone (TooManyCells k) = ⊥
LiesAtNone (TooManyColumns k) = ⊥
LiesAtNone (RepeatedLine k) = Unit {0}
LiesAtNone (RepeatedCard c) = Unit {0}
LiesAtNone (MissingCard c) = Unit {0}

-- one of the tokens spells the card
abbrev pub HasSpelled : ℕ → List (List ℕ) → Type 0
HasSpelled c tokens = (token : List ℕ) × Contains tokens token × SpellsCard token c

-- the line is a column or cells, and has the card
abbrev pub HasCard : ℕ → Line → Type 0
HasCard c line = (line.kind ≢ Foundations) × HasSpelled c line.tokens

-- none of the lines has the card
abbrev pub NoneHasCard : ℕ → List Line → Type 0
NoneHasCard c lines = (line : Line) → Contains lines line → HasCard c line → ⊥

-- this token, with its number from 1, spells the card, between those before and behind
pub record IsSpelled (c : ℕ) (tokens : List (List ℕ)) (place : ℕ) (token : List ℕ) : Type 0 where
  pub before : List (List ℕ)
  pub behind : List (List ℕ)
  pub parts : tokens ≡ before ++ token ∷ behind
  pub number : place ≡ length before + 1
  pub here : SpellsCard token c

-- the first of the tokens that spells the card
abbrev pub IsFirstSpelled : ℕ → List (List ℕ) → ℕ → List ℕ → Type 0
IsFirstSpelled c tokens place token = (there : IsSpelled c tokens place token) × (HasSpelled c there.before → ⊥)

-- the last of the tokens that spells the card
abbrev pub IsLastSpelled : ℕ → List (List ℕ) → ℕ → List ℕ → Type 0
IsLastSpelled c tokens place token = (there : IsSpelled c tokens place token) × (HasSpelled c there.behind → ⊥)

-- the first token at which a column or cells have the card
abbrev pub IsFirstIn : ℕ → Line → ℕ → List ℕ → Type 0
IsFirstIn c line place token = (line.kind ≢ Foundations) × IsFirstSpelled c line.tokens place token

-- the last token at which a column or cells have the card
abbrev pub IsLastIn : ℕ → Line → ℕ → List ℕ → Type 0
IsLastIn c line place token = (line.kind ≢ Foundations) × IsLastSpelled c line.tokens place token

-- the first token at which one of the lines has the card, and the number of the line
abbrev pub IsFirstOf : List Line → ℕ → ℕ → ℕ → List ℕ → Type 0
IsFirstOf lines c number place token =
    (line : Line) × IsFirstIn c line place token × ((there : HasLine lines number line) × NoneHasCard c there.above)

-- the last token at which one of the lines has the card, and the number of the line
abbrev pub IsLastOf : List Line → ℕ → ℕ → ℕ → List ℕ → Type 0
IsLastOf lines c number place token =
    (line : Line) × IsLastIn c line place token × ((there : HasLine lines number line) × NoneHasCard c there.below)

-- the first token of a column or a cell that spells the card
abbrev pub IsFirstSpot : List ℕ → ℕ → ℕ → ℕ → List ℕ → Type 0
IsFirstSpot text c number place token = IsFirstOf (board_lines text) c number place token

-- the last token of a column or a cell that spells the card
abbrev pub IsLastSpot : List ℕ → ℕ → ℕ → ℕ → List ℕ → Type 0
IsLastSpot text c number place token = IsLastOf (board_lines text) c number place token

-- no column and no cell has the card
abbrev pub TellsNowhere : List ℕ → ℕ → Type 0
TellsNowhere text c = NoneHasCard c (board_lines text)
