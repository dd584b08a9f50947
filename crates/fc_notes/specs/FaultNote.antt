-- Where a board's fault lies and what would mend it.
use Rattle.std.specs.Prelude.{◌≡◌, ℕ, ◌≤◌, List, length, Option, Some, None, min}
use Rattle.fc_position.specs.Board.{Board}
use Rattle.fc_text.specs.Board.{Spells, IsBoardFault}
use Rattle.fc_text.specs.Spot.{IsFirstSpot, IsLastSpot, IsSpot, LiesAtNone, TellsNowhere}
use Rattle.fc_text.specs.declared.faults.BoardFault.{BoardFault}
use Rattle.fc_text.specs.declared.faults.BoardFault.TheVariants.{BadCard, BadFoundation, TooManyCells, TooManyColumns, RepeatedCard, MissingCard}
use Rattle.fc_typed.specs.Guess.{AreCounts, AreMissing, LacksFirstOfEach, TellsNoCard, with_foundations}
use Rattle.fc_typed.specs.Typed.{typed_word}
use Rattle.fc_typed.specs.declared.tidy_texts.TheConstants.{MOST_BYTES}
use Rattle.fc_notes.specs.FileLine.{IsFileLine}
use Rattle.fc_notes.specs.TokenNote.{reason_of, shown_token}
use Rattle.fc_notes.specs.declared.reasons.Reason.{Reason}
use Rattle.fc_notes.specs.declared.board_texts.BoardText.{BoardText}
use Rattle.fc_notes.specs.declared.fault_notes.TokenPlace.{TokenPlace}
use Rattle.fc_notes.specs.declared.fault_notes.FaultNote.{FaultNote}
use Rattle.fc_notes.specs.declared.fault_notes.FaultNote.TheVariants.{AtHome, Twice, Guess, Missing, Token}

-- the token with this number stands here, in the file's line of which the tidy text's line with this number is made
abbrev pub IsPlaceOf : BoardText → ℕ → ℕ → TokenPlace → Type 0
IsPlaceOf text line place p = IsFileLine text.typed.now text.above (min line 4294967295) p.line × (p.place ≡ place)

-- the card's first token stands here
abbrev pub IsFirstPlace : BoardText → ℕ → TokenPlace → Type 0
IsFirstPlace text c p = (line place : ℕ) × (token : List ℕ) × IsFirstSpot text.tidy.now c line place token × IsPlaceOf text line place p

-- the card's last token stands here
abbrev pub IsLastPlace : BoardText → ℕ → TokenPlace → Type 0
IsLastPlace text c p = (line place : ℕ) × (token : List ℕ) × IsLastSpot text.tidy.now c line place token × IsPlaceOf text line place p

-- two places are one
abbrev pub IsSamePlace : TokenPlace → TokenPlace → Type 0
IsSamePlace p q = (p.line ≡ q.line) × (p.place ≡ q.place)

-- where a card stands that has two places or more: at one token, and so at home too, or at its first and its last
abbrev pub IsPlacesNote : BoardText → ℕ → Option FaultNote → Type 0
IsPlacesNote text c None = TellsNowhere text.tidy.now c
IsPlacesNote text c (Some (AtHome p card)) = (card ≡ c) × IsFirstPlace text c p × IsLastPlace text c p
IsPlacesNote text c (Some (Twice p q card)) = (card ≡ c) × IsFirstPlace text c p × IsLastPlace text c q × (IsSamePlace p q → ⊥)
IsPlacesNote text c (Some FaultNote.TooLong) = ⊥
IsPlacesNote text c (Some (FaultNote.RepeatedLine k)) = ⊥
IsPlacesNote text c (Some (Guess g)) = ⊥
IsPlacesNote text c (Some (Missing cards)) = ⊥
IsPlacesNote text c (Some (Token p token reason)) = ⊥

-- the foundation line that makes the text a board, or the cards that are missing where none does
abbrev pub IsMissingNote : ℕ → List ℕ → FaultNote → Type 0
IsMissingNote n text (Guess g) =
    ((counts : List ℕ) × LacksFirstOfEach text counts × (g ≡ with_foundations counts text)) × ((b : Board) × Spells n g b)
IsMissingNote n text (Missing cards) = AreMissing text cards.items
    × ((TellsNoCard text → ⊥) → (counts : List ℕ) (b : Board) → AreCounts counts → Spells n (with_foundations counts text) b → ⊥)
IsMissingNote n text (AtHome p card) = ⊥
IsMissingNote n text (Twice p q card) = ⊥
IsMissingNote n text FaultNote.TooLong = ⊥
IsMissingNote n text (FaultNote.RepeatedLine k) = ⊥
IsMissingNote n text (Token p token reason) = ⊥

-- the fault lies at the token that is told: here it stands, so it is shown, and this is the reason
pub record IsToken (n : ℕ) (text : BoardText) (fault : BoardFault) (p : TokenPlace) (token : List ℕ) (reason : Reason) : Type 0 where
  pub line : ℕ
  pub place : ℕ
  pub spelled : List ℕ
  pub spot : IsSpot n text.tidy.now fault line place spelled
  pub stands : IsPlaceOf text line place p
  pub shown : length text.typed.now ≤ MOST_BYTES → token ≡ shown_token (typed_word text.typed.now line spelled) spelled
  pub why : reason ≡ reason_of fault place spelled

-- where the fault of a line lies
abbrev pub IsTokenNote : ℕ → BoardText → BoardFault → Option FaultNote → Type 0
IsTokenNote n text fault None = IsBoardFault n text.tidy.now fault → LiesAtNone fault
IsTokenNote n text fault (Some (Token p token reason)) = IsToken n text fault p token.now reason
IsTokenNote n text fault (Some FaultNote.TooLong) = ⊥
IsTokenNote n text fault (Some (FaultNote.RepeatedLine k)) = ⊥
IsTokenNote n text fault (Some (AtHome p card)) = ⊥
IsTokenNote n text fault (Some (Twice p q card)) = ⊥
IsTokenNote n text fault (Some (Guess g)) = ⊥
IsTokenNote n text fault (Some (Missing cards)) = ⊥

-- what is said of a fault
abbrev pub IsFaultNote : ℕ → BoardText → BoardFault → Option FaultNote → Type 0
IsFaultNote n text BoardFault.TooLong note = note ≡ Some FaultNote.TooLong
IsFaultNote n text (BoardFault.RepeatedLine k) note =
    (number : ℕ) × IsFileLine text.typed.now text.above k number × (note ≡ Some (FaultNote.RepeatedLine number))
IsFaultNote n text (RepeatedCard c) note = IsPlacesNote text c note
IsFaultNote n text (MissingCard c) note = (said : FaultNote) × (note ≡ Some said) × IsMissingNote n text.tidy.now said
IsFaultNote n text (BadCard k) note = IsTokenNote n text (BadCard k) note
IsFaultNote n text (BadFoundation k) note = IsTokenNote n text (BadFoundation k) note
IsFaultNote n text (TooManyCells k) note = IsTokenNote n text (TooManyCells k) note
IsFaultNote n text (TooManyColumns k) note = IsTokenNote n text (TooManyColumns k) note
