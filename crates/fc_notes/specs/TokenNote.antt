-- What is wrong with the token at which a board's fault lies, and how it is shown.
use Rattle.std.specs.Prelude.{ℕ, ◌==◌, ◌||◌, ◌&&◌, Bool, false, cond, List, [], ◌∷◌, Option, Some, None, codes, nat_lt}
use Rattle.std.specs.Char.{is_ascii_digit}
use Rattle.std.specs.List.{list_all, list_any}
use Rattle.std.specs.Str.{bytes_eq}
use Rattle.fc_text.specs.declared.faults.BoardFault.{BoardFault}
use Rattle.fc_text.specs.declared.faults.BoardFault.TheVariants.{TooLong, BadCard, BadFoundation, TooManyCells, TooManyColumns, RepeatedLine, RepeatedCard, MissingCard}
use Rattle.fc_notes.specs.declared.reasons.Reason.{Reason}
use Rattle.fc_notes.specs.declared.reasons.Reason.TheVariants.{OfSolver, Label, NoCard, NoFoundation, PastCells, NinthColumn}

-- the words that lines of Freecell Solver begin with, other than those of a board
abbrev pub solvers_words : List (List ℕ)
solvers_words = codes "Move" ∷ codes "This" ∷ codes "Total" ∷ codes "I" ∷ codes "Iteration:" ∷ codes "Depth:"
    ∷ codes "Stored-States:" ∷ codes "Scan:" ∷ codes "Standard" ∷ []

-- a token begins a line that a solver draws: `==`, `-=` or `--`
abbrev pub begins_drawn : List ℕ → Bool
begins_drawn (a ∷ b ∷ bytes) = ((a == 61) && (b == 61)) || (((a == 45) && (b == 61)) || ((a == 45) && (b == 45)))
begins_drawn token = false

-- a token is one that solvers print beside boards, first in its line
abbrev pub is_of_solver : ℕ → List ℕ → Bool
is_of_solver place token = (place == 1) && (begins_drawn token || list_any (λ word. bytes_eq word token) solvers_words)

-- a token is a number with a colon
abbrev pub is_label : List ℕ → Bool
is_label (a ∷ b ∷ bytes) = is_ascii_digit a && (b == 58)
is_label token = false

-- why a token with this number in its line makes the line faulty
abbrev pub reason_of : BoardFault → ℕ → List ℕ → Reason
reason_of (BadCard n) place token = cond (is_of_solver place token) OfSolver (cond (is_label token) Label NoCard)
reason_of (BadFoundation n) place token = NoFoundation
reason_of (TooManyCells n) place token = PastCells
reason_of (TooManyColumns n) place token = NinthColumn
reason_of (RepeatedLine n) place token = NinthColumn
reason_of TooLong place token = NinthColumn
reason_of (RepeatedCard c) place token = NinthColumn
reason_of (MissingCard c) place token = NinthColumn

-- a word has no sign, which has bytes from 128 on
abbrev pub are_plain : List ℕ → Bool
are_plain word = list_all (λ b. nat_lt b 128) word

-- a token is shown as it was typed, where that is known and has no sign
abbrev pub shown_token : Option (List ℕ) → List ℕ → List ℕ
shown_token None token = token
shown_token (Some word) token = cond (are_plain word) word token
