-- What is found of a list of moves, and what is written of it.
use Rattle.std.specs.Prelude.{◌≡◌, ◌<◌, ◌⊎◌, ℕ, List, [], ◌++◌, length, Option, IfSome, IsTrue, MatchOption, codes, false, slice_get}
use Rattle.fc_io.specs.Moves.{TakesBytes, TakesFront}
use Rattle.fc_position.specs.Board.{Board}
use Rattle.fc_moves.specs.declared.steps.Move.{Move}
use Rattle.fc_moves.specs.GameRules.{GameRules}
use Rattle.fc_moves.specs.MoveText.{move_text}
use Rattle.fc_moves.specs.Run.{Wins}
use Rattle.fc_replay.specs.Telling.{move_phrase, told_move}
use Rattle.fc_answers.specs.declared.answers.TheConstants.{MOST_MOVES}
use Rattle.fc_methods.specs.Method.{QuestionData}
use Rattle.fc_board_runs.specs.declared.faults.Output.TheVariants.{Answer as of_answer}
use Rattle.fc_board_runs.specs.declared.faults.ProgramFault.{ProgramFault}
use Rattle.fc_board_runs.specs.declared.faults.ProgramFault.TheVariants.{Memory, Write}
use Rattle.fc_board_runs.specs.Devices.{Device, IsUntouched}
use Rattle.fc_review.specs.Hands.{IsByHand}
use Rattle.fc_review.specs.Rating.{IsRating, IsUnrated}
use Rattle.fc_review.specs.Review.{IsBoardAfter, IsReview}
use Rattle.fc_review.specs.Texts.{losing_of, rating_status, rating_text, review_status, review_text}
use Rattle.fc_review.specs.declared.findings.Finding.{Finding}
use Rattle.fc_review.specs.declared.findings.Finding.TheVariants.{Rated, Traced}
use Rattle.fc_review.specs.declared.reviews.Review.{Review}

-- of a list that wins, how good it is, and how many of its entries are by hand; of one that doesn't, or that has more moves than an
-- answer may have, what is known of its boards. A sink of certificates takes one of a list that wins alone
abbrev pub IsFinding : QuestionData → Board → List Move → Option Device → Finding → Type 0
IsFinding q b moves cert (Rated rating by_hand) = Wins q.game b moves × IsRating q b moves cert rating × IsByHand q.method.rule q.game b moves by_hand
IsFinding q b moves cert (Traced review) = (Wins q.game b moves → MOST_MOVES < length moves) × IsReview q b moves review × IfSome cert IsUntouched

-- a move is named from the board before it: by its two letters, and in words in brackets
abbrev pub named_text : Board → Move → List ℕ
named_text b m = move_text m ++ codes " (" ++ move_phrase false (told_move 1 b m) ++ codes ")"

-- a text names the move that a review says loses; it is empty where no move is named
abbrev pub NamesLosing : GameRules → Board → List Move → Review → List ℕ → Type 0
NamesLosing g b moves review text = MatchOption (losing_of review.won review.lost) (text ≡ [])
    (λ place. MatchOption (slice_get moves place) (text ≡ []) (λ m. (before : Board) × IsBoardAfter g b moves place before × (text ≡ named_text before m)))

-- the line that tells what is found
abbrev pub TellsFinding : GameRules → Board → List Move → Finding → List ℕ → Type 0
TellsFinding g b moves (Rated rating by_hand) text = text ≡ rating_text (length moves) by_hand rating
TellsFinding g b moves (Traced review) text = (losing : List ℕ) × NamesLosing g b moves review losing × (text ≡ review_text losing (length moves) review)

-- the exit status that goes with it
abbrev pub finding_status : List Move → Finding → ℕ
finding_status moves (Rated rating by_hand) = rating_status rating
finding_status moves (Traced review) = review_status (length moves) review

-- a sink took the line of what is found, and the status is its own
pub record IsFindingTold (g : GameRules) (b : Board) (moves : List Move) (finding : Finding) (sink : Device) (status : ℕ) : Type 0 where
  pub text : List ℕ
  pub tells : TellsFinding g b moves finding text
  pub taken : TakesBytes sink.old sink.new text
  pub sound : IsTrue sink.failed → ⊥
  pub own : status ≡ finding_status moves finding

-- why what is found isn't told: a growth was refused, and nothing is written; or the line couldn't be, of which a front may be
abbrev pub IsFindingUntold : GameRules → Board → List Move → Finding → Device → ProgramFault → Type 0
IsFindingUntold g b moves finding sink Memory = IsUntouched sink
IsFindingUntold g b moves finding sink (Write of_answer) = (text : List ℕ) × TellsFinding g b moves finding text × TakesFront sink.old sink.new text × IsTrue sink.failed
IsFindingUntold g b moves finding sink other = ⊥

-- a list was reviewed: something is found of it, and told
abbrev pub IsReviewed : QuestionData → Board → List Move → Option Device → Device → ℕ → Type 0
IsReviewed q b moves cert sink status = (finding : Finding) × IsFinding q b moves cert finding × IsFindingTold q.game b moves finding sink status

-- why a list wasn't reviewed: nothing is found of it, and no line is written; or what is found isn't told
abbrev pub IsUnreviewed : QuestionData → Board → List Move → Option Device → Device → ProgramFault → Type 0
IsUnreviewed q b moves cert sink fault = (IsUnrated q b moves cert fault × IsUntouched sink)
    ⊎ ((finding : Finding) × IsFinding q b moves cert finding × IsFindingUntold q.game b moves finding sink fault)
