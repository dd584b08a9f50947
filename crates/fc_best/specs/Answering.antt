-- What is answered of a question: what one search by its method answers, or its best answer.
use Rattle.std.specs.Prelude.{List}
use Rattle.fc_position.specs.Board.{Board}
use Rattle.fc_moves.specs.GameRules.{GameRules}
use Rattle.fc_moves.specs.Run.{Wins}
use Rattle.fc_answers.specs.Answer.{IsBacked, IsSearchedBy}
use Rattle.fc_answers.specs.Verdict.{CanBeWritten, HasFewMoves}
use Rattle.fc_answers.specs.declared.answers.Answer.{Answer}
use Rattle.fc_answers.specs.declared.answers.Verdict.{Verdict}
use Rattle.fc_answers.specs.declared.answers.Verdict.TheVariants.{Shortest, Won, CannotWin, GaveUp}
use Rattle.fc_best_first.specs.Limits.{IsEven}
use Rattle.fc_methods.specs.Method.{QuestionData}
use Rattle.fc_methods.specs.declared.methods.Sought.{Sought}
use Rattle.fc_methods.specs.declared.methods.Sought.TheVariants.{ByMethod, Best}
use Rattle.fc_search.specs.Problem.{Problem, problem_of}
use Rattle.fc_search.specs.Search.{IsOneOfThree, IsRunToEnd, IsVerdict}
use Rattle.fc_search.specs.Watch.{Report, HearsAll, HearsFar, IsHeardAtMost, IsHeardToEnd}
use Rattle.fc_search.specs.declared.listeners.Progress.{Progress}
use Rattle.fc_best.specs.Best.{IsBestVerdict}
use Rattle.fc_best.specs.Watch.{HearsToEnd, HearsTold}

-- the verdict is right for the problem, and that of a search of it that ran to its end; by weight 1 it is one of three
pub record IsDecided (p : Problem) (verdict : Verdict) : Type 0 where
  pub right : IsVerdict p verdict
  pub ran : IsRunToEnd p verdict
  pub three : IsEven p.method.strategy.weight → IsOneOfThree p.game p.start p.method.strategy.budget verdict

-- a verdict is what was sought of a board: that of a search by the question's method, or a best one
abbrev pub IsSought : Sought → QuestionData → Board → Verdict → Type 0
IsSought ByMethod q b verdict = IsDecided (problem_of q b) verdict
IsSought Best q b verdict = IsBestVerdict q b verdict

-- a verdict answers a question for a board
abbrev pub IsVerdictFor : QuestionData → Board → Verdict → Type 0
IsVerdictFor q b verdict = IsSought q.sought q b verdict

-- the list that a verdict tells, if it tells one, wins
abbrev pub TellsWins : GameRules → Board → Verdict → Type 0
TellsWins g b (Shortest moves) = Wins g b moves
TellsWins g b (Won moves floor) = Wins g b moves
TellsWins g b CannotWin = Unit {0}
TellsWins g b (GaveUp told) = Unit {0}

-- the answer can be certified as one of the problem: its list wins, can be written and is of few moves, and a table of the
-- problem's home rule and bound backs it
pub record IsCertifiable (p : Problem) (answer : Answer) : Type 0 where
  pub wins : TellsWins p.game p.start answer.verdict
  pub written : CanBeWritten answer.verdict
  pub few : HasFewMoves answer.verdict
  pub backed : IsBacked p.game p.start answer
  pub searched : IsSearchedBy p.method.rule p.method.bound p.method.strategy.budget answer

module _ {L : Type 0} (hears : L → Report → L → Type 0) where
  -- a listener hears of the search by the method, or of the searches for a best answer
  abbrev pub HearsOfThem : Sought → QuestionData → Board → L → L → Type 0
  HearsOfThem ByMethod q b old new = (heard : List Progress) × HearsAll (HearsFar hears) old heard new × IsHeardAtMost (problem_of q b) heard
  HearsOfThem Best q b old new = HearsTold hears q b old new

  -- it hears of them to their end, from which this is the verdict
  abbrev pub HearsVerdict : Sought → QuestionData → Board → Verdict → L → L → Type 0
  HearsVerdict ByMethod q b verdict old new = (heard : List Progress) × HearsAll (HearsFar hears) old heard new × IsHeardToEnd (problem_of q b) heard verdict
  HearsVerdict Best q b verdict old new = HearsToEnd hears q b verdict old new
