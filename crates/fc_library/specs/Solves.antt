-- What the answers of searches by a method promise, told in memory.
use Rattle.std.specs.Prelude.{◌≡◌, ℕ, List}
use Rattle.fc_position.specs.Board.{Board}
use Rattle.fc_methods.specs.Method.{QuestionData}
use Rattle.fc_methods.specs.declared.methods.Method.{Method}
use Rattle.fc_methods.specs.declared.methods.Sought.TheVariants.{ByMethod}
use Rattle.fc_library.specs.Answers.{IsAnswerCertified, IsAnswerTold}
use Rattle.fc_library.specs.Boards.{IsTextFault, SpellsOnceTidy}
use Rattle.fc_library.specs.Games.{IsNamed, game_named}
use Rattle.fc_library.specs.Methods.{IsMethodOf, IsMethodRefused}
use Rattle.fc_library.specs.declared.game_names.GameName.{GameName}
use Rattle.fc_library.specs.declared.method_names.MethodName.{MethodName}
use Rattle.fc_library.specs.declared.told_answers.Certified.{Certified}
use Rattle.fc_library.specs.declared.told_answers.Told.{Told}
use Rattle.fc_library.specs.declared.call_refusals.CallRefusal.{CallRefusal}
use Rattle.fc_library.specs.declared.call_refusals.CallRefusal.TheVariants as refused

-- what is asked can be, and is this: the question by the method of the game and the method that are named, and the position that the
-- text spells
pub record CanBeSolved (name : GameName) (by : MethodName) (text : List ℕ) (q : QuestionData) (start : Board) : Type 0 where
  pub named : IsNamed name
  pub game : q.game ≡ game_named name
  pub sought : q.sought ≡ ByMethod
  pub method : IsMethodOf by q.method
  pub spelled : SpellsOnceTidy name.cells text start

-- a board was answered
abbrev pub IsSolvedTold : GameName → MethodName → List ℕ → Told → Type 0
IsSolvedTold name method text told = (q : QuestionData) × (start : Board) × CanBeSolved name method text q start × IsAnswerTold q start told

-- and by its certificate
abbrev pub IsSolvedCertified : GameName → MethodName → List ℕ → Certified → Type 0
IsSolvedCertified name method text told = (q : QuestionData) × (start : Board) × CanBeSolved name method text q start × IsAnswerCertified q start told

-- why a board wasn't answered, each fault only where those before it have no cause
abbrev pub IsSolveRefused : GameName → MethodName → List ℕ → CallRefusal → Type 0
IsSolveRefused name by text refused.Game = IsNamed name → ⊥
IsSolveRefused name by text (refused.Board fault) = IsNamed name × ((method : Method) × IsMethodOf by method) × IsTextFault name.cells text fault
IsSolveRefused name by text refused.Memory = (q : QuestionData) × (start : Board) × CanBeSolved name by text q start
IsSolveRefused name by text other = IsNamed name × IsMethodRefused by other
