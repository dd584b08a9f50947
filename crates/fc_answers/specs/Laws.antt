-- What the laws of this crate state.
use Rattle.std.specs.Prelude.{◌≡◌, ◌↔◌, ℕ, List, None, AllPairs}
use Rattle.fc_position.specs.Board.{Board}
use Rattle.fc_moves.specs.GameRules.{GameRules}
use Rattle.fc_moves.specs.Class.{SameClass}
use Rattle.fc_canonical.specs.Spelled.{board_of_bytes}
use Rattle.fc_answers.specs.declared.answers.Answer.{Answer}
use Rattle.fc_answers.specs.Answer.{HasGivenUp, IsBacked}
use Rattle.fc_answers.specs.Table.{AreClasses, HaveKeysOnce, IsRising}
use Rattle.fc_answers.specs.declared.closed_tables.TheConstants.{MOST_CLASSES}
use Rattle.fc_answers.specs.declared.answers.TheConstants.{MOST_MOVES}

-- no two of the rows' keys spell boards of one class, where the rows rise and are of classes of the game
abbrev pub RisingRowsListClassesOnce : Type 0
RisingRowsListClassesOnce = (g : GameRules) (rows : List (List ℕ × ℕ)) → AreClasses g rows → IsRising rows
    → AllPairs (λ x y. SameClass (board_of_bytes x.0) (board_of_bytes y.0) → ⊥) rows

-- rising rows have no key twice
abbrev pub RisingRowsHaveKeysOnce : Type 0
RisingRowsHaveKeysOnce = (rows : List (List ℕ × ℕ)) → IsRising rows → HaveKeysOnce rows

-- only giving up is uncertified: a backed answer has no table exactly where its verdict gave up
abbrev pub OnlyGivingUpIsUncertified : Type 0
OnlyGivingUpIsUncertified = (g : GameRules) (b : Board) (answer : Answer) → IsBacked g b answer
    → (answer.table ≡ None) ↔ HasGivenUp answer.verdict

-- how many classes a table lists at most, and how many moves a list that is written has
abbrev pub NumbersAreTold : Type 0
NumbersAreTold = (MOST_CLASSES ≡ 16000000) × (MOST_MOVES ≡ 16001000)
