-- What holds of each command that is read.
use Rattle.std.specs.Prelude.{◌≡◌, ◌≤◌, ◌⊎◌, ℕ, List, Some, codes, option_map, slice_get}
use Rattle.std.specs.Borrow.{Bor}
use Rattle.fc_words.specs.Names.{task_name}
use Rattle.fc_words.specs.declared.tasks.Task.{Task}
use Rattle.fc_words.specs.declared.commands.Command.{Command}
use Rattle.fc_words.specs.declared.commands.Command.TheVariants.{Deal, Show, Best, Hint, Solve, Check, Replay, Review, Batch}
use Rattle.fc_words.specs.declared.commands.BatchBoards.{BatchBoards}
use Rattle.fc_words.specs.declared.commands.BatchBoards.TheVariants.{Deals, Files}
use Rattle.fc_words.specs.declared.commands.ReviewLists.{ReviewLists}
use Rattle.fc_words.specs.declared.commands.ReviewLists.TheVariants.{One}
use Rattle.fc_words.specs.declared.commands.ReviewLists.TheVariants as lists
use Rattle.fc_words.specs.declared.commands.BoardWord.TheVariants.{Input}
use Rattle.fc_words.specs.declared.commands.FileWord.TheVariants as file
use Rattle.fc_words.specs.declared.commands.BoardWord.{BoardWord}
use Rattle.fc_words.specs.declared.commands.FileWord.{FileWord}
use Rattle.fc_words.specs.declared.options.TheConstants.{MOST_CELLS}

-- the board and what is read beside it, moves or a certificate, aren't both standard input
abbrev pub HasOneInput : BoardWord → FileWord → Type 0
HasOneInput board word = board ≡ Input → word ≡ file.Input → ⊥

-- of these files at most one is standard input
abbrev pub HasInputOnce : List (Bor (List ℕ)) → Type 0
HasInputOnce files = (i j : ℕ) → option_map (λ s. s.now) (slice_get files i) ≡ Some (codes "-") → option_map (λ s. s.now) (slice_get files j) ≡ Some (codes "-") → i ≡ j

-- a batch reads standard input once
abbrev pub ReadsInputOnce : BatchBoards → Type 0
ReadsInputOnce (Deals _ _) = Unit
ReadsInputOnce (Files paths) = HasInputOnce paths.items

-- a review reads standard input once
abbrev pub ReviewsInputOnce : ReviewLists → Type 0
ReviewsInputOnce (One board moves) = HasOneInput board.word moves
ReviewsInputOnce (lists.Files paths) = HasInputOnce paths.items

-- a game has four cells at most, and no command reads two things from standard input
abbrev pub IsSoundCommand : Command → Type 0
IsSoundCommand (Deal _) = Unit
IsSoundCommand (Show words) = words.game.cells ≤ MOST_CELLS
IsSoundCommand (Best words) = words.game.cells ≤ MOST_CELLS
IsSoundCommand (Hint words) = words.game.cells ≤ MOST_CELLS
IsSoundCommand (Solve words) = words.game.cells ≤ MOST_CELLS
IsSoundCommand (Check words) = (words.game.cells ≤ MOST_CELLS) × HasOneInput words.board.word words.cert
IsSoundCommand (Replay words) = (words.game.cells ≤ MOST_CELLS) × HasOneInput words.board.word words.moves
IsSoundCommand (Review words) = (words.game.cells ≤ MOST_CELLS) × ReviewsInputOnce words.lists
IsSoundCommand (Batch words) = (words.game.cells ≤ MOST_CELLS) × ReadsInputOnce words.boards

-- the name of a task's subcommand, or of clap's own
abbrev pub IsSubcommand : List ℕ → Type 0
IsSubcommand word = (word ≡ codes "help") ⊎ ((task : Task) × (task_name task ≡ word))
