-- Texts of boards as people write them.
use Rattle.std.specs.Prelude.{◌≡◌, ◌⊎◌, ℕ, ◌<◌, ◌≤◌, List, length}
use Rattle.fc_position.specs.Board.{Board}
use Rattle.fc_text.specs.Board.{IsBoardFault, Spells}
use Rattle.fc_text.specs.declared.faults.BoardFault.{BoardFault}
use Rattle.fc_text.specs.declared.faults.BoardFault.TheVariants.{TooLong}
use Rattle.fc_typed.specs.Tidy.{tidy}
use Rattle.fc_typed.specs.declared.tidy_texts.TheConstants.{MOST_BYTES}

-- a text isn't too long to be made tidy, and then it spells the position, for a game with n cells
abbrev pub SpellsOnceTidy : ℕ → List ℕ → Board → Type 0
SpellsOnceTidy n text b = (length text ≤ MOST_BYTES) × Spells n (tidy text) b

-- why it spells none: it is too long to be made tidy, or its tidy text has the fault
abbrev pub IsTextFault : ℕ → List ℕ → BoardFault → Type 0
IsTextFault n text fault = ((MOST_BYTES < length text) × (fault ≡ TooLong)) ⊎ ((length text ≤ MOST_BYTES) × IsBoardFault n (tidy text) fault)
