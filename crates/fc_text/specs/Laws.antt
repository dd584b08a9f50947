-- What the laws of this crate state.
use Rattle.std.specs.Prelude.{◌≡◌, ℕ, List}
use Rattle.fc_position.specs.Board.{Board}
use Rattle.fc_text.specs.declared.faults.BoardFault.{BoardFault}
use Rattle.fc_text.specs.Board.{Spells, IsBoardFault}

-- no text spells two positions
abbrev pub TextsSpellOnePosition : Type 0
TextsSpellOnePosition = (n : ℕ) (text : List ℕ) (b c : Board) → Spells n text b → Spells n text c → b ≡ c

-- no text that spells a position has a fault
abbrev pub TextsThatSpellHaveNoFault : Type 0
TextsThatSpellHaveNoFault = (n : ℕ) (text : List ℕ) (b : Board) (fault : BoardFault) → Spells n text b
    → IsBoardFault n text fault → ⊥

-- no text has two faults
abbrev pub TextsHaveOneFault : Type 0
TextsHaveOneFault = (n : ℕ) (text : List ℕ) (f g : BoardFault) → IsBoardFault n text f → IsBoardFault n text g → f ≡ g
