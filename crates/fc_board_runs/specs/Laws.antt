-- What the laws of this crate state.
use Rattle.std.specs.Prelude.{◌≡◌}
use Rattle.fc_board_runs.specs.declared.runs.TheConstants.{LONGEST_BOARD}

-- the most bytes of a board's text
abbrev pub NumbersAreTold : Type 0
NumbersAreTold = LONGEST_BOARD ≡ 4096
