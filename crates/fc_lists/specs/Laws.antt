-- What the laws of this crate state.
use Rattle.std.specs.Prelude.{◌≡◌}
use Rattle.fc_lists.specs.declared.list_plays.TheConstants.{LONGEST_MOVES}

-- the most bytes of a list of moves
abbrev pub NumbersAreTold : Type 0
NumbersAreTold = LONGEST_MOVES ≡ 1048576
