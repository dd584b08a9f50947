-- Tables of names as tables of boards.
use Rattle.std.specs.Prelude.{ℕ, List, map}
use Rattle.fc_tables.specs.Table.{Table}
use Rattle.fc_classes.specs.Namings.{Naming}

-- the boards that the names of a table spell, at the same costs
abbrev pub boards_by : Naming → List (List ℕ × ℕ) → Table
boards_by naming table = map (λ e. (naming.spelled e.0, e.1)) table
