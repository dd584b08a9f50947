-- What is looked up of a record's position, within the crate.
use Rattle.fc_position.specs.Board.{Board}
use Rattle.fc_bound.specs.Rows.{IsTableOf}
use Rattle.fc_checker.specs.declared.lookups.Lookup.{Lookup}
use Rattle.fc_checker.specs.declared.lookups.Lookup.TheVariants.{Nothing, Table}

-- where a table is kept, it is that of the board's columns
abbrev pub IsLookupOf : Board → Lookup → Type 0
IsLookupOf b Nothing = Unit {0}
IsLookupOf b (Table table) = IsTableOf b.columns table
