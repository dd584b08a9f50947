-- What a walk looks up of columns, within the crate.
use Rattle.std.specs.Prelude.{◌≡◌, true}
use Rattle.fc_position.specs.Board.{Board}
use Rattle.fc_position.specs.Position.{IsPosition}
use Rattle.fc_bound.specs.Rows.{HaveMoved, IsTableBut, IsTableOf}
use Rattle.fc_space.specs.declared.lookups.Lookup.{Lookup}

-- a table of the start's columns, over which another one lies, but for the cards that had moved; where it is laid it is that of the board
pub record IsLookupOf (s b : Board) (l : Lookup) : Type 0 where
  pub whole : IsPosition s
  pub start : IsTableOf s.columns l.start
  pub over : IsTableBut l.moved s.columns l.table
  pub table : l.is_laid ≡ true → IsTableOf b.columns l.table
  pub moved : l.is_laid ≡ true → HaveMoved s.columns b.columns l.moved
