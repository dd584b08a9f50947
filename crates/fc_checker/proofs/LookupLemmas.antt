-- What is looked up of boards with the same columns is the same.
use Rattle.std.proofs.Common.{◌≡◌, subst}
use Rattle.fc_position.specs.Board.{Board}
use Rattle.fc_bound.specs.Rows.{IsTableOf}
use Rattle.fc_checker.specs.declared.lookups.Lookup.{Lookup}
use Rattle.fc_checker.specs.declared.lookups.Lookup.TheVariants.{Nothing, Table}
use Rattle.fc_checker.specs.inner.Lookups.{IsLookupOf}

pub looked_alike : (b z : Board) (l : Lookup) → b.columns ≡ z.columns → IsLookupOf b l → IsLookupOf z l
looked_alike b z Nothing same looked = looked
looked_alike b z (Table table) same looked = subst (λ v. IsTableOf v table) same looked
