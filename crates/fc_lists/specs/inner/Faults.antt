-- Why entries aren't expanded, within the crate.
use Rattle.fc_sequences.specs.declared.list_expansions.ListFault.{ListFault}
use Rattle.fc_sequences.specs.declared.list_expansions.ListFault.TheVariants.{Refused, TooMany, Memory as no_room}
use Rattle.fc_lists.specs.declared.faults.PlayFault.{PlayFault}
use Rattle.fc_lists.specs.declared.faults.PlayFault.TheVariants.{NotAllowed, TooManyWays, Memory}

-- why a list of entries wasn't expanded, as a fault of the entries
abbrev pub list_fault : ListFault → PlayFault
list_fault (Refused step) = NotAllowed step
list_fault (TooMany step) = TooManyWays step
list_fault no_room = Memory
