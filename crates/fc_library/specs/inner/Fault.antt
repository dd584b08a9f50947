-- How faults of entries are told, within the crate.
use Rattle.fc_replay.specs.declared.faults.ReplayFault.TheVariants.{BadMove, NotAllowed}
use Rattle.fc_lists.specs.declared.faults.PlayFault.{PlayFault}
use Rattle.fc_lists.specs.declared.faults.PlayFault.TheVariants as unplayed
use Rattle.fc_library.specs.declared.call_refusals.CallRefusal.{CallRefusal}
use Rattle.fc_library.specs.declared.call_refusals.CallRefusal.TheVariants as refused

-- how a fault of entries is told
abbrev pub refusal_of : PlayFault → CallRefusal
refusal_of (unplayed.NoEntry step) = refused.Moves (BadMove step)
refusal_of (unplayed.NotAllowed step) = refused.Moves (NotAllowed step)
refusal_of (unplayed.TooManyWays step) = refused.TooManyWays step
refusal_of unplayed.TooLong = refused.TooLong
refusal_of other = refused.Memory
