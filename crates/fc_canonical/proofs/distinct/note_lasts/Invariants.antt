use Rattle.std.proofs.Common.{◌≡◌, length}
use Rattle.fc_canonical.specs.inner.Distinct.{TellLasts}
use Rattle.fc_canonical.proofs.distinct.note_lasts.Given as goal

-- the columns so far are noted
abbrev pub invariant-loop-j : goal.invariant-loop-j
invariant-loop-j l = record { told : TellLasts l.position l.j l.lasts; count : length l.lasts ≡ 15 }
