use Rattle.std.proofs.Common.{◌≡◌, length}
use Rattle.fc_codes.specs.inner.Landed.{TellsColumns}
use Rattle.fc_codes.proofs.start_layouts.Layout.code_of.Given as goal

-- the states of the cards of the columns so far are told
abbrev pub invariant-loop-i : goal.invariant-loop-i
invariant-loop-i l = (length l.code ≡ length l.initial.code) × TellsColumns l.self l.position l.i l.initial.code l.code
