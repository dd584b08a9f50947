use Rattle.std.proofs.Common.{◌≡◌, ◌*◌, ◌^◌, min}
use Rattle.fc_typed.proofs.counts.with_zeros.Given as goal

-- so many noughts stand behind the number
abbrev pub invariant-loop : goal.invariant-loop
invariant-loop l = l.value ≡ min (l.fn.value * 10 ^ l.counter) 4294967295
