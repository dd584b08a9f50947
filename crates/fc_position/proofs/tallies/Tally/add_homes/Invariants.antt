use Rattle.std.proofs.Common.{cond}
use Rattle.std.specs.Prelude.{nat_lt}
use Rattle.fc_position.specs.Board.{count_at_home}
use Rattle.fc_position.specs.Tally.{Adds}
use Rattle.fc_position.proofs.tallies.Tally.add_homes.Given as goal

-- of the cards that are home, those with lower numbers are counted
abbrev pub invariant-loop-index : goal.invariant-loop-index
invariant-loop-index l = Adds (λ c. cond (nat_lt c l.index) (count_at_home c l.homes) 0) l.initial.self l.self
