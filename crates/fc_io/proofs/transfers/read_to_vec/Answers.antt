use Rattle.std.proofs.Common.{◌+◌, length-take, arith}
use Rattle.fc_io.specs.Moves.{GivesAtMost}
use Rattle.fc_io.proofs.MoveLemmas.{gives_then_at_most}
use Rattle.fc_io.proofs.transfers.read_to_vec.Given
use Rattle.fc_io.proofs.transfers.read_to_vec.Goals as goal
use Rattle.fc_io.proofs.transfers.read_to_vec.Goals.{After-read_up_to}

-- whatever the read answers, one byte more than the limit is the most that came
taken : (g : Given.Over) (c : After-read_up_to g)
    → GivesAtMost (g.S.Source.told c.args.source.now) (g.S.Source.told c.read_up_to.new.source) (c.args.limit + 1)
taken g c =
    gives_then_at_most _ _ _ c.loop-bytes.bytes.items _ _ c.loop-bytes.invariant.given c.read_up_to.ensures.taken
    (omega (arith, c.loop-bytes.bytes.ok.0, length-take (c.min-most.result + 1) c.loop-bytes.piece))

pub returns-in_err-count-clause-taken : goal.returns-in_err-count-clause-taken
returns-in_err-count-clause-taken g c = taken g (goal.at.returns-in_err-count-clause-taken g c).After-read_up_to

pub returns-then-count-limit-clause-taken : goal.returns-then-count-limit-clause-taken
returns-then-count-limit-clause-taken g c = taken g (goal.at.returns-then-count-limit-clause-taken g c).After-read_up_to

pub returns-in_err-extend_from_slice-clause-taken : goal.returns-in_err-extend_from_slice-clause-taken
returns-in_err-extend_from_slice-clause-taken g c = taken g (goal.at.returns-in_err-extend_from_slice-clause-taken g c).After-read_up_to

pub returns-then-count-most-2-clause-taken : goal.returns-then-count-most-2-clause-taken
returns-then-count-most-2-clause-taken g c = taken g (goal.at.returns-then-count-most-2-clause-taken g c).After-read_up_to

pub returns-in_err-reserve_exact-clause-taken : goal.returns-in_err-reserve_exact-clause-taken
returns-in_err-reserve_exact-clause-taken g c = taken g (goal.at.returns-in_err-reserve_exact-clause-taken g c).After-read_up_to
