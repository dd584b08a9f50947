use Rattle.std.proofs.Common.{arith}
use Rattle.fc_cert.proofs.LengthLemmas.{listed_long}
use Rattle.fc_cert.proofs.lengths.list_length.Goals as goal

pub returns : goal.returns
returns c =
    let long = listed_long c.args.moves.now in
    let few = c.requires.few in
    record { value = omega (arith, long); few = omega (arith, few) }
