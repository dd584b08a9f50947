use Rattle.fc_position.specs.Board.{board_of, places}
use Rattle.fc_position.proofs.TallyLemmas.{fault-tally, position-tally}
use Rattle.fc_position.proofs.positions.Position.from_parts.Goals as goal

pub of_parts-requires : goal.of_parts-requires
of_parts-requires c = record {
  whole = position-tally (board_of c.args.columns c.args.cells c.args.homes) c.tally_of.result c.tally_of.ensures.shape
      c.requires.counts c.tally_of.ensures.cards c.tally_of.ensures.times c.in-None.ensures.none;
}

pub returns-in-Some-clause-fault : goal.returns-in-Some-clause-fault
returns-in-Some-clause-fault c =
    fault-tally (places (board_of c.args.columns c.args.cells c.args.homes)) c.tally_of.result c.tally_of.ensures.times
    c.in-Some.fault c.in-Some.ensures.fault
