use Rattle.std.proofs.Common.{refl, arith}
use Rattle.std.proofs.lemmas.List.{drop_all}
use Rattle.fc_replay.proofs.ListLoop.{moves_from}
use Rattle.fc_lists.proofs.PlayedLemmas.{underway_allowed, underway_done, underway_next, underway_none}
use Rattle.fc_lists.proofs.list_plays.last_board.Goals as goal

pub loop-m-init : goal.loop-m-init
loop-m-init g c = underway_none _ _ _ _ _ c.copy-board.ensures.value refl c.requires.fits c.requires.run

pub apply-requires : goal.apply-requires
apply-requires g c = record {
  allowed = underway_allowed _ _ _ _ _ _ _ c.loop-m.invariant (moves_from _ _ _ c.loop-m-test.true);
}

pub loop-m-preserved : goal.loop-m-preserved
loop-m-preserved g c = underway_next _ _ _ _ _ _ _ _ c.loop-m.invariant (moves_from _ _ _ c.loop-m-test.true) c.apply.ensures.step

pub returns-clause-run : goal.returns-clause-run
returns-clause-run g c =
    let past = c.loop-m-test.false in
    underway_done _ _ _ _ _ c.loop-m.invariant (drop_all c.loop-m.m-index c.args.moves.now (omega (arith, past)))

pub returns-clause-fits : goal.returns-clause-fits
returns-clause-fits g c = c.loop-m.invariant.position
