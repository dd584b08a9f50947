use Rattle.std.proofs.Common.{rules}
use Rattle.fc_board_runs.specs.Devices.{Device, GivesBoard, change}
use Rattle.fc_board_runs.proofs.ReplayLemmas.{replayed_printed, fault_printed}
use Rattle.fc_board_runs.proofs.written_out.run_replay.Goals as goal

pub returns-in-Ok-clause-replayed : goal.returns-in-Ok-clause-replayed
returns-in-Ok-clause-replayed g c =
    let board : Device = change g.B.Source.told g.B.Source.has_failed c.args.board.now c.read_position.new.board in
    let given : GivesBoard (g.G.Game.game c.args.game.now).cells board c.in_ok-start.start = search rules in
    replayed_printed (g.G.Game.game c.args.game.now) board _ _ c.in_ok-start.start given _ c.in-Ok.ensures.replayed

pub returns-in-Err-clause-fault : goal.returns-in-Err-clause-fault
returns-in-Err-clause-fault g c =
    let board : Device = change g.B.Source.told g.B.Source.has_failed c.args.board.now c.read_position.new.board in
    let given : GivesBoard (g.G.Game.game c.args.game.now).cells board c.in_ok-start.start = search rules in
    fault_printed (g.G.Game.game c.args.game.now) board _ _ c.in_ok-start.start given _ c.in-Err.ensures.fault
